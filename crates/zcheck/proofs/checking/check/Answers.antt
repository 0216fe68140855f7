use Rattle.zcheck.proofs.Headline.{never_changes, never_faults, plays_alike}
use Rattle.zcheck.proofs.Saves.{plays_safely}
use Rattle.zcheck.proofs.checking.check.Goals as goal

pub returns-clause-never_faults : goal.returns-clause-never_faults
returns-clause-never_faults g c =
    let safe = never_faults g.V.Domain.operations g.met.V.Domain.sound g.V.Spelled.format c.args.story c.args.certificate c.well_spelled.ensures c.in_ok-listing.listing c.loaded_soundly.ensures c.in_ok-listing.ensures.passes c.in_ok-listing.ensures.lists in
    rw c.new.ensures (record { listed = safe.0; everywhere = safe.1 })

pub returns-clause-never_changes : goal.returns-clause-never_changes
returns-clause-never_changes g c =
    let same = never_changes g.V.Domain.operations g.met.V.Domain.sound g.V.Spelled.format c.args.story c.args.certificate c.well_spelled.ensures c.in_ok-listing.listing c.loaded_soundly.ensures c.in_ok-listing.ensures.passes c.in_ok-listing.ensures.lists in
    rw c.new.ensures (record { listed = same.0; everywhere = same.1 })

pub returns-clause-plays_alike : goal.returns-clause-plays_alike
returns-clause-plays_alike g c =
    rw c.new.ensures (plays_alike g.V.Domain.operations g.met.V.Domain.sound g.V.Spelled.format c.args.story c.args.certificate c.well_spelled.ensures c.in_ok-listing.listing c.loaded_soundly.ensures c.in_ok-listing.ensures.passes c.in_ok-listing.ensures.lists)

pub returns-clause-plays_safely : goal.returns-clause-plays_safely
returns-clause-plays_safely g c =
    rw c.new.ensures (plays_safely g.V.Domain.operations g.met.V.Domain.sound g.V.Spelled.format (record { story = c.args.story; certificate = c.args.certificate; listing = c.in_ok-listing.listing }) c.well_spelled.ensures c.loaded_soundly.ensures c.in_ok-listing.ensures.passes c.in_ok-listing.ensures.lists)

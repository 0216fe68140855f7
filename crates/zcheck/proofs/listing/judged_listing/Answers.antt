use Rattle.zcheck.proofs.Lists.{in_order}
use Rattle.zcheck.proofs.listing.judged_listing.Goals as goal

pub new-requires : goal.new-requires
new-requires g c =
    in_order g.V.Spelled.format c.args.story.now c.args.certificate.now c.routines_of.ensures.keeps c.in_ok-records.records.items c.in_ok-routines.routines.items c.in_ok-records.ensures.records c.in_ok-routines.ensures.addresses

use Rattle.std.proofs.Common.{rules, subst, sym, length}
use Rattle.zlist.specs.Labels.{AreListed}
use Rattle.zlist.specs.Listed.{Lists}
use Rattle.zlist.specs.Listing.{ListedCode}
use Rattle.zlist.specs.Numbering.{IsNumbering}
use Rattle.zlist.proofs.Records.{lists}
use Rattle.zlist.proofs.lister.list_story.Goals as goal

pub returns-clause-lists : goal.returns-clause-lists
returns-clause-lists c =
    let story = c.args.story.now in
    let records = c.in_ok-records.records.items in
    let routines = c.in_ok-routines.routines.items in
    let numbers = c.deref-2.result.now in
    let made : ListedCode = record { records = records; routines = routines } in
    let table : IsNumbering routines (length routines) numbers = search rules in
    let listed : AreListed story numbers (length story.memory) records = search rules in
    subst (λ (l : ListedCode). Lists story l) (sym c.in_ok-listing.ensures) (lists story made numbers c.in_default.ensures.none c.in_ok-routines.ensures.called table listed)

use Rattle.std.proofs.Common.{◌≡◌, rules}
use Rattle.std.specs.Prelude.{Ok}
use Rattle.zlist.specs.Listed.{IsCalled, begins}
use Rattle.zlist.proofs.Marking.{grows_on}
use Rattle.zlist.proofs.Reaching.{so_begun}
use Rattle.zlist.proofs.walk.Walk.enter.Goals as goal

pub returns-clause-grows : goal.returns-clause-grows
returns-clause-grows c = grows_on _ _ _ c.call.ensures.grows c.in_ok-mark.ensures.grows

pub returns-clause-sound : goal.returns-clause-sound
returns-clause-sound c = λ story same called sound.
    let it : IsCalled story c.in-Some.address = search rules in
    let at : begins c.args.memory.now c.in-Some.address ≡ Ok c.in-Ok.first = search rules in
    let so = so_begun story c.args.memory.now c.in-Some.address c.in-Ok.first same it at in
    c.in_ok-mark.ensures.sound story (λ e. cc) (search rules) (c.call.ensures.sound story it sound)

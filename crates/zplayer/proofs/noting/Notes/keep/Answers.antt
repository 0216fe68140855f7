use Rattle.std.proofs.Common.{refl, rules}
use Rattle.zplayer.proofs.Noted.{noted_by}
use Rattle.zplayer.proofs.noting.Notes.keep.Goals as goal

pub returns-then-has_place-clause-old : goal.returns-then-has_place-clause-old
returns-then-has_place-clause-old c = λ is. (search (rules, noted_by _ _ _ c.has_place.ensures, c.if-has_place.true), refl)

pub returns-clause-new : goal.returns-clause-new
returns-clause-new c = λ is. (search (rules, noted_by _ _ _ c.has_place.ensures, c.if-has_place.false), search (rules, c.in_ok-push.ensures.items))

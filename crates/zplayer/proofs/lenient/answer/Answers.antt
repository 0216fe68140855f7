use Rattle.std.proofs.Common.{◌≡◌, ◌∙◌, false, inr, refl, rules, sym}
use Rattle.zref.proofs.Excused.{step_unexcused}
use Rattle.zplayer.proofs.lenient.answer.Goals as goal

pub returns-then-not-is_excusable-clause-answers : goal.returns-then-not-is_excusable-clause-answers
returns-then-not-is_excusable-clause-answers c =
    let none : c.is_excusable.result ≡ false = search rules in
    (refl, refl, refl, inr (_, step_unexcused _ _ _ c.requires.fault (sym c.is_excusable.ensures ∙ none), search (rules, c.requires.place)))

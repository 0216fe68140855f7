use Rattle.std.proofs.Common.{[], inl, inr, refl, rules}
use Rattle.zprompt.proofs.prompt.answer_line.Goals as goal

pub returns-in-Ok-None-clause-answers : goal.returns-in-Ok-None-clause-answers
returns-in-Ok-None-clause-answers g c =
    let heard = rw c.in-Ok-None.field-0-is at c.in-Ok-None.ensures.heard in
    ([], g.met.S.SaveStore.itself _, λ before. inr (inl (refl, heard, record { state = refl; turns = refl; words = refl; store = refl; written = refl })))

pub returns-in-Err-clause-answers : goal.returns-in-Err-clause-answers
returns-in-Err-clause-answers g c = ([], g.met.S.SaveStore.itself _, λ before. inr (inr (search rules, record { state = refl; turns = refl; words = refl; store = refl; written = refl })))

use Rattle.std.proofs.Common.{◌∙◌, ◌+◌, List, ℕ, ◌∷◌, length-drop, take, drop, sym, ap, arith}
use Rattle.std.proofs.lemmas.List.{take_all}
use Rattle.zfront.specs.Sourced.{parts}
use Rattle.zfront.proofs.Cuts.{parts_cut}
use Rattle.zfront.proofs.cutting.cut.Goals as goal

pub returns-in-Some-clause-parts : goal.returns-in-Some-clause-parts
returns-in-Some-clause-parts c =
    parts_cut c.args.byte c.args.bytes.now c.in-Some.place (sym c.place_of.ensures.place ∙ c.in-Some.is)
    ∙ ap (λ (l : List ℕ). take c.in-Some.place c.args.bytes.now ∷ parts c.args.byte l) (sym (take_all _ (drop (c.in-Some.place + 1) c.args.bytes.now) (omega (arith, length-drop (c.in-Some.place + 1) c.args.bytes.now))))

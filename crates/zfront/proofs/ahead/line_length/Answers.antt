use Rattle.std.proofs.Common.{◌∙◌, List, ℕ, length, take, sym, ap}
use Rattle.std.specs.Io.BufRead.{take_through}
use Rattle.zfront.proofs.Lining.{line_found, line_unfound, take_room}
use Rattle.zfront.proofs.ahead.line_length.Goals as goal

pub returns-in-Some-clause-count : goal.returns-in-Some-clause-count
returns-in-Some-clause-count c =
    line_found (take c.min.result c.args.held.now) _ (sym c.first_end.ensures.place ∙ c.in-Some.is) ∙ ap (λ (l : List ℕ). length (take_through 10 l)) (take_room c.args.held.now c.args.room _ c.min.ensures)

pub returns-in-None-clause-count : goal.returns-in-None-clause-count
returns-in-None-clause-count c =
    line_unfound (take c.min.result c.args.held.now) (sym c.first_end.ensures.place ∙ c.in-None.is) ∙ ap (λ (l : List ℕ). length (take_through 10 l)) (take_room c.args.held.now c.args.room _ c.min.ensures)

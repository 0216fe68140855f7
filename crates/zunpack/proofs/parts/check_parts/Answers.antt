use Rattle.std.proofs.Common.{◌≡◌, true, List, ℕ, sym, ap, ◌∙◌, rules, tests}
use Rattle.std.proofs.lemmas.Result.{err_from_is_err_and}
use Rattle.zquetzal.specs.Reading.{is_of}
use Rattle.zunpack.specs.Packing.{unpacked}
use Rattle.zunpack.specs.View.{seen_parts}
use Rattle.zunpack.proofs.Made.{argues}
use Rattle.zunpack.proofs.parts.check_parts.Goals as goal

pub returns-in_err-check_memory-clause-err : goal.returns-in_err-check_memory-clause-err
returns-in_err-check_memory-clause-err c =
    let p = err_from_is_err_and c.from_residual.result c.from_residual.ensures.1 in
    let parts = seen_parts c.args.parts in
    let named : is_of c.args.story.now parts.header ≡ true = sym c.is_of.ensures ∙ search (rules, tests) in
    rw (p.1, p.2) (argues c.args.story.now parts c.in_err-check_memory.field-0.0 named (ap (λ (d : List ℕ). unpacked d parts.packed) (sym c.dynamic_memory.ensures.value) ∙ c.in_err-check_memory.ensures.err))

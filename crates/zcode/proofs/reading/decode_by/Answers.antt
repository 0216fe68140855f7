use Rattle.std.proofs.Common.{◌≡◌, drop, ap, ◌∙◌}
use Rattle.std.proofs.lemmas.List.{take_rest}
use Rattle.zcode.specs.Reading.{instruction_at}
use Rattle.zcode.proofs.ReadingLaws.{found_if, only_if, within_if, nothing_past}
use Rattle.zcode.proofs.reading.decode_by.Goals as goal

pub returns-then-memory-at-clause-exact : goal.returns-then-memory-at-clause-exact
returns-then-memory-at-clause-exact c = nothing_past c.args.ends.now c.args.at (rw c.memory-memory.ensures at c.if-memory-at.true)

pub returns-clause-found : goal.returns-clause-found
returns-clause-found c =
    let exact : c.instruction_at.result ≡ instruction_at (drop c.args.at c.args.ends.now) = c.instruction_at.ensures.reads ∙ ap instruction_at (take_rest c.memory-memory.result.now c.args.at ∙ ap (drop c.args.at) c.memory-memory.ensures) in
    found_if _ _ exact

pub returns-clause-only : goal.returns-clause-only
returns-clause-only c =
    let exact : c.instruction_at.result ≡ instruction_at (drop c.args.at c.args.ends.now) = c.instruction_at.ensures.reads ∙ ap instruction_at (take_rest c.memory-memory.result.now c.args.at ∙ ap (drop c.args.at) c.memory-memory.ensures) in
    only_if _ _ exact

pub returns-clause-within : goal.returns-clause-within
returns-clause-within c =
    let exact : c.instruction_at.result ≡ instruction_at (drop c.args.at c.args.ends.now) = c.instruction_at.ensures.reads ∙ ap instruction_at (take_rest c.memory-memory.result.now c.args.at ∙ ap (drop c.args.at) c.memory-memory.ensures) in
    within_if _ c.args.ends.now c.args.at exact

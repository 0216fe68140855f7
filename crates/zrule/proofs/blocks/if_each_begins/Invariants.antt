use Rattle.std.proofs.Common.{ℕ, ◌+◌, ◌<◌, ◌≤◌}
use Rattle.zstate.specs.Step.{unpacked}
use Rattle.zrule.specs.Blocks.{sets_of}
use Rattle.zrule.specs.Claims.{claims_of}
use Rattle.zrule.specs.Rules.{Begins}
use Rattle.zrule.proofs.blocks.if_each_begins.Given as goal

abbrev pub invariant-loop-offset : goal.invariant-loop-offset
invariant-loop-offset g l = (x : ℕ) → l.base ≤ x → x < l.base + l.offset → Begins g.V.Domain.operations (claims_of g.V.Domain.operations l.certificate) l.story (sets_of l.arguments) (unpacked x)

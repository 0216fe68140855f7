use Rattle.std.proofs.Common.{ℕ, ◌+◌, ◌<◌, ◌≤◌}
use Rattle.zstate.specs.Step.{unpacked}
use Rattle.zdomain.specs.Domain.{Within}
use Rattle.zrule.specs.Claims.{claims_of}
use Rattle.zrule.specs.Rules.{result_at}
use Rattle.zrule.proofs.blocks.given_by_each.Given as goal

abbrev pub invariant-loop-offset : goal.invariant-loop-offset
invariant-loop-offset g l = (x : ℕ) → l.base ≤ x → x < l.base + l.offset → Within g.V.Domain.operations (result_at g.V.Domain.operations (claims_of g.V.Domain.operations l.certificate) (unpacked x)) l.gives

use Rattle.std.proofs.Common.{rules}
use Rattle.zplace.proofs.Changing.{state_here, state_inside}
use Rattle.zplace.proofs.bytes.is_object_state.Goals as goal

pub returns-then-behind-from : goal.returns-then-behind-from
returns-then-behind-from c = search (rules, state_here, state_inside)

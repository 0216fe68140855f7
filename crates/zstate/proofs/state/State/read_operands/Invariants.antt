use Rattle.std.proofs.Common.{◌≡◌, drop, length, ◌≤◌}
use Rattle.zstate.specs.State.{popped, read_operands}
use Rattle.zstate.proofs.InTurn.{with_front}
use Rattle.zstate.proofs.state.State.read_operands.Given as goal

abbrev pub invariant-loop-operand : goal.invariant-loop-operand
invariant-loop-operand l = record {
  so_far : with_front l.words.items (read_operands l.story (drop l.operand-index l.operands) (popped l.popped l.self)) ≡ read_operands l.story l.operands l.self;
  long : length l.words.items ≤ l.operand-index;
  within : l.popped ≤ length l.self.frame.stack;
}

use Rattle.std.proofs.Common.{ℕ, ◌∙◌, ap, arith, length}
use Rattle.std.specs.Prelude.{slice_index}
use Rattle.zstate.specs.State.{State}
use Rattle.zmachine.proofs.Stood.{copied_end, copied_on, copied_size}
use Rattle.zmachine.proofs.taking.copy_memory.Goals as goal

pub set_element-requires : goal.set_element-requires
set_element-requires c =
    let same = c.requires.size in
    let within = c.requires.within in
    let low = c.loop-place-test.true in
    let so = ap (λ (t : State). length t.memory) c.loop-place.invariant.so_far in
    let long = copied_size c.loop-place.place c.args.memory.now c.args.state.now.memory (omega arith) c.requires.size in
    omega (arith, so, long, same, within, low)

pub loop-place-preserved : goal.loop-place-preserved
loop-place-preserved c =
    let byte = c.from-in-loop-place.ensures in
    let small = (c.type_inv.memory c.from.result).fits in
    let low = c.loop-place-test.true in
    let within = c.requires.within in
    record { so_far = copied_on c.args.state.now c.args.memory.now c.requires.size c.loop-place.place _ c.loop-place.state _ (byte ∙ ap (λ (k : ℕ). slice_index c.args.memory.now k) c.from.ensures) (omega (arith, byte, small)) (omega (arith, low, within)) c.loop-place.invariant.so_far c.set_element.ensures }

pub returns : goal.returns
returns c = copied_end c.args.state.now c.args.memory.now c.requires.size c.loop-place.place c.args.end c.loop-place.state (omega arith) (omega arith) c.requires.rest c.loop-place.invariant.so_far

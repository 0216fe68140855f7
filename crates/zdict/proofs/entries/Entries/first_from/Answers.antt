use Rattle.std.proofs.Common.{◌+◌, ◌-◌, ◌/◌, arith}
use Rattle.zdict.proofs.Order.{rises_to}
use Rattle.zdict.proofs.entries.Entries.first_from.Goals as goal

pub loop-low-preserved-then-encoded_text-text : goal.loop-low-preserved-then-encoded_text-text
loop-low-preserved-then-encoded_text-text c =
    let entries = c.args.self.now in
    let loop = c.loop-low in
    let middle = loop.low + (loop.high - loop.low) / 2 in
    record {
      between = omega arith;
      within = loop.invariant.within;
      below = λ entry h. omega (arith, c.encoded_text.ensures, c.if-encoded_text-text.true, rises_to entries.memory.now entry middle entries.sound.entries_ordered (omega arith) (omega (arith, entries.all_counted)));
      above = loop.invariant.above;
    }

pub loop-low-preserved : goal.loop-low-preserved
loop-low-preserved c =
    let entries = c.args.self.now in
    let loop = c.loop-low in
    let middle = loop.low + (loop.high - loop.low) / 2 in
    record {
      between = omega arith;
      within = omega (arith, loop.invariant.within);
      below = loop.invariant.below;
      above = λ entry h listed. omega (arith, c.encoded_text.ensures, c.if-encoded_text-text.false, rises_to entries.memory.now middle entry entries.sound.entries_ordered h (omega (arith, entries.all_counted)));
    }

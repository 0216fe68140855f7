use Rattle.std.proofs.Common.{rules, ◌≡◌, ◌≤◌, ◌+◌, ap, length, length-take, take, arith}
use Rattle.zfront.specs.Wrapping.{FeedsTo}
use Rattle.zfront.proofs.Feeding.{held_short}
use Rattle.zfront.proofs.Taking.{FeedsTo-length}
use Rattle.zfront.proofs.pending.Pending.take.Goals as goal

pub invariant_of-self : goal.invariant_of-self
invariant_of-self c =
    let fed : FeedsTo c.self.inside.wrapper c.feed.new.self (take c.min-count.result c.args.piece.now) c.clear.new.self.items c.feed.new.out.items = search rules in
    let counts : length c.feed.new.out.items + length c.feed.new.self.held ≡ length c.clear.new.self.items + length c.self.inside.wrapper.held + length (take c.min-count.result c.args.piece.now) = FeedsTo-length _ _ _ _ _ fed in
    let short : length c.self.inside.wrapper.held ≤ c.self.inside.wrapper.width = held_short _ _ _ c.self.invariant.fits in
    record {
      within = omega arith;
      fits = c.feed.ensures.held;
      bound = omega (arith, counts, short, ap length c.clear.ensures.items, length-take c.min-count.result c.args.piece.now, c.min-count.ensures, fed.feeds.width);
      kept = omega (arith, fed.feeds.width, c.feed.ensures.capacity, c.clear.ensures.capacity, c.self.invariant.kept);
    }

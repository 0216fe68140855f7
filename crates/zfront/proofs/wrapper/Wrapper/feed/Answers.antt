use Rattle.std.proofs.Common.{◌≡◌, List, ℕ, length, ap, subst, sym, arith}
use Rattle.std.proofs.lemmas.List.{take_more}
use Rattle.zfront.specs.Wrapping.{FeedsTo, IsHeld, Wrapping}
use Rattle.zfront.proofs.Taking.{FeedsTo-length, FeedsTo-none, FeedsTo-trans}
use Rattle.zfront.proofs.wrapper.Wrapper.feed.Goals as goal

pub loop-byte-init : goal.loop-byte-init
loop-byte-init c =
    let held : IsHeld c.args.self.now.width c.args.self.now.column c.args.self.now.held = subst (λ (w : Wrapping). IsHeld w.width w.column w.held) c.self.view_is c.self.invariant.fits in
    let same : length c.self.inside.held.items ≡ length c.args.self.now.held = ap (λ (w : Wrapping). length w.held) c.self.view_is in
    record {
      fed = FeedsTo-none c.args.self.now c.reserve.new.self.items held;
      held = held;
      room = omega (arith, same, c.len.ensures, c.self.inside.held.ok.0, c.in_ok-reserve.ensures.ok);
      capacity = omega arith;
    }

pub loop-byte-preserved : goal.loop-byte-preserved
loop-byte-preserved c =
    let more = take_more c.args.piece.now c.loop-byte.byte-index 0 c.loop-byte-test.true in
    let counts = FeedsTo-length _ _ _ _ _ c.take.ensures.fed in
    record {
      fed = subst (λ (piece : List ℕ). FeedsTo c.args.self.now c.take.new.self piece c.reserve.new.self.items c.take.new.out.items) (sym more) (FeedsTo-trans _ _ _ _ _ _ _ _ c.loop-byte.invariant.fed c.take.ensures.fed);
      held = c.take.ensures.held;
      room = omega (arith, counts, c.loop-byte.invariant.room, c.take.ensures.capacity, c.take.new.out.ok.0, c.loop-byte.out.ok.0);
      capacity = omega (arith, c.loop-byte.invariant.capacity, c.take.ensures.capacity);
    }

use Rattle.std.proofs.Common.{◌≡◌, ◌+◌, arith, length}
use Rattle.zquetzal.specs.Reading.{words_of}
use Rattle.zstate.proofs.Packing.{begin_is, begin_packed}
use Rattle.zstate.proofs.frames.Frames.begin_saved.Goals as goal

pub invariant_of-self-2 : goal.invariant_of-self-2
invariant_of-self-2 c =
    let q = c.self.inside in
    let base : c.len.result ≡ length q.words.items + 1 = omega (arith, c.len.ensures, c.push_reserved.ensures.len, c.in_ok-reserve-2.ensures.len, q.words.ok.0) in
    begin_packed q.newest q.callers.items q.words.items c.self.invariant c.args.self.now c.self.view_is _ _ c.replace-caller.ensures.after
    (words_of c.args.frame.locals.now) _ _ base c.word_count.ensures
    (rw (c.push_reserved.ensures.items, c.in_ok-reserve-2.ensures.items) at c.put_words.ensures) (rw (c.in_ok-reserve.ensures.items, c.replace-caller.ensures.value) at c.push_reserved-2.ensures.items)

pub returns : goal.returns
returns c =
    let q = c.self.inside in
    let base : c.len.result ≡ length q.words.items + 1 = omega (arith, c.len.ensures, c.push_reserved.ensures.len, c.in_ok-reserve-2.ensures.len, q.words.ok.0) in
    begin_is q.newest q.callers.items q.words.items c.self.invariant c.args.self.now c.self.view_is _ _ c.replace-caller.ensures.after
    (words_of c.args.frame.locals.now) _ _ base c.word_count.ensures
    (rw (c.push_reserved.ensures.items, c.in_ok-reserve-2.ensures.items) at c.put_words.ensures) (rw (c.in_ok-reserve.ensures.items, c.replace-caller.ensures.value) at c.push_reserved-2.ensures.items)

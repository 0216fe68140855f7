use Rattle.std.proofs.Common.{arith, ◌≡◌, length, sym, take, ◌-◌, ◌+◌}
use Rattle.zstate.specs.Step.{initial, laid_over}
use Rattle.zstate.proofs.Locals.{length_locals}
use Rattle.zstate.proofs.Packing.{enter_is, enter_packed}
use Rattle.zstate.proofs.frames.Frames.enter.Goals as goal

pub invariant_of-self-2 : goal.invariant_of-self-2
invariant_of-self-2 c =
    let q = c.self.inside in
    let x = c.args in
    let long : c.len.result ≡ length q.words.items = omega (arith, c.len.ensures, c.in_ok-reserve-2.ensures.len, q.words.ok.0) in
    let cut : c.truncate.new.self.items ≡ take (length q.words.items - x.taken) q.words.items = rw (long, c.in_ok-reserve-2.ensures.items) at c.truncate.ensures.items in
    let base : c.len-2.result ≡ length c.truncate.new.self.items + 1 = omega (arith, c.len-2.ensures, c.push_reserved.ensures.len, c.truncate.new.self.ok.0) in
    enter_packed q.newest q.callers.items q.words.items c.self.invariant x.self.now c.self.view_is x.taken c.requires.within _ _ c.replace-caller.ensures.after
    (laid_over x.arguments.now (initial x.memory.now x.routine)) _ _
    (rw cut at base) (sym (length_locals x.memory.now x.routine x.arguments.now))
    (rw (c.push_reserved.ensures.items, cut) at c.lay.ensures.laid) (rw (c.in_ok-reserve.ensures.items, c.replace-caller.ensures.value) at c.push_reserved-2.ensures.items)

pub returns-clause-ok : goal.returns-clause-ok
returns-clause-ok c =
    let q = c.self.inside in
    let x = c.args in
    let long : c.len.result ≡ length q.words.items = omega (arith, c.len.ensures, c.in_ok-reserve-2.ensures.len, q.words.ok.0) in
    let cut : c.truncate.new.self.items ≡ take (length q.words.items - x.taken) q.words.items = rw (long, c.in_ok-reserve-2.ensures.items) at c.truncate.ensures.items in
    let base : c.len-2.result ≡ length c.truncate.new.self.items + 1 = omega (arith, c.len-2.ensures, c.push_reserved.ensures.len, c.truncate.new.self.ok.0) in
    enter_is q.newest q.callers.items q.words.items c.self.invariant x.self.now c.self.view_is x.taken c.requires.within _ _ c.replace-caller.ensures.after
    (laid_over x.arguments.now (initial x.memory.now x.routine)) _ _
    (rw cut at base) (sym (length_locals x.memory.now x.routine x.arguments.now))
    (rw (c.push_reserved.ensures.items, cut) at c.lay.ensures.laid) (rw (c.in_ok-reserve.ensures.items, c.replace-caller.ensures.value) at c.push_reserved-2.ensures.items)

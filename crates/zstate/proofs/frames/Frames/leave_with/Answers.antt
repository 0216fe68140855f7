use Rattle.std.proofs.Common.{arith}
use Rattle.zstate.proofs.Packing.{depth_seen, leave_base, leave_with_is, leave_with_packed}
use Rattle.zstate.proofs.frames.Frames.leave_with.Goals as goal

pub unreachable-requires : goal.unreachable-requires
unreachable-requires c =
    let q = c.self.inside in
    omega (arith, c.requires, c.in_default.ensures.cases.0, q.callers.ok.0, depth_seen q.newest q.callers.items q.words.items c.self.invariant c.args.self.now c.self.view_is)

pub overflow_sub-self-inside : goal.overflow_sub-self-inside
overflow_sub-self-inside c = let q = c.self.inside in leave_base q.newest q.callers.items q.words.items c.self.invariant c.args.self.now c.self.view_is c.pop.new.self.items c.in-Some.caller c.in-Some.ensures.items

pub push_reserved-requires : goal.push_reserved-requires
push_reserved-requires c =
    let q = c.self.inside in
    let base = leave_base q.newest q.callers.items q.words.items c.self.invariant c.args.self.now c.self.view_is c.pop.new.self.items c.in-Some.caller c.in-Some.ensures.items in
    omega (arith, base, c.self.invariant.0, c.truncate.ensures.len, c.truncate.ensures.capacity, q.words.ok.0, q.words.ok.1)

pub invariant_of-self : goal.invariant_of-self
invariant_of-self c = let q = c.self.inside in rw (c.push_reserved.ensures.items, c.truncate.ensures.items) (leave_with_packed q.newest q.callers.items q.words.items c.self.invariant c.args.self.now c.self.view_is c.pop.new.self.items c.in-Some.caller c.in-Some.ensures.items c.args.word)

pub returns : goal.returns
returns c = λ f fs called.
    let q = c.self.inside in
    rw (c.push_reserved.ensures.items, c.truncate.ensures.items) (leave_with_is q.newest q.callers.items q.words.items c.self.invariant c.args.self.now c.self.view_is c.pop.new.self.items c.in-Some.caller c.in-Some.ensures.items c.args.word f fs called)

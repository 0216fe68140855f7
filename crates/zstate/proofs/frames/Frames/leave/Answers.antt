use Rattle.std.proofs.Common.{arith}
use Rattle.zstate.proofs.Packing.{depth_seen, leave_base, leave_is, leave_packed}
use Rattle.zstate.proofs.frames.Frames.leave.Goals as goal

pub unreachable-requires : goal.unreachable-requires
unreachable-requires c =
    let q = c.self.inside in
    omega (arith, c.requires, c.in_default.ensures.cases.0, q.callers.ok.0, depth_seen q.newest q.callers.items q.words.items c.self.invariant c.args.self.now c.self.view_is)

pub overflow_sub-self-inside : goal.overflow_sub-self-inside
overflow_sub-self-inside c = let q = c.self.inside in leave_base q.newest q.callers.items q.words.items c.self.invariant c.args.self.now c.self.view_is c.pop.new.self.items c.in-Some.caller c.in-Some.ensures.items

pub invariant_of-self : goal.invariant_of-self
invariant_of-self c = let q = c.self.inside in rw c.truncate.ensures.items (leave_packed q.newest q.callers.items q.words.items c.self.invariant c.args.self.now c.self.view_is c.pop.new.self.items c.in-Some.caller c.in-Some.ensures.items)

pub returns : goal.returns
returns c = λ f fs called.
    let q = c.self.inside in
    rw c.truncate.ensures.items (leave_is q.newest q.callers.items q.words.items c.self.invariant c.args.self.now c.self.view_is c.pop.new.self.items c.in-Some.caller c.in-Some.ensures.items f fs called)

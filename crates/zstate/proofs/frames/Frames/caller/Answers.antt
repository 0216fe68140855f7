use Rattle.std.proofs.Common.{arith, ◌∷◌, ◌-◌, ◌∙◌, ap, sym, length, take}
use Rattle.std.specs.Prelude.{reverse}
use Rattle.std.proofs.lemmas.List.{length-drop}
use Rattle.zstate.specs.State.{Frame}
use Rattle.zstate.specs.Packed.{below, frames_of}
use Rattle.zstate.proofs.Packing.{caller_seen, depth_seen, last_split, leave_base, leave_packed, none_above, none_of}
use Rattle.zstate.proofs.frames.Frames.caller.Goals as goal

pub overflow_sub-self-inside : goal.overflow_sub-self-inside
overflow_sub-self-inside c =
    let q = c.self.inside in
    let n = length q.callers.items - 1 in
    let split = last_split q.callers.items n c.in-Some.head.now (rw c.deref.ensures.value at c.in-Some.ensures.value) (omega arith) in
    leave_base q.newest q.callers.items q.words.items c.self.invariant c.args.self.now c.self.view_is (take n q.callers.items) c.in-Some.head.now split

pub split_at-requires-in-Some : goal.split_at-requires-in-Some
split_at-requires-in-Some c =
    let q = c.self.inside in
    let n = length q.callers.items - 1 in
    let split = last_split q.callers.items n c.in-Some.head.now (rw c.deref.ensures.value at c.in-Some.ensures.value) (omega arith) in
    let under = rw c.deref-in-Some.ensures.value at c.split_at.ensures.front in
    let fits = (leave_packed q.newest q.callers.items q.words.items c.self.invariant c.args.self.now c.self.view_is (take n q.callers.items) c.in-Some.head.now split).0 in
    rw under (omega (arith, fits))

pub lent-requires : goal.lent-requires
lent-requires c =
    let q = c.self.inside in
    let n = length q.callers.items - 1 in
    let split = last_split q.callers.items n c.in-Some.head.now (rw c.deref.ensures.value at c.in-Some.ensures.value) (omega arith) in
    let under = rw c.deref-in-Some.ensures.value at c.split_at.ensures.front in
    let over = rw under at c.split_at-in-Some.ensures.back in
    let fits = (leave_packed q.newest q.callers.items q.words.items c.self.invariant c.args.self.now c.self.view_is (take n q.callers.items) c.in-Some.head.now split).0 in
    rw over (omega (arith, fits, length-drop c.in-Some.head.now.base (below q.newest q.words.items)))

pub returns-in-Some : goal.returns-in-Some
returns-in-Some c =
    let q = c.self.inside in
    let n = length q.callers.items - 1 in
    let split = last_split q.callers.items n c.in-Some.head.now (rw c.deref.ensures.value at c.in-Some.ensures.value) (omega arith) in
    let under = rw c.deref-in-Some.ensures.value at c.split_at.ensures.front in
    let over = rw under at c.split_at-in-Some.ensures.back in
    let front = take n q.callers.items in
    let callers = frames_of (reverse front) (below c.in-Some.head.now (below q.newest q.words.items)) in
    (callers, caller_seen q.newest q.callers.items q.words.items c.self.invariant c.args.self.now c.self.view_is front c.in-Some.head.now split ∙ ap (λ (f : Frame). f ∷ callers) (sym (rw over at c.lent.ensures)))

pub returns-in-None : goal.returns-in-None
returns-in-None c =
    let q = c.self.inside in
    let none = none_above q.callers.items (length q.callers.items - 1) (rw c.deref.ensures.value at c.in-None.ensures.value) in
    none_of c.args.self.now.callers (omega (arith, none, depth_seen q.newest q.callers.items q.words.items c.self.invariant c.args.self.now c.self.view_is))

use Rattle.std.proofs.Common.{◌≡◌, ◌∙◌, ◌-◌, ◌<◌, ◌≤◌, ℕ, List, ap, arith, get_or, length, refl, sym, take, slice_get, Some}
use Rattle.std.proofs.lemmas.Bool.{ltb-false, ltb-true}
use Rattle.std.proofs.lemmas.List.{length-drop, length-take}
use Rattle.std.proofs.lemmas.Option.{slice_get_read}
use Rattle.zstate.specs.declared.head.Head.{Head}
use Rattle.zstate.specs.State.{Frame}
use Rattle.zstate.proofs.Held.{caller_held, newest_held}
use Rattle.zstate.proofs.Packing.{depth_seen}
use Rattle.zstate.proofs.frames.Frames.frame.Goals as goal

there : (heads : List Head) (k : ℕ) (g : Head) → k < length heads → g ≡ get_or heads k g → slice_get heads k ≡ Some g
there heads k g inside is = slice_get_read heads (length heads) k g refl inside is

pub overflow_sub-above : goal.overflow_sub-above
overflow_sub-above c =
    let q = c.self.inside in
    let is = caller_held q.newest q.callers.items q.words.items c.args.self.now c.args.number c.in-Some.head.now c.head_above-above.result c.self.invariant c.self.view_is (there q.callers.items c.args.number c.in-Some.head.now (ltb-true c.args.number (length q.callers.items) (sym (rw c.deref.ensures.value at c.in-Some.ensures.lookup.0))) (rw c.deref.ensures.value at c.in-Some.ensures.lookup.1)) (rw c.as_slice.ensures.value at c.head_above-above.ensures) in
    is.0.one

pub split_at-requires : goal.split_at-requires
split_at-requires c =
    let q = c.self.inside in
    let is = caller_held q.newest q.callers.items q.words.items c.args.self.now c.args.number c.in-Some.head.now c.head_above-above.result c.self.invariant c.self.view_is (there q.callers.items c.args.number c.in-Some.head.now (ltb-true c.args.number (length q.callers.items) (sym (rw c.deref.ensures.value at c.in-Some.ensures.lookup.0))) (rw c.deref.ensures.value at c.in-Some.ensures.lookup.1)) (rw c.as_slice.ensures.value at c.head_above-above.ensures) in
    rw c.deref-in-Some.ensures.value is.0.inside

pub split_at-requires-in-Some : goal.split_at-requires-in-Some
split_at-requires-in-Some c =
    let q = c.self.inside in
    let is = caller_held q.newest q.callers.items q.words.items c.args.self.now c.args.number c.in-Some.head.now c.head_above-above.result c.self.invariant c.self.view_is (there q.callers.items c.args.number c.in-Some.head.now (ltb-true c.args.number (length q.callers.items) (sym (rw c.deref.ensures.value at c.in-Some.ensures.lookup.0))) (rw c.deref.ensures.value at c.in-Some.ensures.lookup.1)) (rw c.as_slice.ensures.value at c.head_above-above.ensures) in
    let under = rw c.deref-in-Some.ensures.value at c.split_at.ensures.front in
    let long = length-take (c.head_above-above.result.base - 1) q.words.items in
    rw under (omega (arith, long, is.0.fits, is.0.inside))

pub lent-requires : goal.lent-requires
lent-requires c =
    let q = c.self.inside in
    let is = caller_held q.newest q.callers.items q.words.items c.args.self.now c.args.number c.in-Some.head.now c.head_above-above.result c.self.invariant c.self.view_is (there q.callers.items c.args.number c.in-Some.head.now (ltb-true c.args.number (length q.callers.items) (sym (rw c.deref.ensures.value at c.in-Some.ensures.lookup.0))) (rw c.deref.ensures.value at c.in-Some.ensures.lookup.1)) (rw c.as_slice.ensures.value at c.head_above-above.ensures) in
    let under = rw c.deref-in-Some.ensures.value at c.split_at.ensures.front in
    let over = rw under at c.split_at-in-Some.ensures.back in
    let long = length-take (c.head_above-above.result.base - 1) q.words.items in
    let rest = length-drop c.in-Some.head.now.base (take (c.head_above-above.result.base - 1) q.words.items) in
    rw over (omega (arith, rest, long, is.0.fits, is.0.inside))

pub returns-in-Some : goal.returns-in-Some
returns-in-Some c =
    let q = c.self.inside in
    let is = caller_held q.newest q.callers.items q.words.items c.args.self.now c.args.number c.in-Some.head.now c.head_above-above.result c.self.invariant c.self.view_is (there q.callers.items c.args.number c.in-Some.head.now (ltb-true c.args.number (length q.callers.items) (sym (rw c.deref.ensures.value at c.in-Some.ensures.lookup.0))) (rw c.deref.ensures.value at c.in-Some.ensures.lookup.1)) (rw c.as_slice.ensures.value at c.head_above-above.ensures) in
    let under = rw c.deref-in-Some.ensures.value at c.split_at.ensures.front in
    let over = rw under at c.split_at-in-Some.ensures.back in
    is.1 ∙ ap (λ (f : Frame). Some f) (sym (rw over at c.lent.ensures))

pub returns-in-None : goal.returns-in-None
returns-in-None c =
    let q = c.self.inside in
    let deep = depth_seen q.newest q.callers.items q.words.items c.self.invariant c.args.self.now c.self.view_is in
    let none : length q.callers.items ≤ c.args.number = ltb-false c.args.number (length q.callers.items) (sym (rw c.deref.ensures.value at c.in-None.ensures.lookup.0)) in
    newest_held c.args.self.now c.args.number (omega (arith, none, deep, c.requires)) ∙ ap (λ (f : Frame). Some f) (sym c.newest.ensures)

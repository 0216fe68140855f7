-- An answer that is done, over plain variables.
use Rattle.std.proofs.Common.{◌≡◌, ℕ, ◌<◌, ◌+◌, ◌-◌, ◌/◌, ◌%◌, Bool, true, false, nat_lt, slice_set, List, ◌∷◌, length, Option, Some, None, refl, sym, ap, ◌∙◌, arith, if◌then◌else◌}
use Rattle.std.specs.Prelude.{◌==◌, ◌+ℤ◌, ℤ, pos}
use Rattle.std.proofs.lemmas.Bool.{eqb-true}
use Rattle.std.proofs.lemmas.List.{length-set}
use Rattle.zstory.specs.LoadedStory.{LoadedStory}
use Rattle.zcode.specs.Instruction.{Instruction}
use Rattle.zcode.specs.Operation.{target}
use Rattle.zstate.specs.State.{Frame, State, at_place, exists, global, popped, put, put_named, with_locals, with_memory, with_stack, write_word}
use Rattle.zstate.specs.Step.{Move, act, advance, changed, course, left, moved, stored}
use Rattle.zstate.proofs.Keeps.{Aside, put_aside}
use Rattle.zlenient.specs.declared.settling.Course.{Course}
use Rattle.zlenient.specs.declared.settling.Course.TheVariants.{Back, On}
use Rattle.zlenient.specs.Answer.{IsOpenWay, effect_with, move_of, place_after}

-- ---- a frame that is left

abbrev pub behind : Frame → List Frame → State → State
behind g gs s = record s { frame = g; callers = gs; place = pos s.frame.return_place }

put_zero : (story : LoadedStory) (v x : ℕ) (s : State) → v ≡ 0 → put story v x s ≡ with_stack (x ∷ s.frame.stack) s
unfolding put
put_zero story v x s e = rw e refl

put_other : (story : LoadedStory) (v x : ℕ) (s : State) → 0 < v → put story v x s ≡ put_named story v x s
unfolding put
put_other story v x s h = by_kind (v == 0) refl
  where
    by_kind : (b : Bool) → (v == 0) ≡ b → (if b then with_stack (x ∷ s.frame.stack) s else put_named story v x s) ≡ put_named story v x s
    by_kind true e = let zero_v : v ≡ 0 = eqb-true v 0 e in absurd (omega (arith, h, zero_v))
    by_kind false e = refl

left_is : (story : LoadedStory) (x : ℕ) (s : State) (g : Frame) (gs : List Frame) → s.callers ≡ g ∷ gs → left story x s.callers s ≡ put story s.frame.result x (behind g gs s)
left_is story x s g gs e = ap (λ (l : List Frame). left story x l s) e

pub push_left : (story : LoadedStory) (x : ℕ) (s u : State) (g : Frame) (gs : List Frame) → s.callers ≡ g ∷ gs → s.frame.result ≡ 0 → u ≡ behind (record g { stack = x ∷ g.stack }) gs s → u ≡ left story x s.callers s
push_left story x s u g gs e none is = is ∙ sym (left_is story x s g gs e ∙ put_zero story s.frame.result x (behind g gs s) none)

pub put_left : (story : LoadedStory) (v x : ℕ) (s w u : State) (g : Frame) (gs : List Frame) → s.callers ≡ g ∷ gs → s.frame.result ≡ v → 0 < v → w ≡ behind g gs s → u ≡ put_named story v x w → u ≡ left story x s.callers s
put_left story v x s w u g gs e result some is_w is =
    is ∙ ap (λ (t : State). put_named story v x t) is_w
    ∙ sym (left_is story x s g gs e ∙ ap (λ (k : ℕ). put story k x (behind g gs s)) result ∙ put_other story v x (behind g gs s) some)

-- it doesn't matter where the frame stood that is left
pub left_elsewhere : (story : LoadedStory) (x : ℕ) (p : ℤ) (s : State) (g : Frame) (gs : List Frame) → s.callers ≡ g ∷ gs → left story x s.callers s ≡ left story x s.callers (at_place p s)
left_elsewhere story x p s g gs e = left_is story x s g gs e ∙ sym (ap (λ (l : List Frame). left story x l (at_place p s)) e)

-- ---- what is given

named_size : (story : LoadedStory) (v x : ℕ) (s : State) → length (put_named story v x s).memory ≡ length s.memory
unfolding put_named
named_size story v x s = by_kind (nat_lt v 16)
  where
    by_kind : (c : Bool) → length (if c then with_locals (slice_set s.frame.locals (v - 1) x) s else with_memory (write_word s.memory (global story v) x) s).memory ≡ length s.memory
    by_kind true = refl
    by_kind false = length-set (slice_set s.memory (global story v) (x / 256)) (global story v + 1) (x % 256) ∙ length-set s.memory (global story v) (x / 256)

put_size : (story : LoadedStory) (v x : ℕ) (s : State) → length (put story v x s).memory ≡ length s.memory
unfolding put
put_size story v x s = by_kind (v == 0)
  where
    by_kind : (b : Bool) → length (if b then with_stack (x ∷ s.frame.stack) s else put_named story v x s).memory ≡ length s.memory
    by_kind true = refl
    by_kind false = named_size story v x s

pub stored_aside : (story : LoadedStory) (gives : Option ℕ) (v : ℕ) (s : State) → Aside s (stored story gives v s)
stored_aside story None v s = record { place = refl; callers = refl; result = refl; return_place = refl }
stored_aside story (Some x) v s = put_aside story v x s

pub stored_size : (story : LoadedStory) (gives : Option ℕ) (v : ℕ) (s : State) → length (stored story gives v s).memory ≡ length s.memory
stored_size story None v s = refl
stored_size story (Some x) v s = put_size story v x s

-- the way is open as it was, once a value was given
pub way_stored : (story : LoadedStory) (gives : Option ℕ) (v n : ℕ) (c : Course) (s t : State) → t ≡ stored story gives v (popped n s) → IsOpenWay c s → IsOpenWay c t
way_stored story gives v n (On d) s t is way = way
way_stored story gives v n (Back x) s t is way =
    let aside = stored_aside story gives v (popped n s) in
    let callers : t.callers ≡ s.callers = ap (λ (u : State). u.callers) is ∙ aside.callers in
    let result : t.frame.result ≡ s.frame.result = ap (λ (u : State). u.frame.result) is ∙ aside.result in
    (way.0, way.1, callers ∙ way.2, ap (λ (k : ℕ). exists k way.0) result ∙ way.3, rw result way.4)

pub place_stored : (story : LoadedStory) (gives : Option ℕ) (v n : ℕ) (s t : State) → t ≡ stored story gives v (popped n s) → t.place ≡ s.place
place_stored story gives v n s t is = ap (λ (u : State). u.place) is ∙ (stored_aside story gives v (popped n s)).place

pub reached_stored : (story : LoadedStory) (gives : Option ℕ) (v n : ℕ) (s t : State) → t ≡ stored story gives v (popped n s) → t.frame.return_place ≡ s.frame.return_place
reached_stored story gives v n s t is = ap (λ (u : State). u.frame.return_place) is ∙ (stored_aside story gives v (popped n s)).return_place

pub size_stored : (story : LoadedStory) (gives : Option ℕ) (v n : ℕ) (s t : State) → t ≡ stored story gives v (popped n s) → length t.memory ≡ length s.memory
size_stored story gives v n s t is = ap (λ (u : State). length u.memory) is ∙ stored_size story gives v (popped n s)

-- ---- the whole

pub acted_is : (story : LoadedStory) (i : Instruction) (gives : Option ℕ) (tests : Option Bool) (c : Course) (v n : ℕ) (s t u : State) (size : ℕ) → move_of c ≡ course (effect_with gives tests) i.branch → v ≡ target i → t ≡ stored story gives v (popped n s) → size ≡ i.size → u ≡ moved story (target i) (move_of c) (at_place (t.place +ℤ pos size) t) → u ≡ act story i (effect_with gives tests) (popped n s)
unfolding act changed
acted_is story i gives tests c v n s t u size where_to at is_t long is_u =
    is_u
    ∙ ap (λ (k : ℕ). moved story (target i) (move_of c) (at_place (t.place +ℤ pos k) t)) long
    ∙ ap (λ (w : State). moved story (target i) (move_of c) (advance i w)) (is_t ∙ ap (λ (k : ℕ). stored story gives k (popped n s)) at)
    ∙ ap (λ (m : Move). moved story (target i) m (advance i (stored story gives (target i) (popped n s)))) where_to

-- where it leads, and how long memory is then
pub acted_place : (story : LoadedStory) (i : Instruction) (gives : Option ℕ) (tests : Option Bool) (c : Course) (n : ℕ) (s : State) → move_of c ≡ course (effect_with gives tests) i.branch → IsOpenWay c s → (act story i (effect_with gives tests) (popped n s)).place ≡ place_after i.size c s
unfolding act changed
acted_place story i gives tests c n s where_to way = ap (λ (m : Move). (moved story (target i) m (advance i t)).place) (sym where_to) ∙ by c way
  where
    t : State
    t = stored story gives (target i) (popped n s)

    by : (k : Course) → IsOpenWay k s → (moved story (target i) (move_of k) (advance i t)).place ≡ place_after i.size k s
    by (On d) open_way = ap (λ (z : ℤ). (z +ℤ pos i.size) +ℤ d) (stored_aside story gives (target i) (popped n s)).place
    by (Back x) open_way =
        let aside = stored_aside story gives (target i) (popped n s) in
        let callers : t.callers ≡ open_way.0 ∷ open_way.1 = aside.callers ∙ open_way.2 in
        ap (λ (l : List Frame). (left story x l (advance i t)).place) callers ∙ (put_aside story t.frame.result x (behind open_way.0 open_way.1 (advance i t))).place ∙ ap (λ (k : ℕ). pos k) aside.return_place

pub acted_size : (story : LoadedStory) (i : Instruction) (gives : Option ℕ) (tests : Option Bool) (c : Course) (n : ℕ) (s : State) → move_of c ≡ course (effect_with gives tests) i.branch → IsOpenWay c s → length (act story i (effect_with gives tests) (popped n s)).memory ≡ length s.memory
unfolding act changed
acted_size story i gives tests c n s where_to way = ap (λ (m : Move). length (moved story (target i) m (advance i t)).memory) (sym where_to) ∙ by c way ∙ stored_size story gives (target i) (popped n s)
  where
    t : State
    t = stored story gives (target i) (popped n s)

    by : (k : Course) → IsOpenWay k s → length (moved story (target i) (move_of k) (advance i t)).memory ≡ length t.memory
    by (On d) open_way = refl
    by (Back x) open_way =
        let aside = stored_aside story gives (target i) (popped n s) in
        let callers : t.callers ≡ open_way.0 ∷ open_way.1 = aside.callers ∙ open_way.2 in
        ap (λ (l : List Frame). length (left story x l (advance i t)).memory) callers ∙ put_size story t.frame.result x (behind open_way.0 open_way.1 (advance i t))

-- An answer leads from a state to a state, and leaves static memory as it is.
use Rattle.std.proofs.Common.{◌≡◌, ℕ, zero, suc, ◌+◌, ◌-◌, ◌/◌, ◌%◌, ◌<◌, ◌≤◌, nat_lt, drop, slice_set, Option, Some, None, Bool, true, false, List, [], ◌∷◌, length, Ok, refl, sym, ap, subst, ◌∙◌, arith, inl, inr, if◌then◌else◌}
use Rattle.std.specs.Prelude.{◌==◌, ◌||◌, not, is_some, IfSome, pos, ◌^◌, slice_index}
use Rattle.std.proofs.lemmas.Bool.{cases_lt, ltb-true, ltb-false}
use Rattle.std.proofs.lemmas.Bool.Decides.{eqb_tells}
use Rattle.std.proofs.lemmas.List.{drop-set-lt, get_or-drop, get_or-set_same, get_or-set_other, get_or_past, length-drop, length-set}
use Rattle.zobj.proofs.Tables.{table_put, table_stays}
use Rattle.zstory.specs.LoadedStory.{LoadedStory, globals, static_base}
use Rattle.zcode.specs.Instruction.{Instruction}
use Rattle.zcode.specs.Operation.{target}
use Rattle.zstate.specs.declared.halt.Halt.TheVariants as halts
use Rattle.zstate.specs.State.{AreFrames, AreWords, Frame, IsFirst, IsFrame, IsState, State, global, has_room, popped, put, put_named, with_locals, with_memory, with_stack, write_word}
use Rattle.zstate.specs.Step.{Move, act, admits, advance, asked, back, changed, course, is_roomy, left, moved, pauses, settle, stored}
use Rattle.zstate.proofs.Steps.{bind_ok}
use Rattle.zstate.proofs.Effects.{asked_true}
use Rattle.zlenient.specs.declared.settling.Course.{Course}
use Rattle.zlenient.specs.declared.settling.Course.TheVariants.{Back, On}
use Rattle.zlenient.specs.Answer.{IsShortWay, effect_with, move_of}
use Rattle.zlenient.proofs.Acted.{stored_aside}

-- ---- lists of numbers below a bound

abbrev Below : ℕ → List ℕ → Type 0
Below bound xs = (k : ℕ) → slice_index xs k < bound

set_below : (bound : ℕ) (xs : List ℕ) (at x : ℕ) → x < bound → Below bound xs → Below bound (slice_set xs at x)
set_below bound xs at x small below k = elim (eqb_tells k at) [
  | inr other ↦ let e : slice_index (slice_set xs at x) k ≡ slice_index xs k = get_or-set_other xs at k x 0 other.1 in omega (arith, e, below k)
  | inl same ↦ elim (cases_lt at (length xs)) [
    | inl inside ↦ let e : slice_index (slice_set xs at x) k ≡ x = ap (slice_index (slice_set xs at x)) same.1 ∙ get_or-set_same xs at x 0 inside in omega (arith, e, small)
    | inr outside ↦ let e : slice_index (slice_set xs at x) k ≡ 0 = get_or_past (slice_set xs at x) k 0 (let size : length (slice_set xs at x) ≡ length xs = length-set xs at x in omega (arith, size, same.1, outside)) in omega (arith, e, small)
  ]
]

pushed_below : (bound x : ℕ) (xs : List ℕ) → x < bound → Below bound xs → Below bound (x ∷ xs)
pushed_below bound x xs small below zero = small
pushed_below bound x xs small below (suc k) = below k

drop_below : (bound n : ℕ) (xs : List ℕ) → Below bound xs → Below bound (drop n xs)
drop_below bound n xs below k = let e = get_or-drop n xs k 0 in omega (arith, e, below (n + k))

-- ---- frames

newest : (f : Frame) (gs : List Frame) → AreFrames f gs → IsFrame f
newest f [] h = h.0
newest f (g ∷ gs) h = h.0

frames_changed : (f g : Frame) (gs : List Frame) → (IsFrame f → IsFrame g) → (IsFirst f → IsFirst g) → AreFrames f gs → AreFrames g gs
frames_changed f g [] a b h = (a h.0, b h.1)
frames_changed f g (k ∷ ks) a b h = (a h.0, h.1)

no_locals : (locals : List ℕ) (k x : ℕ) → locals ≡ [] → slice_set locals k x ≡ []
no_locals locals k x e = rw e refl

module _ (limit : ℕ) (story : LoadedStory) (behind : 64 ≤ globals story) where
  stack_keeps : (stack : List ℕ) (s : State) → length stack ≤ 65535 → AreWords stack → IsState limit story s → IsState limit story (with_stack stack s)
  stack_keeps stack s low words h = record {
    memory = h.memory;
    bytes = h.bytes;
    objects = h.objects;
    tables = h.tables;
    frames = frames_changed s.frame _ s.callers (λ f. record { reached = f.reached; result = f.result; supplied = f.supplied; locals = f.locals; stack = low; local_words = f.local_words; stack_words = words }) (λ f. record { return_place = f.return_place; result = f.result; supplied = f.supplied; locals = f.locals }) h.frames;
    few = h.few;
    count = h.count;
  }

  -- words are taken off the stack
  pub popped_keeps : (n : ℕ) (s : State) → IsState limit story s → IsState limit story (popped n s)
  popped_keeps n s h =
      let f = newest s.frame s.callers h.frames in
      let size = length-drop n s.frame.stack in
      let low = f.stack in
      stack_keeps (drop n s.frame.stack) s (omega (arith, size, low)) (drop_below 65536 n s.frame.stack f.stack_words) h

  named_keeps : (v x : ℕ) (s : State) → x < 65536 → IsState limit story s → IsState limit story (put_named story v x s)
  unfolding put_named
  named_keeps v x s small h = by_kind (nat_lt v 16)
    where
      by_kind : (c : Bool) → IsState limit story (if c then with_locals (slice_set s.frame.locals (v - 1) x) s else with_memory (write_word s.memory (global story v) x) s)
      by_kind true =
          record {
            memory = h.memory;
            bytes = h.bytes;
            objects = h.objects;
            tables = h.tables;
            frames = frames_changed s.frame _ s.callers (λ f. record { reached = f.reached; result = f.result; supplied = f.supplied; locals = rw (length-set s.frame.locals (v - 1) x) f.locals; stack = f.stack; local_words = set_below 65536 s.frame.locals (v - 1) x small f.local_words; stack_words = f.stack_words }) (λ f. record { return_place = f.return_place; result = f.result; supplied = f.supplied; locals = no_locals s.frame.locals (v - 1) x f.locals }) h.frames;
            few = h.few;
            count = h.count;
          }
      by_kind false =
          let at : ℕ = global story v in
          record {
            memory = length-set (slice_set s.memory at (x / 256)) (at + 1) (x % 256) ∙ length-set s.memory at (x / 256) ∙ h.memory;
            bytes = set_below 256 (slice_set s.memory at (x / 256)) (at + 1) (x % 256) (omega arith) (set_below 256 s.memory at (x / 256) (omega (arith, small)) h.bytes);
            objects = table_put (slice_set s.memory at (x / 256)) (at + 1) (x % 256) story.objects (omega (arith, behind)) (table_put s.memory at (x / 256) story.objects (omega (arith, behind)) h.objects);
            tables = table_stays (slice_set s.memory at (x / 256)) (at + 1) (x % 256) (omega (arith, behind)) ∙ table_stays s.memory at (x / 256) (omega (arith, behind)) ∙ h.tables;
            frames = h.frames;
            few = h.few;
            count = h.count;
          }

  put_keeps : (v x : ℕ) (s : State) → x < 65536 → has_room v s.frame ≡ true → IsState limit story s → IsState limit story (put story v x s)
  unfolding put
  put_keeps v x s small room h = by_kind (v == 0) room
    where
      by_kind : (b : Bool) → (if b then nat_lt (length s.frame.stack) 65535 else true) ≡ true → IsState limit story (if b then with_stack (x ∷ s.frame.stack) s else put_named story v x s)
      by_kind true e =
          let room = ltb-true (length s.frame.stack) 65535 e in
          stack_keeps (x ∷ s.frame.stack) s (omega (arith, room)) (pushed_below 65536 x s.frame.stack small (newest s.frame s.callers h.frames).stack_words) h
      by_kind false e = named_keeps v x s small h

  stored_keeps : (x : Option ℕ) (v : ℕ) (s : State) → IfSome x (λ y. y < 65536) → (not (is_some x) || has_room v s.frame) ≡ true → IsState limit story s → IsState limit story (stored story x v s)
  stored_keeps None v s small room h = h
  stored_keeps (Some x) v s small room h = put_keeps v x s small room h

  left_keeps : (x : ℕ) (gs : List Frame) (s : State) → x < 65536 → s.callers ≡ gs → is_roomy limit (back x) s.frame.result gs ≡ true → IsState limit story s → IsState limit story (left story x gs s)
  left_keeps x [] s small is room h = h
  left_keeps x (g ∷ gs) s small is room h =
      let frames : AreFrames s.frame (g ∷ gs) = subst (λ (ks : List Frame). AreFrames s.frame ks) is h.frames in
      let few : suc (length gs) ≤ limit = subst (λ (ks : List Frame). length ks ≤ limit) is h.few in
      put_keeps s.frame.result x (record s { frame = g; callers = gs; place = pos s.frame.return_place }) small room (record { memory = h.memory; bytes = h.bytes; objects = h.objects; tables = h.tables; frames = frames.1; few = omega (arith, few); count = h.count })

  moved_keeps : (v : ℕ) (c : Course) (t u : State) → IsShortWay c → is_roomy limit (move_of c) t.frame.result t.callers ≡ true → u.callers ≡ t.callers → u.frame.result ≡ t.frame.result → IsState limit story u → IsState limit story (moved story v (move_of c) u)
  moved_keeps v (On d) t u small room callers result h = record { memory = h.memory; bytes = h.bytes; objects = h.objects; tables = h.tables; frames = h.frames; few = h.few; count = h.count }
  moved_keeps v (Back x) t u small room callers result h = left_keeps x u.callers u small refl (rw (callers, result) room) h

  -- there is room for what is given, and for what is returned
  rooms : (v : ℕ) (gives : Option ℕ) (tests : Option Bool) (move : Move) (r : State) → pauses limit v (effect_with gives tests) move r ≡ Ok tt → ((not (is_some gives) || has_room v r.frame) ≡ true) × (is_roomy limit move r.frame.result r.callers ≡ true)
  unfolding pauses
  rooms v gives tests move r ok =
      let d = bind_ok (asked (not (is_some gives) || has_room v r.frame) halts.FrameLimit) (λ u. asked (is_roomy limit move r.frame.result r.callers) halts.FrameLimit) tt ok in
      (asked_true (not (is_some gives) || has_room v r.frame) halts.FrameLimit d.0 d.1, asked_true (is_roomy limit move r.frame.result r.callers) halts.FrameLimit tt d.2)

  -- where nothing keeps an answer from being done
  pub act_keeps : (i : Instruction) (gives : Option ℕ) (tests : Option Bool) (c : Course) (n : ℕ) (s : State) → IfSome gives (λ y. y < 65536) → IsShortWay c → move_of c ≡ course (effect_with gives tests) i.branch → settle limit i (effect_with gives tests) (popped n s) ≡ Ok tt → IsState limit story s → IsState limit story (act story i (effect_with gives tests) (popped n s))
  unfolding act changed
  act_keeps i gives tests c n s small few where_to settled h =
      let r = popped n s in
      let e = effect_with gives tests in
      let z = bind_ok (admits (target i) e (course e i.branch) r) (λ u. pauses limit (target i) e (course e i.branch) r) tt settled in
      let room = rooms (target i) gives tests (course e i.branch) r z.2 in
      let u = stored story gives (target i) r in
      let k = stored_keeps gives (target i) r small room.0 (popped_keeps n s h) in
      let aside = stored_aside story gives (target i) r in
      let roomy : is_roomy limit (move_of c) r.frame.result r.callers ≡ true = ap (λ (m : Move). is_roomy limit m r.frame.result r.callers) where_to ∙ room.1 in
      subst (λ (m : Move). IsState limit story (moved story (target i) m (advance i u))) where_to (moved_keeps (target i) c r (advance i u) few roomy aside.callers aside.result (record { memory = k.memory; bytes = k.bytes; objects = k.objects; tables = k.tables; frames = k.frames; few = k.few; count = k.count }))

-- ---- static memory

module _ (story : LoadedStory) (within : globals story + 480 ≤ static_base story) where
  named_fixed : (v x : ℕ) (s : State) → v < 256 → drop (static_base story) (put_named story v x s).memory ≡ drop (static_base story) s.memory
  unfolding put_named
  named_fixed v x s low = by_kind (nat_lt v 16) refl
    where
      by_kind : (c : Bool) → nat_lt v 16 ≡ c → drop (static_base story) (if c then with_locals (slice_set s.frame.locals (v - 1) x) s else with_memory (write_word s.memory (global story v) x) s).memory ≡ drop (static_base story) s.memory
      by_kind true is = refl
      by_kind false is =
          let least = ltb-false v 16 is in
          drop-set-lt (static_base story) (slice_set s.memory (global story v) (x / 256)) (global story v + 1) (x % 256) (omega (arith, within, low, least)) ∙ drop-set-lt (static_base story) s.memory (global story v) (x / 256) (omega (arith, within, low, least))

  put_fixed : (v x : ℕ) (s : State) → v < 256 → drop (static_base story) (put story v x s).memory ≡ drop (static_base story) s.memory
  unfolding put
  put_fixed v x s low = by_kind (v == 0)
    where
      by_kind : (b : Bool) → drop (static_base story) (if b then with_stack (x ∷ s.frame.stack) s else put_named story v x s).memory ≡ drop (static_base story) s.memory
      by_kind true = refl
      by_kind false = named_fixed v x s low

  stored_fixed : (gives : Option ℕ) (v : ℕ) (s : State) → v < 256 → drop (static_base story) (stored story gives v s).memory ≡ drop (static_base story) s.memory
  stored_fixed None v s low = refl
  stored_fixed (Some x) v s low = put_fixed v x s low

  left_fixed : (x : ℕ) (gs : List Frame) (s : State) → s.frame.result < 256 → drop (static_base story) (left story x gs s).memory ≡ drop (static_base story) s.memory
  left_fixed x [] s low = refl
  left_fixed x (g ∷ gs) s low = put_fixed s.frame.result x (record s { frame = g; callers = gs; place = pos s.frame.return_place }) low

  moved_fixed : (v : ℕ) (c : Course) (s : State) → s.frame.result < 256 → drop (static_base story) (moved story v (move_of c) s).memory ≡ drop (static_base story) s.memory
  moved_fixed v (On d) s low = refl
  moved_fixed v (Back x) s low = left_fixed x s.callers s low

  pub act_fixed : (i : Instruction) (gives : Option ℕ) (tests : Option Bool) (c : Course) (n : ℕ) (s : State) → target i < 256 → s.frame.result < 256 → move_of c ≡ course (effect_with gives tests) i.branch → drop (static_base story) (act story i (effect_with gives tests) (popped n s)).memory ≡ drop (static_base story) s.memory
  unfolding act changed
  act_fixed i gives tests c n s low result where_to =
      let u = stored story gives (target i) (popped n s) in
      let aside = stored_aside story gives (target i) (popped n s) in
      ap (λ (m : Move). drop (static_base story) (moved story (target i) m (advance i u)).memory) (sym where_to)
      ∙ moved_fixed (target i) c (advance i u) (rw aside.result result)
      ∙ stored_fixed gives (target i) (popped n s) low

-- ---- what a state has

pub reached_of : (limit : ℕ) (story : LoadedStory) (s : State) → IsState limit story s → s.frame.return_place < 2 ^ 24
reached_of limit story s h = (newest s.frame s.callers h.frames).reached

pub result_of : (limit : ℕ) (story : LoadedStory) (s : State) → IsState limit story s → s.frame.result < 256
result_of limit story s h = (newest s.frame s.callers h.frames).result

-- What a save makes of memory and of a state, and what is saved of one.
use Rattle.std.proofs.Common.{◌≡◌, ◌≢◌, inl, inr, ℕ, zero, suc, ◌+◌, ◌*◌, ◌-◌, ◌/◌, ◌%◌, ◌<◌, ◌≤◌, nat_le, take, drop, slice_set, Bool, true, false, List, [], ◌∷◌, ◌++◌, length, Result, Ok, refl, sym, ap, subst, ◌∙◌, arith}
use Rattle.std.specs.Prelude.{Option, Some, ◌-ℤ◌, pos, map, option_map, reverse, slice_get, slice_index}
use Rattle.std.proofs.lemmas.Int.{ints}
use Rattle.std.proofs.lemmas.Option.{slice_get-map}
use Rattle.std.specs.List.{AllByRecursion}
use Rattle.std.proofs.lemmas.Bool.{cases_lt, le-leb, leb-true}
use Rattle.std.proofs.lemmas.Bool.Decides.{eqb_tells}
use Rattle.std.proofs.lemmas.List.{length-drop, length-map, length-reverse, length-set, length-take-le, drop-set-lt, get_or-drop, get_or-reverse, get_or-set_other, get_or-set_same, get_or-take, get_or_append_left, get_or_past, map-append, reverse-append, reverse-reverse}
use Rattle.zfault.specs.declared.event.Event.TheVariants as events
use Rattle.zquetzal.specs.declared.error.SaveError.{SaveError}
use Rattle.zquetzal.specs.declared.error.SaveError.TheVariants as errors
use Rattle.zquetzal.specs.Steps.{◌>>=◌, need}
use Rattle.zquetzal.specs.Saved.{AreFrames as AreSavedFrames, Frame as SavedFrame, IsFirst as IsSavedFirst, IsFrame as IsSavedFrame, IsSaved, IsWord, Saved}
use Rattle.zquetzal.proofs.Steps.{need_ok, ok_is}
use Rattle.zstory.specs.Bytes.{AreBytes, byte_at}
use Rattle.zstory.specs.Header.{object_table}
use Rattle.zstory.specs.LoadedStory.{LoadedStory, IsSound, static_base}
use Rattle.zline.specs.Storing.{with_bytes}
use Rattle.zline.proofs.Keeping.{before_bytes, behind_bytes, bytes_size, from_bytes}
use Rattle.zstate.specs.Packed.{Chain, above, piled}
use Rattle.zstate.specs.State.{AreFrames, AreWords, Frame, IsFirst, IsFrame, IsState, Scope, Setting, State, keeping_flags}
use Rattle.zstate.specs.Step.{fetch}
use Rattle.zstate.specs.Saves.{IsOfStory, SavesGoOn, SavesKeep, StatesAreSaved, going_on, kept_frame, resumed, save_place, saved_of, saves, taken_frame, taken_memory, with_frames}
use Rattle.zstate.proofs.Held.{turned}
use Rattle.zstate.proofs.Piles.{laid_is}
use Rattle.zstate.proofs.Words.{bytes_over, bytes_set}

-- ---- two bits of a byte stay

pub kept_size : (now memory : List ℕ) → length (keeping_flags now memory) ≡ length memory
kept_size now memory = length-set memory 17 _

pub kept_other : (now memory : List ℕ) (p : ℕ) → p ≢ 17 → byte_at (keeping_flags now memory) p ≡ byte_at memory p
kept_other now memory p other = get_or-set_other memory 17 p _ 0 other

-- ---- memory that is taken from a save

module _ (story : LoadedStory) (saved : List ℕ) (sound : IsSound story.memory) (long : length saved ≡ static_base story) where
  fits : 64 + length (drop 64 saved) ≤ length story.memory
  fits = let rest = length-drop 64 saved in omega (arith, rest, long, sound.static_base_above, sound.static_base_within)

  abbrev over : List ℕ
  over = with_bytes 64 (drop 64 saved) story.memory

  pub taken_size : length (taken_memory story saved) ≡ length story.memory
  taken_size = length-set (slice_set over 16 (byte_at saved 16)) 17 (byte_at saved 17) ∙ length-set over 16 (byte_at saved 16) ∙ bytes_size 64 (drop 64 saved) story.memory fits

  beside : (p : ℕ) → p ≢ 16 → p ≢ 17 → byte_at (taken_memory story saved) p ≡ byte_at over p
  beside p a b = get_or-set_other (slice_set over 16 (byte_at saved 16)) 17 p (byte_at saved 17) 0 b ∙ get_or-set_other over 16 p (byte_at saved 16) 0 a

  -- the header is the story's
  pub taken_header : (p : ℕ) → p < 64 → p ≢ 16 → p ≢ 17 → byte_at (taken_memory story saved) p ≡ byte_at story.memory p
  taken_header p low a b = beside p a b ∙ before_bytes 64 (drop 64 saved) story.memory fits p low

  -- but for Flags 2
  pub taken_high : byte_at (taken_memory story saved) 16 ≡ byte_at saved 16
  taken_high =
      let inside : 16 < length over = (let size = bytes_size 64 (drop 64 saved) story.memory fits in omega (arith, size, sound.least_length)) in
      get_or-set_other (slice_set over 16 (byte_at saved 16)) 17 16 (byte_at saved 17) 0 (omega arith) ∙ get_or-set_same over 16 (byte_at saved 16) 0 inside

  pub taken_low : byte_at (taken_memory story saved) 17 ≡ byte_at saved 17
  taken_low =
      let inside : 17 < length (slice_set over 16 (byte_at saved 16)) = (let size = length-set over 16 (byte_at saved 16) ∙ bytes_size 64 (drop 64 saved) story.memory fits in omega (arith, size, sound.least_length)) in
      get_or-set_same (slice_set over 16 (byte_at saved 16)) 17 (byte_at saved 17) 0 inside

  -- dynamic memory behind it is the save's
  pub taken_dynamic : (p : ℕ) → 64 ≤ p → p < static_base story → byte_at (taken_memory story saved) p ≡ byte_at saved p
  taken_dynamic p behind low =
      let there : 64 + (p - 64) ≡ p = omega (arith, behind) in
      beside p (omega (arith, behind)) (omega (arith, behind))
      ∙ from_bytes 64 (drop 64 saved) story.memory fits p behind
      ∙ get_or_append_left (drop 64 saved) (drop (64 + length (drop 64 saved)) story.memory) 0 (p - 64) (let rest = length-drop 64 saved in omega (arith, rest, long, low, behind))
      ∙ get_or-drop 64 saved (p - 64) 0
      ∙ ap (byte_at saved) there

  -- and static memory the story's
  pub taken_static : (p : ℕ) → static_base story ≤ p → byte_at (taken_memory story saved) p ≡ byte_at story.memory p
  taken_static p high =
      let above = sound.static_base_above in
      beside p (omega (arith, above, high)) (omega (arith, above, high)) ∙ behind_bytes 64 (drop 64 saved) story.memory fits p (let rest = length-drop 64 saved in omega (arith, rest, long, high, above))

-- ---- what a save leads to is a state

taken_words : (fs : List ℕ) → AllByRecursion IsWord fs → AreWords fs
taken_words [] all k = omega arith
taken_words (x ∷ xs) all zero = all.0
taken_words (x ∷ xs) all (suc k) = taken_words xs all.1 k

words_reversed : (xs : List ℕ) → AreWords xs → AreWords (reverse xs)
words_reversed xs are k = elim (cases_lt k (length xs)) [
  | inl inside ↦ let e = get_or-reverse xs k 0 inside in omega (arith, e, are (length xs - 1 - k))
  | inr outside ↦ let e : slice_index (reverse xs) k ≡ 0 = get_or_past (reverse xs) k 0 (let size = length-reverse xs in omega (arith, size, outside)) in omega (arith, e)
]

frame_taken : (f : SavedFrame) → IsSavedFrame f → IsFrame (taken_frame f)
frame_taken f h = record {
  reached = h.return_place;
  result = h.result;
  supplied = h.supplied;
  locals = h.locals;
  stack = let size = length-reverse f.stack in omega (arith, size, h.stack);
  local_words = taken_words f.locals h.local_words;
  stack_words = words_reversed f.stack (taken_words f.stack h.stack_words);
}

first_taken : (f : SavedFrame) → IsSavedFirst f → IsFirst (taken_frame f)
first_taken f h = record { return_place = h.return_place; result = h.result; supplied = h.supplied; locals = h.locals }

-- one above others is one more
frames_above : (fs : List SavedFrame) (c : Chain) → AllByRecursion IsSavedFrame fs → AreFrames c.newest c.callers → AreFrames (piled (map taken_frame fs) c).newest (piled (map taken_frame fs) c).callers × (length (piled (map taken_frame fs) c).callers ≡ length fs + length c.callers)
unfolding piled
frames_above [] c all are = (are, omega arith)
frames_above (f ∷ fs) c all are =
    let more = frames_above fs (above (taken_frame f) c) all.1 (frame_taken f all.0, are) in
    (more.0, omega (arith, more.1))

resumed_frames : (fs : List SavedFrame) (s : State) → AreSavedFrames fs → AreFrames (with_frames (map taken_frame (reverse fs)) s).frame (with_frames (map taken_frame (reverse fs)) s).callers × (length (with_frames (map taken_frame (reverse fs)) s).callers + 1 ≡ length fs)
resumed_frames [] s none = absurd none
resumed_frames (f ∷ fs) s are =
    let c : Chain = record { newest = taken_frame f; callers = [] } in
    let laid = frames_above fs c are.1.1 (frame_taken f are.1.0, first_taken f are.0) in
    let is = laid_is f fs s in
    rw is (laid.0, omega (arith, laid.1))

-- all but its frames
rest_of : (fs : List SavedFrame) (s : State) → AreSavedFrames fs → ((with_frames (map taken_frame (reverse fs)) s).memory ≡ s.memory) × ((with_frames (map taken_frame (reverse fs)) s).random ≡ s.random)
rest_of [] s none = absurd none
rest_of (f ∷ fs) s are = rw (laid_is f fs s) (refl, refl)

taken_bytes : (story : LoadedStory) (saved : List ℕ) → AreBytes story.memory → AreBytes saved → AreBytes (taken_memory story saved)
taken_bytes story saved loaded are =
    bytes_set (slice_set (with_bytes 64 (drop 64 saved) story.memory) 16 (byte_at saved 16)) 17 (byte_at saved 17) (are 17)
    (bytes_set (with_bytes 64 (drop 64 saved) story.memory) 16 (byte_at saved 16) (are 16) (bytes_over 64 (drop 64 saved) story.memory loaded (λ k. let e = get_or-drop 64 saved k 0 in omega (arith, e, are (64 + k)))))

pub resumed_is_state : (m : Setting) (saved : Saved) (s : State) → IsSound m.story.memory → IsSaved m.story saved → AreBytes saved.memory → IsState m.limit m.story s → length saved.frames ≤ m.limit + 1 → IsState m.limit m.story (resumed m.story saved s)
resumed_is_state m saved s sound is bytes h few =
    let story = m.story in
    let memory = keeping_flags s.memory (taken_memory story saved.memory) in
    let there : State = record s { memory = memory; place = save_place saved; prompted = false; waiting = Some (events.Saved true) } in
    let frames = resumed_frames saved.frames there is.frames in
    let rest = rest_of saved.frames there is.frames in
    let size : length memory ≡ length story.memory = kept_size s.memory (taken_memory story saved.memory) ∙ taken_size story saved.memory sound is.memory in
    let taken = taken_bytes story saved.memory sound.bytes bytes in
    let all : AreBytes memory = bytes_set (taken_memory story saved.memory) 17 _ (let byte = taken 17 in omega (arith, byte)) taken in
    let high : byte_at memory 10 ≡ byte_at story.memory 10 = kept_other s.memory (taken_memory story saved.memory) 10 (omega arith) ∙ taken_header story saved.memory sound is.memory 10 (omega arith) (omega arith) (omega arith) in
    let low : byte_at memory 11 ≡ byte_at story.memory 11 = kept_other s.memory (taken_memory story saved.memory) 11 (omega arith) ∙ taken_header story saved.memory sound is.memory 11 (omega arith) (omega arith) (omega arith) in
    let tables : object_table memory ≡ object_table story.memory = omega (arith, high, low) in
    record {
      memory = rw rest.0 size;
      bytes = rw rest.0 all;
      objects = rw rest.0 (let has = h.objects in record { few = has.few; above = omega (arith, has.above, h.tables, tables); within = omega (arith, has.within, h.tables, tables, h.memory, size) });
      tables = rw rest.0 tables;
      frames = frames.0;
      few = omega (arith, frames.1, few);
      count = rw rest.1 h.count;
    }

pub saves_keep : SavesKeep
unfolding going_on
saves_keep m saved s t sound is bytes h e =
    let there = need_ok (saves (fetch m.scope (save_place saved) (resumed m.story saved s).memory)) errors.Place _ t e in
    let few = need_ok (nat_le (length saved.frames) (m.limit + 1)) errors.NotDescribed _ t there.1 in
    subst (λ (u : State). IsState m.limit m.story u) (ok_is (resumed m.story saved s) t few.1) (resumed_is_state m saved s sound is bytes h (leb-true (length saved.frames) (m.limit + 1) few.0))

-- ---- what is saved of a state

words_kept : (fs : List ℕ) → AreWords fs → AllByRecursion IsWord fs
words_kept [] are = tt
words_kept (x ∷ xs) are = (are 0, words_kept xs (λ k. are (suc k)))

pub frame_kept : (f : Frame) → IsFrame f → IsSavedFrame (kept_frame f)
frame_kept f h = record {
  return_place = h.reached;
  result = h.result;
  supplied = h.supplied;
  locals = h.locals;
  local_words = words_kept f.locals h.local_words;
  stack = let size = length-reverse f.stack in omega (arith, size, h.stack);
  stack_words = words_kept (reverse f.stack) (words_reversed f.stack h.stack_words);
}

abbrev or_else : Frame → Option Frame → Frame
or_else f (Some x) = x
or_else f _ = f

each_frame : (f : Frame) (gs : List Frame) (j : ℕ) (x : Frame) → AreFrames f gs → slice_get (f ∷ gs) j ≡ Some x → IsFrame x
each_frame f [] zero x h e = subst IsFrame (ap (or_else f) e) h.0
each_frame f [] (suc j) x h e = absurd cc
each_frame f (g ∷ gs) zero x h e = subst IsFrame (ap (or_else f) e) h.0
each_frame f (g ∷ gs) (suc j) x h e = each_frame g gs j x h.1 e

-- a frame by its number from the oldest
pub frame_at_number : (f : Frame) (gs : List Frame) (k : ℕ) (x : Frame) → AreFrames f gs → slice_get (reverse (f ∷ gs)) k ≡ Some x → (slice_get (map kept_frame (reverse (f ∷ gs))) k ≡ Some (kept_frame x)) × IsSavedFrame (kept_frame x)
frame_at_number f gs k x h e =
    let back = turned (reverse (f ∷ gs)) k x e in (
      slice_get-map kept_frame (reverse (f ∷ gs)) k ∙ ap (option_map kept_frame) e,
      frame_kept x (each_frame f gs _ x h (ap (λ (xs : List Frame). slice_get xs (length (reverse (f ∷ gs)) - 1 - k)) (sym (reverse-reverse (f ∷ gs))) ∙ back)),
    )

-- a frame that is lent with the bottom of its stack first
pub kept_is : (x : Frame) (p v n : ℕ) (locals stack : List ℕ) → record { return_place = p; result = v; supplied = n; locals = locals; stack = reverse stack } ≡ x → kept_frame x ≡ record { return_place = p; result = v; supplied = n; locals = locals; stack = stack }
kept_is x p v n locals stack is = ap kept_frame (sym is) ∙ ap (λ (ws : List ℕ). record { return_place = p; result = v; supplied = n; locals = locals; stack = ws }) (reverse-reverse stack)

-- the oldest comes first
kept_all : (f : Frame) (gs : List Frame) → AreFrames f gs → AllByRecursion IsSavedFrame (map kept_frame (reverse (f ∷ gs)))
kept_all f gs h = all_from (f ∷ gs) (each_of f gs h)
  where
    each_of : (f : Frame) (gs : List Frame) → AreFrames f gs → AllByRecursion IsFrame (f ∷ gs)
    each_of f [] h = (h.0, tt)
    each_of f (g ∷ gs) h = (h.0, each_of g gs h.1)

    joined : (xs ys : List SavedFrame) → AllByRecursion IsSavedFrame xs → AllByRecursion IsSavedFrame ys → AllByRecursion IsSavedFrame (xs ++ ys)
    joined [] ys a b = b
    joined (x ∷ xs) ys a b = (a.0, joined xs ys a.1 b)

    all_from : (fs : List Frame) → AllByRecursion IsFrame fs → AllByRecursion IsSavedFrame (map kept_frame (reverse fs))
    all_from [] all = tt
    all_from (x ∷ xs) all =
        let is : map kept_frame (reverse (x ∷ xs)) ≡ map kept_frame (reverse xs) ++ kept_frame x ∷ [] = ap (map kept_frame) (reverse-append (x ∷ []) xs) ∙ map-append kept_frame (reverse xs) (x ∷ []) in
        subst (λ (ks : List SavedFrame). AllByRecursion IsSavedFrame ks) (sym is) (joined (map kept_frame (reverse xs)) (kept_frame x ∷ []) (all_from xs all.1) (frame_kept x all.0, tt))

-- the oldest of frames, and the others
record BeginsFirst (fs : List Frame) : Type 0 where
  oldest : Frame
  others : List Frame
  are : fs ≡ oldest ∷ others
  first : IsFirst oldest

begins : (f : Frame) (gs : List Frame) → AreFrames f gs → BeginsFirst (reverse (f ∷ gs))
begins f [] h = record { oldest = f; others = []; are = refl; first = h.1 }
begins f (g ∷ gs) h =
    let more = begins g gs h.1 in
    record { oldest = more.oldest; others = more.others ++ f ∷ []; are = reverse-append (f ∷ []) (g ∷ gs) ∙ ap (λ (fs : List Frame). fs ++ f ∷ []) more.are; first = more.first }

kept_frames : (f : Frame) (gs : List Frame) → AreFrames f gs → length gs ≤ 4096 → AreSavedFrames (map kept_frame (reverse (f ∷ gs)))
kept_frames f gs h few =
    let start = begins f gs h in
    let all = kept_all f gs h in
    let size = length-map (reverse (f ∷ gs)) kept_frame in
    let long = length-reverse (f ∷ gs) in
    from (reverse (f ∷ gs)) start all (omega (arith, size, long, few))
  where
    first_or : Frame → List Frame → Frame
    first_or x [] = x
    first_or x (y ∷ ys) = y

    from : (fs : List Frame) → BeginsFirst fs → AllByRecursion IsSavedFrame (map kept_frame fs) → length (map kept_frame fs) ≤ 4097 → AreSavedFrames (map kept_frame fs)
    from [] start all many = absurd (let e = start.are in cc)
    from (x ∷ xs) start all many =
        let first : IsFirst x = subst IsFirst (sym (ap (first_or x) start.are)) start.first in
        (record { return_place = first.return_place; result = first.result; supplied = first.supplied; locals = first.locals }, all, many)

pub states_are_saved : StatesAreSaved
states_are_saved limit story s p sound h low place inside = record {
  memory = length-take-le (static_base story) s.memory (let size = h.memory in let base = sound.static_base_within in omega (arith, size, base));
  place = rw place (let size = h.memory in let most = sound.greatest_length in omega (arith, size, most, inside));
  frames = kept_frames s.frame s.callers h.frames (let few = h.few in omega (arith, few, low));
}

-- ---- what was saved goes on

-- lists of one length that agree everywhere are one
alike : (xs ys : List ℕ) → length xs ≡ length ys → ((k : ℕ) → slice_index xs k ≡ slice_index ys k) → xs ≡ ys
alike [] [] size same = refl
alike [] (y ∷ ys) size same = absurd (omega (arith, size))
alike (x ∷ xs) [] size same = absurd (omega (arith, size))
alike (x ∷ xs) (y ∷ ys) size same = rw (same 0) (ap (λ (zs : List ℕ). y ∷ zs) (alike xs ys (omega (arith, size)) (λ k. same (suc k))))

-- memory of which dynamic memory was saved
pub taken_again : (story : LoadedStory) (memory : List ℕ) → IsSound story.memory → length memory ≡ length story.memory → IsOfStory story memory → taken_memory story (take (static_base story) memory) ≡ memory
taken_again story memory sound size of_story = alike (taken_memory story saved) memory (taken_size story saved sound long ∙ sym size) at
  where
    base : ℕ
    base = static_base story

    saved : List ℕ
    saved = take base memory

    long : length saved ≡ base
    long = length-take-le base memory (let within = sound.static_base_within in omega (arith, size, within))

    same : (p : ℕ) → p < base → byte_at saved p ≡ byte_at memory p
    same p low = get_or-take base memory p 0 low

    header : (p : ℕ) → p < 64 → byte_at (taken_memory story saved) p ≡ byte_at memory p
    header p low = elim (eqb_tells p 16) [
      | inl high ↦ rw high.1 (taken_high story saved sound long ∙ same 16 (let above = sound.static_base_above in omega (arith, above)))
      | inr a ↦ elim (eqb_tells p 17) [
        | inl last ↦ rw last.1 (taken_low story saved sound long ∙ same 17 (let above = sound.static_base_above in omega (arith, above)))
        | inr b ↦ taken_header story saved sound long p low a.1 b.1 ∙ sym (of_story p (inl (low, a.1, b.1)))
      ]
    ]

    at : (p : ℕ) → byte_at (taken_memory story saved) p ≡ byte_at memory p
    at p = elim (cases_lt p 64) [
      | inl low ↦ header p low
      | inr behind ↦ elim (cases_lt p base) [
        | inl dynamic ↦ taken_dynamic story saved sound long p behind dynamic ∙ same p dynamic
        | inr high ↦ taken_static story saved sound long p high ∙ sym (of_story p (inr high))
      ]
    ]

-- frames that were saved
frames_again : (fs : List Frame) → map taken_frame (reverse (map kept_frame (reverse fs))) ≡ fs
frames_again fs =
    ap (map taken_frame) (sym (reverse_map_kept (reverse fs))) ∙ ap (λ (gs : List Frame). map taken_frame (map kept_frame gs)) (reverse-reverse fs) ∙ each fs
  where
    reverse_map_kept : (gs : List Frame) → map kept_frame (reverse gs) ≡ reverse (map kept_frame gs)
    reverse_map_kept [] = refl
    reverse_map_kept (g ∷ gs) =
        ap (map kept_frame) (reverse-append (g ∷ []) gs) ∙ map-append kept_frame (reverse gs) (g ∷ []) ∙ ap (λ (ks : List SavedFrame). ks ++ kept_frame g ∷ []) (reverse_map_kept gs)
        ∙ sym (reverse-append (kept_frame g ∷ []) (map kept_frame gs))

    one : (g : Frame) → taken_frame (kept_frame g) ≡ g
    one g = ap (λ (ws : List ℕ). record g { stack = ws }) (reverse-reverse g.stack)

    each : (gs : List Frame) → map taken_frame (map kept_frame gs) ≡ gs
    each [] = refl
    each (g ∷ gs) = rw (one g) (ap (λ (hs : List Frame). g ∷ hs) (each gs))

-- an instruction behind the header is read as before
fetched_alike : (scope : Scope) (p : ℕ) (now memory : List ℕ) → 64 ≤ p → fetch scope (pos p) (keeping_flags now memory) ≡ fetch scope (pos p) memory
unfolding fetch
fetched_alike scope p now memory behind = rw (drop-set-lt p memory 17 (byte_at memory 17 / 4 * 4 + byte_at now 17 % 4) (omega (arith, behind))) refl

need_there : {A : Type 0} (b : Bool) (e : SaveError) (f : Unit {0} → Result A SaveError) → b ≡ true → (need b e >>= f) ≡ f tt
need_there true e f is = refl
need_there false e f is = absurd cc

back_one : (p : ℕ) → pos (p + 1) -ℤ pos 1 ≡ pos p
back_one p = grind (arith, ints)

pub saves_go_on : SavesGoOn
unfolding going_on
saves_go_on m s now p sound h of_story size place behind there =
    let story = m.story in
    let saved = saved_of story s in
    let again : taken_memory story (take (static_base story) s.memory) ≡ s.memory = taken_again story s.memory sound h.memory of_story in
    let after : State = record s { memory = keeping_flags now.memory s.memory; random = now.random; prompted = false; waiting = Some (events.Saved true) } in
    let at : save_place saved ≡ pos p = rw place (back_one p) in
    let is : resumed story saved now ≡ after = rw (frames_again (s.frame ∷ s.callers), again, at, place) refl in
    let asked : saves (fetch m.scope (save_place saved) (resumed story saved now).memory) ≡ true = rw (is, at, fetched_alike m.scope p now.memory s.memory behind, ← place) there in
    let few : nat_le (length saved.frames) (m.limit + 1) ≡ true = (let long = length-map (reverse (s.frame ∷ s.callers)) kept_frame in let all = length-reverse (s.frame ∷ s.callers) in let most = h.few in le-leb (length saved.frames) (m.limit + 1) (omega (arith, long, all, most))) in
    need_there _ errors.Place _ asked ∙ need_there _ errors.NotDescribed _ few ∙ ap (λ (t : State). Ok t) is

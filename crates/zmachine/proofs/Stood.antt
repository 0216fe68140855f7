-- A board in another state of its story.
use Rattle.std.proofs.Common.{◌≡◌, ℕ, zero, suc, ◌+◌, ◌%◌, ◌<◌, ◌≤◌, true, false, add-one, Some, List, [], ◌∷◌, ◌++◌, length, drop, map, reverse, take, Ok, refl, sym, ap, subst, ◌∙◌, arith}
use Rattle.std.specs.Prelude.{ℤ, pos, ◌-ℤ◌, Result, slice_index, slice_set}
use Rattle.std.proofs.lemmas.Int.{ints}
use Rattle.std.proofs.Math.Nat.{mod-eq_of_lt}
use Rattle.std.proofs.lemmas.List.{length-append, length-drop, length-map, length-reverse, length-take-le, map-append, reverse-append, reverse-reverse, take-append-drop}
use Rattle.zfault.specs.declared.event.Event.TheVariants as events
use Rattle.zquetzal.specs.Reading.{reading}
use Rattle.zquetzal.specs.declared.error.SaveError.{SaveError}
use Rattle.zquetzal.specs.declared.limits.TheConstants.{MOST_FRAMES}
use Rattle.zquetzal.specs.Saved.{Frame as SavedFrame, IsSaved, Saved}
use Rattle.zstory.specs.LoadedStory.{IsSound, LoadedStory, static_base}
use Rattle.zstate.specs.Saved.{CanBeSaved}
use Rattle.zstate.specs.Saves.{StatesAreSaved, kept_frame, resumed, save_place, saved_of, taken_frame, taken_memory, with_frames}
use Rattle.zstate.specs.State.{Frame, IsState, State, keeping_flags, with_memory}
use Rattle.zengine.specs.declared.board.Board.{Board}
use Rattle.zengine.specs.declared.outside.Outside.{Outside}
use Rattle.zengine.specs.declared.row.Row.{Row}
use Rattle.zengine.specs.Body.{Body, spot_at, standing}
use Rattle.zengine.specs.Frames.{AreFrames}
use Rattle.zengine.specs.Play.{Game, state_in}
use Rattle.zengine.specs.View.{body_of}
use Rattle.zmachine.specs.Parts.{IsInside}
use Rattle.zmachine.specs.Rows.{IsAsLoaded, IsPlayed}
use Rattle.zmachine.specs.Standing.{IsLaid}
use Rattle.zmachine.proofs.Restoring.{resumed_loaded, resumed_size}

-- ---- what was saved of a state is that state again

reverse_map_kept : (gs : List Frame) → map kept_frame (reverse gs) ≡ reverse (map kept_frame gs)
reverse_map_kept [] = refl
reverse_map_kept (g ∷ gs) =
    ap (map kept_frame) (reverse-append (g ∷ []) gs) ∙ map-append kept_frame (reverse gs) (g ∷ []) ∙ ap (λ (ks : List SavedFrame). ks ++ kept_frame g ∷ []) (reverse_map_kept gs)
    ∙ sym (reverse-append (kept_frame g ∷ []) (map kept_frame gs))

one_again : (g : Frame) → taken_frame (kept_frame g) ≡ g
one_again g = ap (λ (ws : List ℕ). record g { stack = ws }) (reverse-reverse g.stack)

each_again : (gs : List Frame) → map taken_frame (map kept_frame gs) ≡ gs
each_again [] = refl
each_again (g ∷ gs) = rw (one_again g) (ap (λ (hs : List Frame). g ∷ hs) (each_again gs))

frames_again : (fs : List Frame) → map taken_frame (reverse (map kept_frame (reverse fs))) ≡ fs
frames_again fs =
    ap (map taken_frame) (sym (reverse_map_kept (reverse fs))) ∙ ap (λ (gs : List Frame). map taken_frame (map kept_frame gs)) (reverse-reverse fs) ∙ each_again fs

back_one : (p : ℕ) → pos (p + 1) -ℤ pos 1 ≡ pos p
back_one p = grind (arith, ints)

place_again : (story : LoadedStory) (s : State) (p : ℕ) → s.place ≡ pos p → save_place (saved_of story s) ≡ s.place
place_again story s p is = rw is (back_one p)

-- with its memory, and what comes from outside
pub resumed_again : (story : LoadedStory) (s x : State) → IsInside s → record (resumed story (saved_of story s) x) { memory = s.memory; random = s.random; prompted = s.prompted; waiting = s.waiting } ≡ s
resumed_again story s x inside =
    ap (λ (fs : List Frame). with_rest (with_frames fs base)) (frames_again (s.frame ∷ s.callers)) ∙ ap (λ (place : ℤ). record s { place = place }) (place_again story s inside.0 inside.1)
  where
    base : State
    base = record x { memory = keeping_flags x.memory (taken_memory story (saved_of story s).memory); place = save_place (saved_of story s); prompted = false; waiting = Some (events.Saved true) }

    with_rest : State → State
    with_rest t = record t { memory = s.memory; random = s.random; prompted = s.prompted; waiting = s.waiting }

-- taken for what comes from outside as it is
pub taken_again : (story : LoadedStory) (s x : State) (saved : Saved) (memory : List ℕ) (o : Outside) → saved ≡ saved_of story s → IsInside s → memory ≡ s.memory → o ≡ record { random = s.random; prompted = s.prompted; waiting = s.waiting } → record (resumed story saved x) { memory = memory; random = o.random; prompted = o.prompted; waiting = o.waiting } ≡ s
taken_again story s x saved memory o is inside memory_is outside_is =
    ap (λ (k : Saved). record (resumed story k x) { memory = memory; random = o.random; prompted = o.prompted; waiting = o.waiting }) is
    ∙ ap (λ (ms : List ℕ). record (resumed story (saved_of story s) x) { memory = ms; random = o.random; prompted = o.prompted; waiting = o.waiting }) memory_is
    ∙ ap (λ (p : Outside). record (resumed story (saved_of story s) x) { memory = s.memory; random = p.random; prompted = p.prompted; waiting = p.waiting }) outside_is
    ∙ resumed_again story s x inside

-- ---- the board

-- whatever its memory was, and what came from outside
pub stands_again : (g : Game) (story : LoadedStory) (s x : State) (saved : Saved) (laid new : Board) → saved ≡ saved_of story s → IsInside s → state_in g laid ≡ resumed story saved x → body_of new ≡ record (body_of laid) { memory = s.memory; outside = record { random = s.random; prompted = s.prompted; waiting = s.waiting } } → new.at ≡ laid.at → state_in g new ≡ s
stands_again g story s x saved laid new is inside laid_is body at =
    ap (λ (k : ℕ). standing g.spots (spot_at g.spots k) (body_of new)) at
    ∙ ap (λ (b : Body). standing g.spots (spot_at g.spots laid.at) b) body
    ∙ ap (λ (t : State). record t { memory = s.memory; random = s.random; prompted = s.prompted; waiting = s.waiting }) (laid_is ∙ ap (λ (k : Saved). resumed story k x) is)
    ∙ resumed_again story s x inside

pub played_again : (g : Game) (rows : List Row) (s : State) (laid new : Board) → IsLaid g rows laid → state_in g new ≡ s → IsState g.setting.limit g.setting.story s → IsAsLoaded g.setting.story s.memory → body_of new ≡ record (body_of laid) { memory = s.memory; outside = record { random = s.random; prompted = s.prompted; waiting = s.waiting } } → new.at ≡ laid.at → IsPlayed g rows new
played_again g rows s laid new is stands state loaded body at = record {
  within = rw at is.within;
  state = subst (λ (t : State). IsState g.setting.limit g.setting.story t) (sym stands) state;
  loaded = subst (λ (b : Body). IsAsLoaded g.setting.story b.memory) (sym body) loaded;
  frames = subst (λ (b : Body). AreFrames g.setting.story g.spots rows b.above b.base b.words) (sym body) is.frames;
}

-- ---- what is written of a state

pub can_be_saved : (limit : ℕ) (story : LoadedStory) (s : State) → IsSound story.memory → limit < MOST_FRAMES → IsState limit story s → IsInside s → CanBeSaved story s
can_be_saved limit story s sound few state inside = record {
  sound = sound;
  limit = limit;
  low = omega (arith, few);
  is_state = state;
  at = inside.0;
  place = inside.1;
  inside = inside.2;
}

pub is_saved : (limit : ℕ) (story : LoadedStory) (s : State) → StatesAreSaved → IsSound story.memory → limit < MOST_FRAMES → IsState limit story s → IsInside s → IsSaved story (saved_of story s)
is_saved limit story s law sound few state inside = law limit story s inside.0 sound state (omega (arith, few)) inside.1 inside.2

abbrev good : {A : Type 0} → A → Result A SaveError
good x = Ok x

good_is : {A : Type 0} (x y : A) → good x ≡ good y → x ≡ y
good_is x y e = cc

pub same_saved : (story : LoadedStory) (bytes : List ℕ) (a b : Saved) → reading story bytes ≡ Ok a → reading story bytes ≡ Ok b → a ≡ b
same_saved story bytes a b x y = good_is a b (sym x ∙ y)

pub few_saved : (limit : ℕ) (story : LoadedStory) (s : State) (saved : Saved) → saved ≡ saved_of story s → IsState limit story s → length saved.frames ≤ limit + 1
few_saved limit story s saved is state =
    let size : length saved.frames ≡ length (map kept_frame (reverse (s.frame ∷ s.callers))) = ap (λ (k : Saved). length k.frames) is in
    let mapped : length (map kept_frame (reverse (s.frame ∷ s.callers))) ≡ length (reverse (s.frame ∷ s.callers)) = length-map _ _ in
    let turned = length-reverse (s.frame ∷ s.callers) in
    let few = state.few in
    omega (arith, size, mapped, turned, few)

-- ---- memory that is copied byte by byte

copied_next : (k : ℕ) (xs ys : List ℕ) → k < length xs → k < length ys → slice_set (take k xs ++ drop k ys) k (slice_index xs k) ≡ take (suc k) xs ++ drop (suc k) ys
copied_next k [] ys below under = absurd (omega (arith, below))
copied_next k (x ∷ xs) [] below under = absurd (omega (arith, under))
copied_next zero (x ∷ xs) (y ∷ ys) below under = refl
copied_next (suc k) (x ∷ xs) (y ∷ ys) below under = ap (λ (zs : List ℕ). x ∷ zs) (copied_next k xs ys (omega (arith, below)) (omega (arith, under)))

pub copied_more : (k : ℕ) (xs ys : List ℕ) → k < length xs → k < length ys → slice_set (take k xs ++ drop k ys) k (slice_index xs k) ≡ take (k + 1) xs ++ drop (k + 1) ys
copied_more k xs ys below under = rw add-one (copied_next k xs ys below under)

pub copied_all : (n : ℕ) (xs ys : List ℕ) → drop n ys ≡ drop n xs → take n xs ++ drop n ys ≡ xs
copied_all n xs ys same = ap (λ (zs : List ℕ). take n xs ++ zs) same ∙ take-append-drop n xs

-- as far as it is copied, memory is as long
pub copied_size : (k : ℕ) (xs ys : List ℕ) → k ≤ length xs → length ys ≡ length xs → length (take k xs ++ drop k ys) ≡ length xs
copied_size k xs ys within same =
    let joined = length-append (take k xs) (drop k ys) in
    let front : length (take k xs) ≡ k = length-take-le k xs within in
    let rest = length-drop k ys in
    omega (arith, joined, front, rest, within, same)

module _ (s : State) (xs : List ℕ) (size : length s.memory ≡ length xs) where
  -- a byte more
  pub copied_on : (k x : ℕ) (t u : State) → x ≡ slice_index xs k → x < 256 → k < length xs → t ≡ with_memory (take k xs ++ drop k s.memory) s → u ≡ with_memory (slice_set t.memory k (x % 256)) t → u ≡ with_memory (take (k + 1) xs ++ drop (k + 1) s.memory) s
  copied_on k x t u is small within is_t is_u =
      is_u
      ∙ ap (λ (v : State). with_memory (slice_set v.memory k (x % 256)) v) is_t
      ∙ ap (λ (y : ℕ). with_memory (slice_set (take k xs ++ drop k s.memory) k y) s) (mod-eq_of_lt small ∙ is)
      ∙ ap (λ (ms : List ℕ). with_memory ms s) (copied_more k xs s.memory within (omega (arith, within, size)))

  -- and all, where the rest is the same
  pub copied_end : (k end : ℕ) (t : State) → k ≤ end → end ≤ k → drop end s.memory ≡ drop end xs → t ≡ with_memory (take k xs ++ drop k s.memory) s → t ≡ with_memory xs s
  copied_end k end t most least same is =
      let there : k ≡ end = omega (arith, most, least) in
      is ∙ ap (λ (n : ℕ). with_memory (take n xs ++ drop n s.memory) s) there ∙ ap (λ (ms : List ℕ). with_memory ms s) (copied_all end xs s.memory same)

-- ---- a state whose frames and place are those of a save

frames_prompted : (fs : List Frame) (s : State) → (with_frames fs s).prompted ≡ s.prompted
frames_prompted [] s = refl
frames_prompted (f ∷ fs) s = refl

module _ (story : LoadedStory) (saved : Saved) (x s : State) (is : s ≡ resumed story saved x) where
  pub taken_unprompted : s.prompted ≡ false
  taken_unprompted = ap (λ (t : State). t.prompted) is ∙ frames_prompted (map taken_frame (reverse saved.frames)) _

  module _ (memory : List ℕ) (size : length memory ≡ length story.memory) (sound : IsSound story.memory) (is_saved : IsSaved story saved) where
    pub taken_size : length s.memory ≡ length memory
    taken_size = ap (λ (t : State). length t.memory) is ∙ resumed_size story saved x sound is_saved ∙ sym size

    pub taken_rest : (end : ℕ) → end ≡ static_base story → drop (static_base story) memory ≡ drop (static_base story) story.memory → drop end s.memory ≡ drop end memory
    taken_rest end is_end loaded =
        ap (λ (n : ℕ). drop n s.memory) is_end ∙ ap (λ (t : State). drop (static_base story) t.memory) is ∙ resumed_loaded story saved x sound is_saved ∙ sym loaded ∙ ap (λ (n : ℕ). drop n memory) (sym is_end)

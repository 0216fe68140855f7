-- The frame that is so many below the newest of a board.
use Rattle.std.proofs.Common.{◌≡◌, ℕ, zero, suc, ◌+◌, ◌-◌, ◌<◌, ◌≤◌, List, [], ◌∷◌, length, get_or, slice_get, Some, refl, sym, ap, subst, ◌∙◌, arith}
use Rattle.std.proofs.lemmas.Option.{get_or_from_slice_get}
use Rattle.zquetzal.specs.Saved.{Frame as SavedFrame}
use Rattle.zstory.specs.LoadedStory.{LoadedStory}
use Rattle.zstate.specs.Saves.{kept_frame, saved_of}
use Rattle.zengine.specs.declared.board.Board.{Board}
use Rattle.zengine.specs.declared.lying.Lying.{Lying}
use Rattle.zengine.specs.declared.row.Spot.{Spot}
use Rattle.zengine.specs.Body.{base_below}
use Rattle.zengine.specs.Lying.{AreHeads, IsHead, Lies, below, chain_of, frame_lying, newest_of}
use Rattle.zengine.specs.Play.{Game, state_in}
use Rattle.zengine.proofs.Kept as kept
use Rattle.zmachine.specs.Parts.{IsLent}

module _ (spots : List Spot) (words : List ℕ) where
  pub chain_first : (n : ℕ) (l : Lying) (k : ℕ) → k ≤ 0 → slice_get (chain_of spots words n l) k ≡ Some l
  unfolding chain_of
  chain_first zero l zero none = refl
  chain_first (suc n) l zero none = refl
  chain_first n l (suc k) none = absurd (omega (arith, none))

  pub chain_next : (n : ℕ) (l next : Lying) (k : ℕ) → 0 < k → k ≤ n → next ≡ below spots words l → slice_get (chain_of spots words n l) k ≡ slice_get (chain_of spots words (n - 1) next) (k - 1)
  unfolding chain_of
  chain_next zero l next k some within is = absurd (omega (arith, some, within))
  chain_next (suc n) l next zero some within is = absurd (omega (arith, some))
  chain_next (suc n) l next (suc k) some within is =
      let one : suc n - 1 ≡ n = omega arith in
      let at : suc k - 1 ≡ k = omega arith in
      ap (λ (b : Lying). slice_get (chain_of spots words n b) k) (sym is)
      ∙ ap (λ (m : ℕ). slice_get (chain_of spots words m next) k) (sym one)
      ∙ ap (λ (j : ℕ). slice_get (chain_of spots words (suc n - 1) next) j) (sym at)

  pub heads_next : (n base : ℕ) → 0 < n → AreHeads spots words n base → IsHead spots words base × AreHeads spots words (n - 1) (base_below base words)
  unfolding AreHeads
  heads_next zero base some heads = absurd (omega (arith, some))
  heads_next (suc n) base some heads = let one : suc n - 1 ≡ n = omega arith in (heads.0, subst (λ (m : ℕ). AreHeads spots words m (base_below base words)) (sym one) heads.1)

  pub chain_length : (n : ℕ) (l : Lying) → length (chain_of spots words n l) ≡ n + 1
  unfolding chain_of
  chain_length zero l = refl
  chain_length (suc n) l = let more = chain_length n (below spots words l) in omega (arith, more)

-- what is lent of a board
module _ (story : LoadedStory) (g : Game) (b : Board) (lent : IsLent story g b) where
  abbrev frames : List Lying
  frames = chain_of g.spots b.words.items b.above (newest_of g.spots b)

  pub count_is : b.above + 1 ≡ length (saved_of story (state_in g b)).frames
  count_is = sym (chain_length g.spots b.words.items b.above (newest_of g.spots b)) ∙ kept.count_is g.spots b frames lent.writes.lying

  module _ (number depth : ℕ) (low : number < length (saved_of story (state_in g b)).frames) (depth_is : depth ≡ b.above - number) (l : Lying) (at : slice_get frames depth ≡ Some l) where
    pub lies_there : Lies g.spots b.words.items l
    lies_there = lent.writes.lying.lie depth l at

    pub lent_there : (f : SavedFrame) → f ≡ kept_frame (frame_lying g.spots b.words.items l) → slice_get (saved_of story (state_in g b)).frames number ≡ Some f
    lent_there f same =
        let long = chain_length g.spots b.words.items b.above (newest_of g.spots b) in
        let count = count_is in
        let place : length frames - 1 - number ≡ depth = omega (arith, long, depth_is) in
        let is : get_or frames (length frames - 1 - number) l ≡ l = ap (λ (k : ℕ). get_or frames k l) place ∙ get_or_from_slice_get frames depth l l at in
        kept.given_as g.spots b frames lent.writes.lying number (omega (arith, long, count, low)) l f (same ∙ ap (λ (x : Lying). kept_frame (frame_lying g.spots b.words.items x)) (sym is))

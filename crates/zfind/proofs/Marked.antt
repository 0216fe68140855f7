-- What kept certificates from being found, where they may mark, as what is told of it.
use Rattle.std.proofs.Common.{◌≡◌, ◌≤◌, ◌+◌, ℕ, zero, suc, Bool, List, [], ◌∷◌, ◌++◌, take, length, refl, subst, sym, ◌∙◌, ap, arith}
use Rattle.std.specs.Prelude.{◌≢◌, Option, Some, slice_get}
use Rattle.std.specs.List.{AllZip}
use Rattle.std.proofs.lemmas.Option.{same_Some}
use Rattle.std.proofs.lemmas.Slice.Zip.{all_zipped_more}
use Rattle.zstory.specs.LoadedStory.{LoadedStory}
use Rattle.zdomain.specs.declared.values.Values.{Values}
use Rattle.zcert.specs.Certificate.{Instruction, Certificate}
use Rattle.zfind.specs.declared.error.Obstacle.{Obstacle}
use Rattle.zfind.specs.declared.error.FindError.{FindError}
use Rattle.zfind.specs.declared.error.FindError.TheVariants.{NotFound, RoundLimit, OutOfMemory}
use Rattle.std.specs.Option.{unwrap_or}
use Rattle.zcert.specs.declared.limits.TheConstants.{USUAL_FRAMES}
use Rattle.zfind.specs.Marking.{AreMarksOf, FailsUnmarked, IsMarkOf, IsMarkedFailure, IsUnmarkable, IsWithoutUnmarked, IsWrongUnmarked}

module _ (story : LoadedStory) where
  module _ (frames : Option ℕ) where
    -- none was found that marks nothing
    pub without_unmarked : (error : FindError) → error ≢ OutOfMemory → FailsUnmarked story frames error → IsWithoutUnmarked story frames
    without_unmarked error remembers failed = record { error = error; remembers = remembers; failed = failed }

    -- nor one that may
    pub of_walks : IsWithoutUnmarked story frames → (error : FindError) → IsUnmarkable story (unwrap_or frames USUAL_FRAMES) error → IsMarkedFailure story frames error
    of_walks without (NotFound obstacle) it = (without, it)
    of_walks without RoundLimit it = absurd it
    of_walks without OutOfMemory it = tt

  module _ (limit : ℕ) where
    -- want of memory kept one from being found
    pub of_memory : (error : FindError) → error ≡ OutOfMemory → IsUnmarkable story limit error
    of_memory (NotFound obstacle) e = absurd cc
    of_memory RoundLimit e = absurd cc
    of_memory OutOfMemory e = tt

    -- so did what is wrong with one that was tried
    pub of_tried : (c : Certificate Values) → c.limit ≡ Some limit → (error : FindError) → ((obstacle : Obstacle) × (error ≡ NotFound obstacle) × IsWrongUnmarked story c obstacle) → IsUnmarkable story limit error
    of_tried c named (NotFound obstacle) (other, is, wrong) = (c, named, subst (IsWrongUnmarked story c) (same other obstacle (sym is)) wrong)
      where
        same : (one two : Obstacle) → NotFound one ≡ NotFound two → one ≡ two
        same one two e = cc
    of_tried c named RoundLimit (other, is, wrong) = absurd cc
    of_tried c named OutOfMemory (other, is, wrong) = absurd cc

take_more : {A : Type 0} (xs : List A) (k : ℕ) (x : A) → slice_get xs k ≡ Some x → take (k + 1) xs ≡ take k xs ++ x ∷ []
take_more [] k x e = absurd cc
take_more (y ∷ ys) zero x e = ap (λ z. z ∷ []) (same_Some y x e)
take_more (y ∷ ys) (suc k) x e =
    let next : suc k + 1 ≡ suc (k + 1) = omega arith in
    ap (λ n. take n (y ∷ ys)) next ∙ ap (λ zs. y ∷ zs) (take_more ys k x e)

take_whole : {A : Type 0} (xs : List A) (n : ℕ) → length xs ≤ n → take n xs ≡ xs
take_whole [] zero h = refl
take_whole [] (suc n) h = refl
take_whole (x ∷ xs) zero h = absurd (omega (arith, h))
take_whole (x ∷ xs) (suc n) h = ap (λ ys. x ∷ ys) (take_whole xs n (omega (arith, h)))

module _ (story : LoadedStory) (c : Certificate Values) where
  -- a mark for each of the first instructions
  abbrev pub AreMarksTo : ℕ → List Bool → Type 0
  AreMarksTo n = AllZip (IsMarkOf story c) (take n c.instructions)

  -- with one for the next
  pub marks_more : (n : ℕ) (marks now : List Bool) (i : Instruction Values) (mark : Bool) → slice_get c.instructions n ≡ Some i → AreMarksTo n marks → IsMarkOf story c i mark → now ≡ marks ++ mark ∷ [] → AreMarksTo (n + 1) now
  marks_more n marks now i mark at before here is = subst (AreMarksTo (n + 1)) (sym is) (subst (λ (us : List (Instruction Values)). AllZip (IsMarkOf story c) us (marks ++ mark ∷ [])) (sym (take_more c.instructions n i at)) (all_zipped_more (IsMarkOf story c) (take n c.instructions) marks i mark before here))

  -- and for all
  pub marks_whole : (n : ℕ) (marks : List Bool) → length c.instructions ≤ n → AreMarksTo n marks → AreMarksOf story c marks
  marks_whole n marks long before = subst (λ (is : List (Instruction Values)). AllZip (IsMarkOf story c) is marks) (take_whole c.instructions n long) before

-- What was read of a save's file, and what unpacking comes to.
use Rattle.std.proofs.Common.{◌≡◌, ◌<◌, ◌⊎◌, inl, inr, ℕ, List, Option, Some, None, refl, sym, ap, subst, take, length, length-take, arith}
use Rattle.std.specs.Prelude.{IfOk, IfSome, Result, Ok, Err}
use Rattle.zstory.specs.LoadedStory.{LoadedStory}
use Rattle.zunpack.specs.Causes.{IsCause, IsRefused}
use Rattle.zunpack.specs.declared.error.UnpackError.{UnpackError}
use Rattle.zunpack.specs.declared.error.UnpackError.TheVariants.{NotForm, Length, ChunkMissing, ChunkTwice, Plain, OtherStory, Unfinished, TooLong, Frames, OutOfMemory}
use Rattle.zperform.specs.declared.outcome.Failure.TheVariants.{File, Memory}
use Rattle.zperform.specs.declared.outcome.Problem.{Problem}
use Rattle.zperform.specs.declared.outcome.Problem.TheVariants.{Failed}
use Rattle.zperform.specs.Report.{problem_of_unpack}
use Rattle.zperform.specs.Contents.{HasBytes}
use Rattle.zperform.specs.Accepting.{HoldsStory}
use Rattle.zperform.specs.Unpacking.{IsPacked, IsUnpacked, IsUnpackedOf, ReadsSave}

module _ (known : Option (List ℕ)) (taken : List ℕ) (part : (file : List ℕ) → known ≡ Some file → taken ≡ take 1073741824 file) where
  -- the part that was read is of the file
  pub save_read : IfSome known (λ file. taken ≡ take 1073741824 file)
  save_read = go known part
    where
      go : (k : Option (List ℕ)) → ((file : List ℕ) → k ≡ Some file → taken ≡ take 1073741824 file) → IfSome k (λ file. taken ≡ take 1073741824 file)
      go None is = tt
      go (Some file) is = is file refl

  -- why what was read isn't unpacked is why the file isn't
  pub packed_for : (story : LoadedStory) (error : UnpackError) → IsRefused (IsCause story taken) error → IsPacked known story (problem_of_unpack error)
  packed_for story NotForm why = ((taken, save_read, why), λ e. cc)
  packed_for story Length why = ((taken, save_read, why), λ e. cc)
  packed_for story ChunkMissing why = ((taken, save_read, why), λ e. cc)
  packed_for story ChunkTwice why = ((taken, save_read, why), λ e. cc)
  packed_for story Plain why = ((taken, save_read, why), λ e. cc)
  packed_for story OtherStory why = ((taken, save_read, why), λ e. cc)
  packed_for story Unfinished why = ((taken, save_read, why), λ e. cc)
  packed_for story TooLong why = ((taken, save_read, why), λ e. cc)
  packed_for story Frames why = ((taken, save_read, why), λ e. cc)
  packed_for story OutOfMemory why = go known part
    where
      some : 0 < length taken
      some =
          let long : ¬ (length taken < 12) = λ few. why NotForm (omega arith) (inl few) in
          omega (arith, long)

      go : (k : Option (List ℕ)) → ((file : List ℕ) → k ≡ Some file → taken ≡ take 1073741824 file) → HasBytes k
      go None is = tt
      go (Some file) is = omega (arith, some, ap length (is file refl), length-take 1073741824 file)

-- a save that can't be read, or for which memory is wanting, isn't unpacked
pub unread_packed : (known : Option (List ℕ)) (story : LoadedStory) (problem : Problem) → (problem ≡ Failed File) ⊎ (problem ≡ Failed Memory) → (problem ≡ Failed Memory → HasBytes known) → IsPacked known story problem
unread_packed known story problem (inl is) wanted = subst (IsPacked known story) (sym is) tt
unread_packed known story problem (inr is) wanted = subst (IsPacked known story) (sym is) (wanted is)

-- what is unpacked of a story that is loaded is unpacked of its file, whose save is as it was before
pub unpacked_of : {T E : Type 0} (r : Result T E) (items : T → List ℕ) (story_known : Option (List ℕ)) (story : LoadedStory) (before after : Option (List ℕ)) → HoldsStory story_known story → after ≡ before
    → IfOk r (λ plain. ReadsSave after (λ packed. IsUnpacked story packed (items plain))) → IfOk r (λ plain. IsUnpackedOf story_known before (items plain))
unpacked_of (Ok plain) items story_known story before after held same h = (story, held, subst (λ (known : Option (List ℕ)). ReadsSave known (λ packed. IsUnpacked story packed (items plain))) same h)
unpacked_of (Err e) items story_known story before after held same h = tt

-- Values of what unpacking comes to, computed.
use Rattle.std.proofs.Common.{◌≡◌, ◌≤◌, ℕ, List, [], ◌∷◌, None, Some, true, false, codes, length, refl, ap, Option, subst}
use Rattle.std.specs.Fmt.{digits}
use Rattle.std.proofs.lemmas.List.{take_all}
use Rattle.zstory.specs.LoadedStory.{LoadedStory}
use Rattle.zunpack.specs.declared.error.UnpackError.TheVariants as unpacks
use Rattle.zcommand.specs.CommandLine.{Unpack}
use Rattle.zperform.specs.Keeping.{kept_in}
use Rattle.zperform.specs.Performing.{is_each, is_quiet, spared_in, written_by}
use Rattle.zperform.specs.Report.{problem_of_unpack, status_of, text_of}
use Rattle.zperform.specs.Unpacking.{IsPacked, ReadsSave, UnpackEnds}
use Rattle.zperform.specs.declared.outcome.Failure.TheVariants.{Read, Write, Memory}
use Rattle.zperform.specs.declared.outcome.Problem.TheVariants.{Failed, Occupied, Packed}
use Rattle.zperform.specs.declared.outcome.Purpose.TheVariants as purposes
use Rattle.zperform.specs.declared.outcome.Outcome.TheVariants.{Found, Stopped, Unpacked}

-- the third file alone is written, unless it holds something else than a save; no input is read, and no failure is passed over
written :
    (written_by (Unpack (1 ∷ []) (2 ∷ []) (3 ∷ []) false) ≡ Some (3 ∷ [])) × (kept_in (Unpack (1 ∷ []) (2 ∷ []) (3 ∷ []) false) ≡ Some (3 ∷ [], purposes.Save)) × (kept_in (Unpack (1 ∷ []) (2 ∷ []) (3 ∷ []) true) ≡ None)
    × (is_quiet (Unpack (1 ∷ []) (2 ∷ []) (3 ∷ []) false) ≡ true) × (is_each (Unpack (1 ∷ []) (2 ∷ []) (3 ∷ []) false) ≡ false) × (spared_in (Unpack (1 ∷ []) (2 ∷ []) (3 ∷ []) false) ≡ None)
written = (refl, refl, refl, refl, refl, refl)

-- what is said of each refusal
refused :
    (text_of (Stopped (Packed unpacks.NotForm)) ≡ codes "refused: C1") × (text_of (Stopped (Packed unpacks.Length)) ≡ codes "refused: C2") × (text_of (Stopped (Packed unpacks.ChunkMissing)) ≡ codes "refused: C3")
    × (text_of (Stopped (Packed unpacks.ChunkTwice)) ≡ codes "refused: C4") × (text_of (Stopped (Packed unpacks.Plain)) ≡ codes "refused: C5") × (text_of (Stopped (Packed unpacks.OtherStory)) ≡ codes "refused: C6")
    × (text_of (Stopped (Packed unpacks.Unfinished)) ≡ codes "refused: C7") × (text_of (Stopped (Packed unpacks.TooLong)) ≡ codes "refused: C8") × (text_of (Stopped (Packed unpacks.Frames)) ≡ codes "refused: C9")
unfolding digits
refused = (refl, refl, refl, refl, refl, refl, refl, refl, refl)

ends : (text_of Unpacked ≡ []) × (status_of Unpacked ≡ 0) × (status_of (Stopped (Packed unpacks.Plain)) ≡ 1)
ends = (refl, refl, refl)

-- want of memory is told as such
wanted : (problem_of_unpack unpacks.OutOfMemory ≡ Failed Memory) × (problem_of_unpack unpacks.Frames ≡ Packed unpacks.Frames)
wanted = (refl, refl)

-- a save that is no longer than what is read of one is read whole
whole : (file : List ℕ) (property : List ℕ → Type 0) → length file ≤ 1073741824 → ReadsSave (Some file) property → property file
whole file property short (bytes, part, is) = subst property (let all : bytes ≡ file = subst (λ (b : List ℕ). bytes ≡ b) (take_all 1073741824 file short) part in all) is

-- no other problem keeps a save from being unpacked, and no other outcome comes of it
others : (story : LoadedStory) → (IsPacked None story (Failed Read) → ⊥) × (IsPacked None story (Failed Write) → ⊥) × (IsPacked None story (Occupied purposes.Save) → ⊥) × (UnpackEnds [] [] [] (λ name. None) (λ name. None) Found → ⊥)
others story = (λ h. h, λ h. h, λ h. h, λ h. h)

-- where a save is refused no file has other bytes
kept : (refusal : UnpackEnds [] (1 ∷ []) (2 ∷ []) (λ name. None) (λ name. Some []) (Stopped (Packed unpacks.Plain))) → ⊥
kept refusal = absurd (let same = ap (λ (known : List ℕ → Option (List ℕ)). known []) (refusal.1 (λ e. cc)) in cc)

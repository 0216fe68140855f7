-- The limit of frames of a search, and the files of one.
use Rattle.std.proofs.Common.{◌≡◌, ℕ, ◌≤◌, Bool, true, List, Option, Some, None, inl, inr, refl, ap, subst, le-leb}
use Rattle.std.specs.Prelude.{IfSome, if◌then◌else◌, option_and_then}
use Rattle.zcommand.specs.CommandLine.{low_limit}
use Rattle.zperform.specs.Accepting.{HoldsStory, IsOfEither}
use Rattle.zperform.specs.Devices.{Held}
use Rattle.zperform.specs.Finding.{IsFound, IsOfStoryOrFound}
use Rattle.zperform.specs.Seeking.{lowered}
use Rattle.zperform.specs.declared.finding.Search.{Search}

-- one that isn't above the greatest stays
pub low_same : (search : Search) → IfSome search.frames (λ n. n ≤ 4096) → lowered search ≡ search
low_same search low = ap (λ (frames : Option ℕ). record search { frames = frames }) (kept search.frames low)
  where
    kept : (frames : Option ℕ) → IfSome frames (λ n. n ≤ 4096) → option_and_then low_limit frames ≡ frames
    kept None low = refl
    kept (Some n) low = ap (λ (b : Bool). if b then Some n else None) (le-leb n 4096 low)

-- which file a failure is of is told by what is known of them, and by which can fail
pub of_others : (search : Search) (files later : Held) (story certificate : List ℕ) → later.known ≡ files.known → later.can_fail ≡ files.can_fail → IsOfStoryOrFound search later story certificate → IsOfStoryOrFound search files story certificate
of_others search files later story certificate kept alike (inl fails) = inl (subst (λ (can : List ℕ → Bool). can story ≡ true) alike fails)
of_others search files later story certificate kept alike (inr ((bytes, text, marks, found), fails)) =
    inr ((bytes, text, marks, subst (λ (known : List ℕ → Option (List ℕ)). IsFound search (known story) bytes text marks) kept found), subst (λ (can : List ℕ → Bool). can certificate ≡ true) alike fails)

pub either_of_others : (files later : Held) (story certificate : List ℕ) → later.known ≡ files.known → later.can_fail ≡ files.can_fail → IsOfEither later story certificate → IsOfEither files story certificate
either_of_others files later story certificate kept alike (inl fails) = inl (subst (λ (can : List ℕ → Bool). can story ≡ true) alike fails)
either_of_others files later story certificate kept alike (inr ((loaded, holds), fails)) =
    inr ((loaded, subst (λ (known : List ℕ → Option (List ℕ)). HoldsStory (known story) loaded) kept holds), subst (λ (can : List ℕ → Bool). can certificate ≡ true) alike fails)

-- The lines of a certificate's instructions, one more at a time.
use Rattle.std.proofs.Common.{◌≡◌, ◌∙◌, ◌&&◌, ◌||◌, ℕ, ◌+◌, Bool, true, false, not, List, [], ◌∷◌, ◌++◌, Some, take, refl, sym, ap, subst, append_assoc}
use Rattle.std.specs.Prelude.{filter, if◌then◌else◌}
use Rattle.std.specs.List.{slice_get}
use Rattle.std.proofs.lemmas.List.{append-nil}
use Rattle.std.proofs.lemmas.List.Elements.{filter-append}
use Rattle.zstory.specs.LoadedStory.{LoadedStory}
use Rattle.zdomain.specs.Domain.{SetOperations}
use Rattle.zcert.specs.Certificate.{Certificate, Instruction}
use Rattle.zperform.specs.Marking.{AreLinesOf, IsLineOf, is_chosen}
use Rattle.zperform.proofs.ShowLemmas.{taken_more}

-- what isn't left out is told of
pub chosen_if : (marked marked_alone : Bool) → (marked_alone && not marked) ≡ false → (marked || not marked_alone) ≡ true
chosen_if true true e = refl
chosen_if true false e = refl
chosen_if false true e = absurd cc
chosen_if false false e = refl

-- and what is left out isn't
pub left_if : (marked marked_alone : Bool) → (marked_alone && not marked) ≡ true → (marked || not marked_alone) ≡ false
left_if true true e = absurd cc
left_if true false e = absurd cc
left_if false true e = refl
left_if false false e = absurd cc

module _ {V : Type 0} (o : SetOperations V) (story : LoadedStory) (c : Certificate V) (json : Bool) where
  -- the lines of the first so many that are told of were added to a text
  abbrev pub TellsFirst : Bool → ℕ → List ℕ → List ℕ → Type 0
  TellsFirst marked_alone k before now = (lines : List ℕ) × AreLinesOf o story c json (filter (is_chosen marked_alone) (take k c.instructions)) lines × (now ≡ before ++ lines)

  -- none so far
  pub tells_none : (marked_alone : Bool) (before : List ℕ) → TellsFirst marked_alone 0 before before
  tells_none marked_alone before = ([], refl, sym (append-nil before))

  -- the lines of one more
  lines_with : (is : List (Instruction V)) (i : Instruction V) (lines more : List ℕ) → AreLinesOf o story c json is lines → IsLineOf o story c json i more → AreLinesOf o story c json (is ++ i ∷ []) (lines ++ more)
  lines_with [] i lines more none it = (more, [], it, refl, ap (λ (bytes : List ℕ). bytes ++ more) none ∙ sym (append-nil more))
  lines_with (j ∷ is) i lines more (first, rest, one, others, split) it =
      (first, rest ++ more, one, lines_with is i rest more others it, ap (λ (bytes : List ℕ). bytes ++ more) split ∙ append_assoc first rest more)

  module _ (marked_alone : Bool) (k : ℕ) (i : Instruction V) (found : slice_get c.instructions k ≡ Some i) (before now : List ℕ) (so_far : TellsFirst marked_alone k before now) where
    longer : (b : Bool) → is_chosen marked_alone i ≡ b → filter (is_chosen marked_alone) (take (k + 1) c.instructions) ≡ filter (is_chosen marked_alone) (take k c.instructions) ++ (if b then i ∷ [] else [])
    longer b is =
        ap (filter (is_chosen marked_alone)) (taken_more c.instructions k i found) ∙ filter-append (is_chosen marked_alone) (take k c.instructions) (i ∷ [])
        ∙ ap (λ (end : Bool). filter (is_chosen marked_alone) (take k c.instructions) ++ (if end then i ∷ [] else [])) is

    -- one that is told of
    pub tells_more : (next more : List ℕ) → is_chosen marked_alone i ≡ true → IsLineOf o story c json i more → next ≡ now ++ more → TellsFirst marked_alone (k + 1) before next
    tells_more next more chosen it added =
        (so_far.0 ++ more, subst (λ (is : List (Instruction V)). AreLinesOf o story c json is (so_far.0 ++ more)) (sym (longer true chosen)) (lines_with _ i so_far.0 more so_far.1 it), added ∙ ap (λ (bytes : List ℕ). bytes ++ more) so_far.2 ∙ append_assoc before so_far.0 more)

    -- one that isn't
    pub tells_same : is_chosen marked_alone i ≡ false → TellsFirst marked_alone (k + 1) before now
    tells_same chosen =
        (so_far.0, subst (λ (is : List (Instruction V)). AreLinesOf o story c json is so_far.0) (sym (longer false chosen ∙ append-nil _)) so_far.1, so_far.2)

-- Globals of a save that lie in their sets, one after another.
use Rattle.std.proofs.Common.{◌≡◌, ℕ, ◌+◌, ◌<◌, List, Some, sym, ◌∙◌, subst}
use Rattle.std.specs.Prelude.{slice_get}
use Rattle.std.proofs.lemmas.Option.{same_Some}
use Rattle.zstory.specs.LoadedStory.{LoadedStory}
use Rattle.zdomain.specs.Domain.{SetOperations, In}
use Rattle.zcert.specs.Certificate.{Certificate}
use Rattle.zrule.specs.Rules.{global_in}
use Rattle.zplace.proofs.Each.{one_more_below}

module _ {V : Type 0} (o : SetOperations V) (story : LoadedStory) (c : Certificate V) (saved : List ℕ) where
  -- each of the first globals is in its set
  abbrev pub HasFirstGlobals : ℕ → Type 0
  HasFirstGlobals end = (k : ℕ) → k < end → (values : V) → slice_get c.globals k ≡ Some values → In o values (global_in story saved k)

  pub global_more : (n : ℕ) (values : V) → slice_get c.globals n ≡ Some values → HasFirstGlobals n → In o values (global_in story saved n) → HasFirstGlobals (n + 1)
  global_more n values at before here =
      one_more_below (λ k. (v : V) → slice_get c.globals k ≡ Some v → In o v (global_in story saved k)) n before (λ v found. subst (λ (w : V). In o w (global_in story saved n)) (same_Some values v (sym at ∙ found)) here)

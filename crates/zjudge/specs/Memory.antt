-- When the dynamic memory of a save is described (own).
use Rattle.std.specs.Prelude.{◌≡◌, ℕ, ◌+◌, ◌<◌, ◌≤◌, List}
use Rattle.std.specs.List.{AllByRecursion}
use Rattle.zstory.specs.Bytes.{byte_at}
use Rattle.zstory.specs.LoadedStory.{LoadedStory, static_base}
use Rattle.zstory.specs.Objects.{object_place}
use Rattle.zcert.specs.declared.parts.Fact.{Fact}
use Rattle.zobj.specs.declared.tree.Link.{Link}
use Rattle.zobj.specs.Tree.{link_byte}
use Rattle.zplace.specs.Bytes.{IsChanging, IsClosed}
use Rattle.zdomain.specs.Domain.{SetOperations}
use Rattle.zrule.specs.Claims.{Claims, frozen_in}
use Rattle.zrule.specs.Rules.{HasGlobals}

-- a byte that comes from the save, behind the header and in dynamic memory, is as loaded, unless instructions change it without asking
abbrev pub IsKept : LoadedStory → List ℕ → ℕ → Type 0
IsKept story saved p = 64 ≤ p → p < static_base story → (IsChanging story p → ⊥) → byte_at saved p ≡ byte_at story.memory p

-- so is each of some bytes
abbrev pub AreKept : LoadedStory → List ℕ → (ℕ → Type 0) → Type 0
AreKept story saved Among = (p : ℕ) → Among p → IsKept story saved p

-- each link of an object leads to one of the story's objects, or to none
abbrev pub HasLinks : LoadedStory → List ℕ → ℕ → Type 0
HasLinks story saved object = (link : Link) → byte_at saved (object_place story.memory object + link_byte link) ≤ story.objects

-- each fact is of a global that there is
abbrev pub AreGlobals : {V : Type 0} → List (Fact V) → Type 0
AreGlobals {V} facts = AllByRecursion (λ (f : Fact V). f.global < 240) facts

-- globals lie in their sets, links lead to objects, and what is closed is as loaded
pub record IsDescribedMemory {V : Type 0} (o : SetOperations V) (claims : Claims V) (story : LoadedStory) (saved : List ℕ) : Type 0 where
  pub values : HasGlobals o claims story saved
  pub tree : (object : ℕ) → 1 ≤ object → object ≤ story.objects → HasLinks story saved object
  pub kept : AreKept story saved (IsClosed story (frozen_in claims))

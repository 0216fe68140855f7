-- Short names that no play changes (own).
use Rattle.std.specs.Prelude.{ℕ, ◌≤◌, Bool}
use Rattle.zstory.specs.LoadedStory.{LoadedStory}
use Rattle.zobj.specs.declared.name.ShortName.{ShortName}
use Rattle.zobj.specs.declared.name.ShortName.TheVariants.{Empty, At, Outside}
use Rattle.zobj.specs.Names.{short_name}
use Rattle.zdomain.specs.Domain.{SetOperations, In}
use Rattle.zruns.specs.Texts.{HasFixedText}

-- a name is empty, or its text is whole in memory, and no byte of it is ever changed
abbrev pub IsFixedName : LoadedStory → (ℕ → Bool) → ShortName → Type 0
IsFixedName story is_frozen Empty = Unit {0}
IsFixedName story is_frozen (At place) = HasFixedText story is_frozen place
IsFixedName story is_frozen Outside = ⊥

abbrev pub HasFixedName : LoadedStory → (ℕ → Bool) → ℕ → Type 0
HasFixedName story is_frozen object = IsFixedName story is_frozen (short_name story.memory object)

-- something holds of each object of the story
abbrev pub EachObject : LoadedStory → (ℕ → Type 0) → Type 0
EachObject story Holds = (x : ℕ) → 1 ≤ x → x ≤ story.objects → Holds x

-- each object of a set has such a name, if the story has it
abbrev pub AreFixedNames : {V : Type 0} → SetOperations V → LoadedStory → (ℕ → Bool) → V → Type 0
AreFixedNames o story is_frozen objects = EachObject story (λ x. In o objects x → HasFixedName story is_frozen x)

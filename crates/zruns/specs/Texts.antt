-- Texts that no play changes (own).
use Rattle.std.specs.Prelude.{◌≡◌, ℕ, ◌+◌, ◌*◌, ◌<◌, ◌≤◌, Bool, false, ◌&&◌, ◌||◌, nat_le, nat_lt, List, length, Option, Some, IsTrue, ◌↔◌, MatchOption, slice_index_or}
use Rattle.zstory.specs.Bytes.{byte_at}
use Rattle.zstory.specs.LoadedStory.{LoadedStory}
use Rattle.ztext.specs.Words.{text_at}
use Rattle.zword.specs.declared.addressing.Addressing.{Addressing}
use Rattle.zword.specs.Addressing.{place_of}
use Rattle.zdomain.specs.Domain.{SetOperations, In}
use Rattle.zdomain.specs.Marks.{is_marked}
use Rattle.zpairs.specs.Frozen.{FrozenStory, frozen_by}
use Rattle.zplace.specs.Bytes.{IsWithin, IsFixed}
use Rattle.zpairs.specs.Fixed.{is_fixed}

-- a text is whole in memory, and no byte of it is ever changed
pub record HasFixedText (story : LoadedStory) (is_frozen : ℕ → Bool) (at : ℕ) : Type 0 where
  pub text : List ℕ
  pub found : text_at story.memory at ≡ Some text
  pub fixed : (p : ℕ) → IsWithin at (length text) p → IsFixed story is_frozen p

-- each word of a set names a place where there is one
abbrev pub AreFixedTexts : {V : Type 0} → SetOperations V → LoadedStory → (ℕ → Bool) → Addressing → V → Type 0
AreFixedTexts o story is_frozen addressing places = (x : ℕ) → In o places x → HasFixedText story is_frozen (place_of addressing x)

-- ---- tables

-- whether there is one at a place, by whether there is one behind its first word
abbrev pub begins_text : FrozenStory → ℕ → Bool → Bool
begins_text told p behind = nat_lt (p + 1) (length told.story.memory) && ((is_fixed told p && is_fixed told (p + 1)) && (nat_le 128 (byte_at told.story.memory p) || behind))

-- marks tell of each place whether there is one
pub record AreTextMarks (told : FrozenStory) (marks : List ℕ) : Type 0 where
  pub each : (p : ℕ) → IsTrue (is_marked marks p) ↔ HasFixedText told.story (frozen_by told.ranges) p

-- of 256 words side by side each names a place that is marked
abbrev pub IsMarkedBlock : List ℕ → Addressing → ℕ → Type 0
IsMarkedBlock marks addressing block = (k : ℕ) → k < 256 → IsTrue (is_marked marks (place_of addressing (256 * block + k)))

-- a table tells of all such words whether each does
abbrev pub AreMarkedBlocks : List ℕ → Addressing → List Bool → Type 0
AreMarkedBlocks marks addressing blocks = (block : ℕ) → block < 256 → IsTrue (slice_index_or blocks block false) ↔ IsMarkedBlock marks addressing block

-- the least word of a set from a number on, if there is one
abbrev pub IsLeastFrom : {V : Type 0} → SetOperations V → V → ℕ → Option ℕ → Type 0
IsLeastFrom o set from least = MatchOption least ((y : ℕ) → In o set y → y < from) (λ x. In o set x × (from ≤ x) × ((y : ℕ) → In o set y → from ≤ y → x ≤ y))

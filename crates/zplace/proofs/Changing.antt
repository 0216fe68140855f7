-- The bytes of objects that instructions change, by how far they lie behind the first entry.
use Rattle.std.proofs.Common.{◌≡◌, ◌↔◌, ◌⊎◌, inl, inr, ℕ, ◌+◌, ◌-◌, ◌*◌, ◌/◌, ◌%◌, ◌<◌, ◌≤◌, min, arith}
use Rattle.std.proofs.lemmas.Bool.{cases_lt}
use Rattle.zstory.specs.LoadedStory.{LoadedStory, globals, object_table}
use Rattle.zstory.specs.Objects.{object_place}
use Rattle.zplace.specs.Bytes.{IsWithin, IsObjectState, IsChanging, IsUnchanging}
use Rattle.zplace.specs.Apart.{AreApart, HasNoObjectState}

pub state_here : (story : LoadedStory) (place behind : ℕ) → place ≡ object_place story.memory 1 + behind → behind / 9 < story.objects → behind % 9 < 7 → IsObjectState story place
state_here story place behind is few inside = record {
  object = behind / 9 + 1;
  first = omega arith;
  last = omega (arith, few);
  inside = (omega (arith, is), omega (arith, is, inside));
}

pub state_inside : (story : LoadedStory) (place behind : ℕ) → place ≡ object_place story.memory 1 + behind → IsObjectState story place → behind % 9 < 7
state_inside story place behind is state = omega (arith, is, state.first, state.inside.0, state.inside.1)

-- ---- so many bytes at once

pub apart_where : (from size other others : ℕ) → 0 < others → AreApart from size other others ↔ ((size ≡ 0) ⊎ ((from + size ≤ other) ⊎ (other + others ≤ from)))
apart_where from size other others some = (there, back)
  where
    there : AreApart from size other others → (size ≡ 0) ⊎ ((from + size ≤ other) ⊎ (other + others ≤ from))
    there none = by_size (cases_lt 0 size)
      where
        by_place : 0 < size → (from < other) ⊎ (other ≤ from) → (other < from + size) ⊎ (from + size ≤ other) → (from < other + others) ⊎ (other + others ≤ from) → (size ≡ 0) ⊎ ((from + size ≤ other) ⊎ (other + others ≤ from))
        by_place more first (inr before) behind = inr (inl before)
        by_place more first (inl low) (inr behind) = inr (inr behind)
        by_place more (inl less) (inl low) (inl high) = absurd (none other (omega (arith, less), omega (arith, low)) (omega arith, omega (arith, some)))
        by_place more (inr less) (inl low) (inl high) = absurd (none from (omega arith, omega (arith, more)) (omega (arith, less), omega (arith, high)))

        by_size : (0 < size) ⊎ (size ≤ 0) → (size ≡ 0) ⊎ ((from + size ≤ other) ⊎ (other + others ≤ from))
        by_size (inl more) = by_place more (cases_lt from other) (cases_lt other (from + size)) (cases_lt from (other + others))
        by_size (inr empty) = inl (omega (arith, empty))

    back : (size ≡ 0) ⊎ ((from + size ≤ other) ⊎ (other + others ≤ from)) → AreApart from size other others
    back (inl none) p one two = absurd (omega (arith, none, one.0, one.1))
    back (inr (inl before)) p one two = absurd (omega (arith, before, one.1, two.0))
    back (inr (inr behind)) p one two = absurd (omega (arith, behind, one.0, two.1))

-- the bytes of entries from low up to high, counted from the first entry
module _ (story : LoadedStory) (from size first low high : ℕ) (first_is : first ≡ object_table story + 62) (low_is : low ≡ from - first) (high_is : high ≡ min (from + size - first) (9 * story.objects)) where
  pub no_state_where : HasNoObjectState story from size ↔ ((high ≤ low) ⊎ ((7 ≤ low % 9) × (high ≤ low / 9 * 9 + 9)))
  no_state_where = (there, back)
    where
      state_at : (q : ℕ) → q < story.objects → low ≤ 9 * q + 6 → (r : ℕ) → r < 7 → low ≤ 9 * q + r → 9 * q + r < high → HasNoObjectState story from size → ⊥
      state_at q few near r small above below none = none (first + 9 * q + r) (omega (arith, low_is, above), omega (arith, high_is, below)) (record {
        object = q + 1;
        first = omega arith;
        last = omega (arith, few);
        inside = (omega (arith, first_is), omega (arith, first_is, small));
      })

      there : HasNoObjectState story from size → (high ≤ low) ⊎ ((7 ≤ low % 9) × (high ≤ low / 9 * 9 + 9))
      there none = by_reach (cases_lt low high)
        where
          by_state : low < high → (low % 9 < 7) ⊎ (7 ≤ low % 9) → (low / 9 * 9 + 9 < high) ⊎ (high ≤ low / 9 * 9 + 9) → (high ≤ low) ⊎ ((7 ≤ low % 9) × (high ≤ low / 9 * 9 + 9))
          by_state more (inl inside) next = absurd (state_at (low / 9) (omega (arith, high_is, more)) (omega (arith, inside)) (low % 9) inside (omega arith) (omega (arith, more)) none)
          by_state more (inr behind) (inl next) = absurd (state_at (low / 9 + 1) (omega (arith, high_is, next)) (omega arith) 0 (omega arith) (omega arith) (omega (arith, next)) none)
          by_state more (inr behind) (inr last) = inr (behind, last)

          by_reach : (low < high) ⊎ (high ≤ low) → (high ≤ low) ⊎ ((7 ≤ low % 9) × (high ≤ low / 9 * 9 + 9))
          by_reach (inl more) = by_state more (cases_lt (low % 9) 7) (cases_lt (low / 9 * 9 + 9) high)
          by_reach (inr empty) = inl empty

      back : (high ≤ low) ⊎ ((7 ≤ low % 9) × (high ≤ low / 9 * 9 + 9)) → HasNoObjectState story from size
      back (inl none) p here state = absurd (omega (arith, none, low_is, high_is, first_is, here.0, here.1, state.first, state.last, state.inside.0, state.inside.1))
      back (inr (behind, last)) p here state = absurd (omega (arith, behind, last, low_is, high_is, first_is, here.0, here.1, state.first, state.last, state.inside.0, state.inside.1))

-- bytes that no instruction changes lie apart from all that one may
pub unchanging_where : (story : LoadedStory) (from size : ℕ) → IsUnchanging story from size ↔ (AreApart from size 0x10 2 × AreApart from size (globals story) 480 × HasNoObjectState story from size)
unchanging_where story from size = (
  λ still. (λ p here flags. still.still p here (inl flags), λ p here a_global. still.still p here (inr (inl a_global)), λ p here state. still.still p here (inr (inr state))),
  λ apart. record { still = λ p here changing. by_kind apart p here changing },
)
  where
    by_kind : AreApart from size 0x10 2 × AreApart from size (globals story) 480 × HasNoObjectState story from size → (p : ℕ) → IsWithin from size p → IsChanging story p → ⊥
    by_kind apart p here (inl flags) = apart.0 p here flags
    by_kind apart p here (inr (inl a_global)) = apart.1 p here a_global
    by_kind apart p here (inr (inr state)) = apart.2 p here state

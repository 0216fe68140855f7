-- Lists of properties, from one size byte to the next.
use Rattle.std.proofs.Common.{◌≡◌, ◌↔◌, ◌⊎◌, inl, inr, ℕ, ◌+◌, ◌-◌, ◌<◌, ◌≤◌, List, length, refl, arith, subst, sym}
use Rattle.std.specs.Prelude.{◌≢◌}
use Rattle.zstory.specs.Bytes.{byte_at}
use Rattle.zobj.specs.Properties.{data_end, data_length, property_number}
use Rattle.zplace.specs.Bytes.{IsWithin, IsSizePlace, here, behind}
use Rattle.zplace.specs.Apart.{AreApart}
use Rattle.zplace.specs.Tables.{IsList, ended, longer, IsDataPlace, in_data, in_rest}
use Rattle.zplace.specs.declared.places.Places.{Places}
use Rattle.zplace.specs.declared.places.Places.TheVariants.{Run, Sizes}
use Rattle.zplace.specs.Places.{IsAmong, MeetsNoData}

-- data lie behind the first size byte, and size bytes from it on
pub data_behind : (memory : List ℕ) (p at : ℕ) → IsDataPlace memory p at → at < p
data_behind memory p at (in_data _ some inside) = omega (arith, inside.0)
data_behind memory p at (in_rest _ some rest) = let later = data_behind memory p (data_end memory at) rest in omega (arith, later)

pub size_from : (memory : List ℕ) (p at : ℕ) → IsSizePlace memory p at → at ≤ p
size_from memory p at (here _ is inside) = omega (arith, is)
size_from memory p at (behind _ some rest) = let later = size_from memory p (data_end memory at) rest in omega (arith, later)

pub size_inside : (memory : List ℕ) (p at : ℕ) → IsSizePlace memory p at → p < length memory
size_inside memory p at (here _ is inside) = inside
size_inside memory p at (behind _ some rest) = size_inside memory p (data_end memory at) rest

-- a list ends at a zero byte
pub no_data_at_end : (memory : List ℕ) (p at : ℕ) → byte_at memory at ≡ 0 → IsDataPlace memory p at → ⊥
no_data_at_end memory p at end (in_data _ some inside) = some end
no_data_at_end memory p at end (in_rest _ some rest) = some end

pub one_size_at_end : (memory : List ℕ) (p at : ℕ) → byte_at memory at ≡ 0 → IsSizePlace memory p at → p ≡ at
one_size_at_end memory p at end (here _ is inside) = is
one_size_at_end memory p at end (behind _ some rest) = absurd (some end)

-- and goes on behind another
pub data_split : (memory : List ℕ) (p at : ℕ) → IsDataPlace memory p at → IsWithin (at + 1) (data_length (byte_at memory at)) p ⊎ IsDataPlace memory p (data_end memory at)
data_split memory p at (in_data _ some inside) = inl inside
data_split memory p at (in_rest _ some rest) = inr rest

pub size_split : (memory : List ℕ) (p at : ℕ) → IsSizePlace memory p at → (p ≡ at) ⊎ IsSizePlace memory p (data_end memory at)
size_split memory p at (here _ is inside) = inl is
size_split memory p at (behind _ some rest) = inr rest

-- places that no data of a list lie at
module _ (memory : List ℕ) (places : Places) (at : ℕ) where
  pub none_at_end : byte_at memory at ≡ 0 → MeetsNoData memory places at
  none_at_end end p among data_there = no_data_at_end memory p at end data_there

  pub none_where : byte_at memory at ≢ 0 → MeetsNoData memory places at ↔ (((p : ℕ) → IsAmong memory places p → IsWithin (at + 1) (data_length (byte_at memory at)) p → ⊥) × MeetsNoData memory places (data_end memory at))
  none_where some = (
    λ none. (λ p among inside. none p among (in_data at some inside), λ p among rest. none p among (in_rest at some rest)),
    λ both p among data_there. by_part both p among (data_split memory p at data_there),
  )
    where
      by_part : ((p : ℕ) → IsAmong memory places p → IsWithin (at + 1) (data_length (byte_at memory at)) p → ⊥) × MeetsNoData memory places (data_end memory at) → (p : ℕ) → IsAmong memory places p → IsWithin (at + 1) (data_length (byte_at memory at)) p ⊎ IsDataPlace memory p (data_end memory at) → ⊥
      by_part both p among (inl inside) = both.0 p among inside
      by_part both p among (inr rest) = both.1 p among rest

-- so many places from one on, and the data of the first property
pub run_where : (memory : List ℕ) (from size at end : ℕ) → byte_at memory at ≢ 0 → end ≡ data_end memory at → MeetsNoData memory (Run from size) at ↔ (AreApart from size (at + 1) (end - at - 1) × MeetsNoData memory (Run from size) end)
run_where memory from size at end some is =
    let both = none_where memory (Run from size) at some in
    let long : end - at - 1 ≡ data_length (byte_at memory at) = omega (arith, is) in (
      λ none. (λ p among inside. (both.0 none).0 p among (omega (arith, inside.0), omega (arith, inside.1, long)), subst (MeetsNoData memory (Run from size)) (sym is) (both.0 none).1),
      λ parts. both.1 (λ p among inside. parts.0 p among (omega (arith, inside.0), omega (arith, inside.1, long)), subst (MeetsNoData memory (Run from size)) is parts.1),
    )

-- size bytes of one list, and the data of another
module _ (memory : List ℕ) (size at : ℕ) where
  -- the other's first data end before or at the size byte
  pub sizes_later : (end : ℕ) → byte_at memory at ≢ 0 → end ≡ data_end memory at → end ≤ size → MeetsNoData memory (Sizes size) at ↔ MeetsNoData memory (Sizes size) end
  sizes_later end some is low =
      let both = none_where memory (Sizes size) at some in (
        λ none. subst (MeetsNoData memory (Sizes size)) (sym is) (both.0 none).1,
        λ rest. both.1 (λ p among inside. before p (size_from memory p size among) inside, subst (MeetsNoData memory (Sizes size)) is rest),
      )
    where
      before : (p : ℕ) → size ≤ p → IsWithin (at + 1) (data_length (byte_at memory at)) p → ⊥
      before p from inside = omega (arith, from, inside.1, is, low)

  -- it is one of them
  pub sizes_met : byte_at memory at ≢ 0 → at < size → size < data_end memory at → size < length memory → MeetsNoData memory (Sizes size) at → ⊥
  sizes_met some low high inside none = none size (here size refl inside) (in_data at some (omega (arith, low), omega (arith, high)))

  -- outside memory there is none
  pub sizes_outside : length memory ≤ size → MeetsNoData memory (Sizes size) at
  sizes_outside outside p among data_there = let from = size_from memory p size among in let inside = size_inside memory p size among in omega (arith, outside, from, inside)

  -- it lies before all of them
  pub size_passed : (next : ℕ) → byte_at memory size ≢ 0 → next ≡ data_end memory size → size ≤ at → MeetsNoData memory (Sizes size) at ↔ MeetsNoData memory (Sizes next) at
  size_passed next some is low = (
    λ none p among data_there. none p (behind size some (subst (IsSizePlace memory p) is among)) data_there,
    λ none p among data_there. by_part none p data_there (size_split memory p size among),
  )
    where
      by_part : MeetsNoData memory (Sizes next) at → (p : ℕ) → IsDataPlace memory p at → (p ≡ size) ⊎ IsSizePlace memory p (data_end memory size) → ⊥
      by_part none p data_there (inl e) = let later = data_behind memory p at data_there in omega (arith, e, later, low)
      by_part none p data_there (inr rest) = none p (subst (IsSizePlace memory p) (sym is) rest) data_there

  pub last_size_passed : byte_at memory size ≡ 0 → size ≤ at → MeetsNoData memory (Sizes size) at
  last_size_passed end low p among data_there = let later = data_behind memory p at data_there in let e = one_size_at_end memory p size end among in omega (arith, e, later, low)

-- a list that is wholly below an end, with falling numbers
pub list_inside : (memory : List ℕ) (end bound at : ℕ) → IsList memory end bound at → at < end
list_inside memory end bound at (ended _ _ inside zero_there) = inside
list_inside memory end bound at (longer _ _ some less rest) = let later = list_inside memory end (property_number (byte_at memory at)) (data_end memory at) rest in omega (arith, later)

-- its data lie below it, too
pub data_inside : (memory : List ℕ) (end bound at p : ℕ) → IsList memory end bound at → IsDataPlace memory p at → p < end
data_inside memory end bound at p (ended _ _ inside zero_there) data_there = absurd (no_data_at_end memory p at zero_there data_there)
data_inside memory end bound at p (longer _ _ some less rest) data_there = by_part (list_inside memory end (property_number (byte_at memory at)) (data_end memory at) rest) (data_inside memory end (property_number (byte_at memory at)) (data_end memory at) p rest) (data_split memory p at data_there)
  where
    by_part : data_end memory at < end → (IsDataPlace memory p (data_end memory at) → p < end) → IsWithin (at + 1) (data_length (byte_at memory at)) p ⊎ IsDataPlace memory p (data_end memory at) → p < end
    by_part low later (inl inside) = omega (arith, low, inside.1)
    by_part low later (inr further) = later further

-- a zero byte ends a list, and no list stands at a property whose number is 0 or isn't below the bound
pub list_split : (memory : List ℕ) (end bound at : ℕ) → byte_at memory at ≢ 0 → IsList memory end bound at → (1 ≤ property_number (byte_at memory at)) × (property_number (byte_at memory at) < bound) × IsList memory end (property_number (byte_at memory at)) (data_end memory at)
list_split memory end bound at something (ended _ _ inside zero_there) = absurd (something zero_there)
list_split memory end bound at something (longer _ _ some less rest) = (some, less, rest)

pub list_where : (memory : List ℕ) (end bound at number next : ℕ) → byte_at memory at ≢ 0 → number ≡ property_number (byte_at memory at) → next ≡ data_end memory at → 1 ≤ number → number < bound → IsList memory end bound at ↔ IsList memory end number next
list_where memory end bound at number next something is_number is_next some less = (
  λ list. subst (λ (k : ℕ). IsList memory end k next) (sym is_number) (subst (IsList memory end (property_number (byte_at memory at))) (sym is_next) (list_split memory end bound at something list).2),
  λ rest. longer bound at (omega (arith, some, is_number)) (omega (arith, less, is_number)) (subst (IsList memory end (property_number (byte_at memory at))) is_next (subst (λ (k : ℕ). IsList memory end k next) is_number rest)),
)

-- size bytes that are none of some places, by what is read of a memory that is the same
module _ (S : ℕ → Type 0) (memory read : List ℕ) (same : read ≡ memory) (at : ℕ) where
  pub still_where : (end : ℕ) → byte_at read at ≢ 0 → end ≡ data_end read at → at < length read → ((p : ℕ) → IsSizePlace memory p at → S p → ⊥) ↔ ((at < length memory → S at → ⊥) × ((p : ℕ) → IsSizePlace memory p end → S p → ⊥))
  still_where end something is inside =
      let there : byte_at memory at ≢ 0 = subst (λ (m : List ℕ). byte_at m at ≢ 0) same something in
      let ends : end ≡ data_end memory at = subst (λ (m : List ℕ). end ≡ data_end m at) same is in (
        λ all. (λ within is_one. all at (here at refl within) is_one, λ p further is_one. all p (behind at there (subst (IsSizePlace memory p) ends further)) is_one),
        λ both p size is_one. by_part ends both p is_one (size_inside memory p at size) (size_split memory p at size),
      )
    where
      by_part : end ≡ data_end memory at → (at < length memory → S at → ⊥) × ((p : ℕ) → IsSizePlace memory p end → S p → ⊥) → (p : ℕ) → S p → p < length memory → (p ≡ at) ⊎ IsSizePlace memory p (data_end memory at) → ⊥
      by_part ends both p is_one within (inl e) = both.0 (subst (λ (k : ℕ). k < length memory) e within) (subst S e is_one)
      by_part ends both p is_one within (inr further) = both.1 p (subst (IsSizePlace memory p) (sym ends) further) is_one

  pub last_still_where : byte_at read at ≡ 0 → ((p : ℕ) → IsSizePlace memory p at → S p → ⊥) ↔ (at < length memory → S at → ⊥)
  last_still_where end =
      let there : byte_at memory at ≡ 0 = subst (λ (m : List ℕ). byte_at m at ≡ 0) same end in (
        λ all within is_one. all at (here at refl within) is_one,
        λ none p size is_one. let e = one_size_at_end memory p at there size in none (subst (λ (k : ℕ). k < length memory) e (size_inside memory p at size)) (subst S e is_one),
      )

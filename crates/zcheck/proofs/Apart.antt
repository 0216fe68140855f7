-- Tables that share no byte, abbreviations and frozen ranges, each asked for by itself.
use Rattle.std.proofs.Common.{◌≡◌, ◌↔◌, ◌⊎◌, inl, inr, ℕ, zero, suc, ◌+◌, ◌*◌, ◌-◌, ◌<◌, ◌≤◌, Bool, true, false, List, [], ◌∷◌, length, take, drop, Some, refl, sym, ◌∙◌, subst, arith}
use Rattle.std.specs.Prelude.{All, nat_le, ◌&&◌, ◌||◌, slice_index_or}
use Rattle.std.specs.List.{list_any, AllByRecursion}
use Rattle.std.proofs.lemmas.Bool.{cases_lt, leb-true, le-leb}
use Rattle.std.proofs.lemmas.List.{length-take-le, length-drop}
use Rattle.std.proofs.lemmas.Option.{same_Some}
use Rattle.zstory.specs.Bytes.{word_at}
use Rattle.zstory.specs.LoadedStory.{LoadedStory, static_base, abbreviations}
use Rattle.ztext.specs.Abbreviations.{readable_word, abbreviation_at, IsPlainAbbreviation}
use Rattle.ztext.specs.Local.{read_length}
use Rattle.zcert.specs.declared.parts.Range.{Range}
use Rattle.zcert.specs.Spelling.{IsRange}
use Rattle.zplace.specs.Bytes.{IsWithin, IsChanging, IsUnchanging}
use Rattle.zpairs.specs.Frozen.{is_inside}
use Rattle.zrule.proofs.Unchanged.{IsRead, read_where}
use Rattle.zrule.specs.Rules.{HasAbbreviations, HasDisjointTables}
use Rattle.zcheck.specs.Tables.{HasAbbreviation, IsFrozenApart, AreApart}

-- two pieces of memory, neither empty, share no byte where one ends before the other
pub apart_where : (a n b m : ℕ) → 0 < n → 0 < m → ((p : ℕ) → IsWithin a n p → IsWithin b m p → ⊥) ↔ ((a + n ≤ b) ⊎ (b + m ≤ a))
apart_where a n b m some more = (there, back)
  where
    there : ((p : ℕ) → IsWithin a n p → IsWithin b m p → ⊥) → (a + n ≤ b) ⊎ (b + m ≤ a)
    there none = by_order (cases_lt b (a + n)) (cases_lt a (b + m))
      where
        -- the higher beginning lies in both
        shared : b < a + n → a < b + m → ⊥
        shared l k = by_first (cases_lt a b)
          where
            by_first : (a < b) ⊎ (b ≤ a) → ⊥
            by_first (inl low) = none b (omega (arith, low), omega (arith, l)) (omega arith, omega (arith, more))
            by_first (inr low) = none a (omega arith, omega (arith, some)) (omega (arith, low), omega (arith, k))

        by_order : (b < a + n) ⊎ (a + n ≤ b) → (a < b + m) ⊎ (b + m ≤ a) → (a + n ≤ b) ⊎ (b + m ≤ a)
        by_order (inr f) k = inl f
        by_order (inl l) (inr g) = inr g
        by_order (inl l) (inl k) = absurd (shared l k)

    back : (a + n ≤ b) ⊎ (b + m ≤ a) → (p : ℕ) → IsWithin a n p → IsWithin b m p → ⊥
    back (inl f) p in_a in_b = absurd (omega (arith, f, in_a.1, in_b.0))
    back (inr g) p in_a in_b = absurd (omega (arith, g, in_a.0, in_b.1))

-- an abbreviation by where its word and its text lie
module _ (story : LoadedStory) (n place size : ℕ) (few : n < 96) (plain : IsPlainAbbreviation story.memory n) (text : abbreviation_at story.memory n ≡ Some (take size (drop place story.memory))) (at : place ≡ 2 * word_at story.memory (abbreviations story + 2 * n)) (within : place + size ≤ length story.memory) where
  long : length (take size (drop place story.memory)) ≡ size
  long = length-take-le size (drop place story.memory) (omega (arith, within, length-drop place story.memory))

  read : IsRead story.memory n (take size (drop place story.memory)) (abbreviations story)
  read = read_where story.memory n (take size (drop place story.memory)) text

  parts_still : HasAbbreviation story n → IsUnchanging story (abbreviations story + 2 * n) 2 × IsUnchanging story place size
  parts_still has = (
    record { still = λ p inside. has.unchanging p (record { number = n; last = few; inside = inl inside }) refl },
    record { still = λ p inside. has.unchanging p (record { number = n; last = few; inside = inr (word_at story.memory (abbreviations story + 2 * n), read.word, (omega (arith, at, inside.0), omega (arith, at, long, read.length_is, inside.1))) }) refl },
  )

  by_part : IsUnchanging story (abbreviations story + 2 * n) 2 × IsUnchanging story place size → (p k : ℕ) → k ≡ n → (IsWithin (abbreviations story + 2 * k) 2 p ⊎ ((word : ℕ) × (readable_word story.memory (abbreviations story + 2 * k) ≡ Some word) × IsWithin (2 * word) (read_length story.memory (2 * word)) p)) → IsChanging story p → ⊥
  by_part still p k same (inl word) = still.0.still p (subst (λ (j : ℕ). IsWithin (abbreviations story + 2 * j) 2 p) same word)
  by_part still p k same (inr (word, found, there)) =
      let found_here : readable_word story.memory (abbreviations story + 2 * n) ≡ Some word = subst (λ (j : ℕ). readable_word story.memory (abbreviations story + 2 * j) ≡ Some word) same found in
      let w = word_at story.memory (abbreviations story + 2 * n) in
      let is : word ≡ w = same_Some word w (sym found_here ∙ read.word) in
      let here : IsWithin (2 * w) (read_length story.memory (2 * w)) p = subst (λ (v : ℕ). IsWithin (2 * v) (read_length story.memory (2 * v)) p) is there in
      still.1.still p (omega (arith, at, here.0), omega (arith, at, here.1, read.length_is, long))

  pub abbreviation_where : HasAbbreviation story n ↔ (IsUnchanging story (abbreviations story + 2 * n) 2 × IsUnchanging story place size)
  abbreviation_where = (parts_still, λ still. record { plain = plain; unchanging = λ p inside same. by_part still p inside.number same inside.inside })

-- all abbreviations, one by one
pub abbreviations_each : (story : LoadedStory) → HasAbbreviations story ↔ ((n : ℕ) → n < 96 → HasAbbreviation story n)
abbreviations_each story = (
  λ has n few. record { plain = has.plain n few; unchanging = λ p inside same. has.unchanging p inside },
  λ each. record { plain = λ n few. (each n few).plain; unchanging = λ p inside. (each inside.number inside.last).unchanging p inside refl },
)

-- what is frozen, range by range
module _ (story : LoadedStory) where
  none_in : (p : ℕ) → list_any (is_inside p) [] ≡ true → ⊥
  none_in p e = cc

  and_true : (a b : Bool) → (a && b) ≡ true → (a ≡ true) × (b ≡ true)
  and_true true b e = (refl, e)
  and_true false b e = absurd cc

  inside_range : (p : ℕ) (r : Range) → is_inside p r ≡ true → (r.first ≤ p) × (p ≤ r.last)
  inside_range p r e = let both = and_true (nat_le r.first p) (nat_le p r.last) e in (leb-true r.first p both.0, leb-true p r.last both.1)

  frozen_in : (ranges : List Range) → AllByRecursion (IsFrozenApart story) ranges → (p : ℕ) → list_any (is_inside p) ranges ≡ true → (64 ≤ p) × (p < static_base story) × (IsChanging story p → ⊥)
  frozen_in [] each p e = absurd (none_in p e)
  frozen_in (r ∷ ranges) each p e = by_first (frozen_in ranges each.1 p) (is_inside p r) refl e
    where
      by_first : (list_any (is_inside p) ranges ≡ true → (64 ≤ p) × (p < static_base story) × (IsChanging story p → ⊥)) → (b : Bool) → is_inside p r ≡ b → (b || list_any (is_inside p) ranges) ≡ true → (64 ≤ p) × (p < static_base story) × (IsChanging story p → ⊥)
      by_first rest true is f =
          let inside = inside_range p r is in
          (omega (arith, each.0.above, inside.0), omega (arith, each.0.below, inside.1), each.0.unchanging.still p (inside.0, omega (arith, inside.0, inside.1)))
      by_first rest false is f = rest f

  range_inside : (p : ℕ) (r : Range) → r.first ≤ p → p ≤ r.last → is_inside p r ≡ true
  range_inside p r low high = let a = le-leb r.first p low in let b = le-leb p r.last high in rw (a, b) refl

  or_left : (a b : Bool) → a ≡ true → (a || b) ≡ true
  or_left true b e = refl
  or_left false b e = absurd cc

  or_right : (a b : Bool) → b ≡ true → (a || b) ≡ true
  or_right true b e = refl
  or_right false b e = e

  frozen_each : (ranges : List Range) → AllByRecursion IsRange ranges → ((p : ℕ) → list_any (is_inside p) ranges ≡ true → (64 ≤ p) × (p < static_base story) × (IsChanging story p → ⊥)) → AllByRecursion (IsFrozenApart story) ranges
  frozen_each [] ordered known = tt
  frozen_each (r ∷ ranges) ordered known =
      let here : (p : ℕ) → r.first ≤ p → p ≤ r.last → (64 ≤ p) × (p < static_base story) × (IsChanging story p → ⊥) = λ p low high. known p (or_left (is_inside p r) (list_any (is_inside p) ranges) (range_inside p r low high)) in
      let first = here r.first (omega arith) ordered.0.ordered in
      let last = here r.last ordered.0.ordered (omega arith) in (
        record { above = first.0; below = last.1; unchanging = record { still = λ p inside. (here p inside.0 (omega (arith, inside.0, inside.1))).2 } },
        frozen_each ranges ordered.1 (λ p e. known p (or_right (is_inside p r) (list_any (is_inside p) ranges) e)),
      )

  -- tables, and ranges one by one
  pub tables_where : (ranges : List Range) → AllByRecursion IsRange ranges → HasDisjointTables story (λ p. list_any (is_inside p) ranges) ↔ (AreApart story × AllByRecursion (IsFrozenApart story) ranges)
  tables_where ranges ordered = (
    λ has. (has.apart, frozen_each ranges ordered (λ p e. (has.frozen_above p e, has.frozen_below p e, has.unchanging p e))),
    λ both. record { apart = both.0; frozen_above = λ p e. (frozen_in ranges both.1 p e).0; frozen_below = λ p e. (frozen_in ranges both.1 p e).1; unchanging = λ p e. (frozen_in ranges both.1 p e).2 },
  )

-- a range by its first byte and its size
pub frozen_where : (story : LoadedStory) (range : Range) (first size : ℕ) → first ≡ range.first → size ≡ range.last + 1 - range.first → 64 ≤ first → range.last + 1 ≤ static_base story → IsUnchanging story first size ↔ IsFrozenApart story range
frozen_where story range first size is_first is_size above below = (
  λ still. record { above = omega (arith, is_first, above); below = omega (arith, below); unchanging = subst (λ (k : ℕ). IsUnchanging story range.first k) is_size (subst (λ (k : ℕ). IsUnchanging story k size) is_first still) },
  λ apart. subst (λ (k : ℕ). IsUnchanging story k size) (sym is_first) (subst (λ (k : ℕ). IsUnchanging story range.first k) (sym is_size) apart.unchanging),
)

-- of each element, by their places and by recursion
pub each_of : {A : Type 0} (P : A → Type 0) (xs : List A) → All P xs ↔ AllByRecursion P xs
each_of P [] = (λ all. tt, λ each k d less. absurd (omega (arith, less)))
each_of P (x ∷ xs) =
    let rest = each_of P xs in
    (λ all. (all 0 x (omega arith), rest.0 (λ k d less. all (suc k) d (omega (arith, less)))), λ each k d less. by_place (rest.1 each.1) each.0 k d less)
  where
    by_place : All P xs → P x → (k : ℕ) (d : _) → k < length (x ∷ xs) → P (slice_index_or (x ∷ xs) k d)
    by_place all here zero d less = here
    by_place all here (suc k) d less = all k d (omega (arith, less))

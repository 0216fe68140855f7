-- Elements of arrays in a memory that claims describe.
use Rattle.std.proofs.Common.{◌≡◌, ◌⊎◌, inl, inr, ℕ, zero, suc, ◌+◌, ◌-◌, ◌<◌, ◌≤◌, nat_le, Bool, true, List, Some, refl, sym, subst, arith}
use Rattle.std.specs.Prelude.{◌==◌, ◌||◌, min}
use Rattle.std.proofs.lemmas.Bool.{cases_lt, lt-ltb, le-leb}
use Rattle.zstory.specs.Bytes.{AreBytes, readable_end}
use Rattle.zstory.specs.LoadedStory.{LoadedStory, static_base}
use Rattle.zarray.specs.declared.width.Width.{Width}
use Rattle.zarray.specs.declared.width.Width.TheVariants.{Byte, Word}
use Rattle.zarray.specs.Arrays.{span, place_of, value_at, element_at, with_element}
use Rattle.zobj.specs.declared.property.Property.{Property}
use Rattle.zobj.specs.Kept.{DiffersOnly}
use Rattle.zobj.specs.Values.{IsDataByte}
use Rattle.zobj.proofs.Puts.{value_differs}
use Rattle.zdomain.specs.Domain.{SetOperations, AreSound, In}
use Rattle.zstate.specs.Step.{are_writable, is_writable}
use Rattle.zplace.specs.Bytes.{IsOpen, header, static}
use Rattle.zruns.specs.Runs.{AreOpen, AreReadable, EachPlace, elements}
use Rattle.zruns.proofs.Reached.{reached}
use Rattle.zruns.proofs.Lying.{elements_lie}
use Rattle.zrule.specs.Claims.{Claims, frozen_in, told_of}
use Rattle.zrule.specs.Described.{DescribedMemory}

-- an open byte may be written: it isn't static, and of the header it is one of Flags 2
open_writable : (story : LoadedStory) (is_frozen : ℕ → Bool) (p : ℕ) → IsOpen story is_frozen p → is_writable story p ≡ true
open_writable story is_frozen p free = by_base (cases_lt p (static_base story))
  where
    flags_there : 16 ≤ p → p < 18 → (p == 16 || p == 17) ≡ true
    flags_there from below = grind (arith, from, below)

    with_base : p < static_base story → (nat_le 64 p || (p == 16 || p == 17)) ≡ true → is_writable story p ≡ true
    with_base below is = let one = lt-ltb p (static_base story) below in rw (one, is) refl

    by_flags : (p < 16) ⊎ (16 ≤ p) → (p < 18) ⊎ (18 ≤ p) → p < 64 → (p == 16 || p == 17) ≡ true
    by_flags (inl before) after low = absurd (free (header (low, λ flags. omega (arith, before, flags.0))))
    by_flags (inr from) (inl below) low = flags_there from below
    by_flags (inr from) (inr after) low = absurd (free (header (low, λ flags. omega (arith, after, flags.1))))

    by_header : (p < 64) ⊎ (64 ≤ p) → (nat_le 64 p || (p == 16 || p == 17)) ≡ true
    by_header (inr above) = let one = le-leb 64 p above in rw one refl
    by_header (inl low) = let is = by_flags (cases_lt p 16) (cases_lt p 18) low in grind (arith, is)

    by_base : (p < static_base story) ⊎ (static_base story ≤ p) → is_writable story p ≡ true
    by_base (inl below) = with_base below (by_header (cases_lt p 64))
    by_base (inr above) = absurd (free (static above))

-- and so are so many from a place on
pub all_writable : (story : LoadedStory) (is_frozen : ℕ → Bool) (n p : ℕ) → ((j : ℕ) → j < n → IsOpen story is_frozen (p + j)) → are_writable story p n ≡ true
unfolding are_writable
all_writable story is_frozen zero p free = refl
all_writable story is_frozen (suc n) p free =
    let first = open_writable story is_frozen p (subst (IsOpen story is_frozen) (omega arith) (free 0 (omega arith))) in
    let rest = all_writable story is_frozen n (p + 1) (λ j less. subst (IsOpen story is_frozen) (omega arith) (free (suc j) (omega (arith, less)))) in
    rw (first, rest) refl

-- the bytes of an element, as those of a property's data
abbrev pub bytes_of : Width → ℕ → Property
bytes_of width p = record { number = 0; place = p; length = span width }

pub element_differs : (memory : List ℕ) (width : Width) (p x : ℕ) → DiffersOnly (IsDataByte (bytes_of width p)) memory (with_element width p x memory)
element_differs memory Byte p x = value_differs memory x (record { number = 0; place = p; length = 1 })
element_differs memory Word p x = value_differs memory x (record { number = 0; place = p; length = 2 })

module _ {V : Type 0} (o : SetOperations V) (lawful : AreSound o) (claims : Claims V) (story : LoadedStory) (now : List ℕ) (d : DescribedMemory o claims story now) (width : Width) (arrays indices : V) (a i : ℕ) (in_arrays : In o arrays a) (in_indices : In o indices i) where
  abbrev place : ℕ
  place = place_of width a i

  -- what holds of each place where an element may lie holds of this one
  at_place : (Holds : ℕ → Type 0) → EachPlace o width arrays indices Holds → Holds place
  at_place Holds each = reached o lawful width arrays indices Holds a i in_arrays in_indices each

  -- an element can be read where it could be in the story, and lies in the set of what may be read
  pub element_there : AreReadable o story width arrays indices → (x : ℕ) × (element_at width now place ≡ Some x)
  element_there readable =
      let inside : place + span width ≤ readable_end story.memory = at_place (λ p. p + span width ≤ readable_end story.memory) readable in
      let here : place + span width ≤ readable_end now = subst (λ (n : ℕ). place + span width ≤ min n 65536) (sym d.long) inside in
      let one = le-leb (place + span width) (readable_end now) here in
      (value_at width now place, rw one refl)

  pub element_lies : AreBytes now → (x : ℕ) → element_at width now place ≡ Some x → In o (elements o (told_of claims story) width arrays indices) x
  element_lies are x is = elements_lie o lawful (told_of claims story) now width arrays indices a i x in_arrays in_indices d.fixed are is

  -- an element that is open may be written
  module _ (free : AreOpen o story (frozen_in claims) width arrays indices) where
    byte_open : (j : ℕ) → j < span width → IsOpen story (frozen_in claims) (place + j)
    byte_open j less = at_place (λ p. (k : ℕ) → k < span width → IsOpen story (frozen_in claims) (p + k)) free j less

    pub element_writable : are_writable story place (span width) ≡ true
    element_writable = all_writable story (frozen_in claims) (span width) place byte_open

    pub data_open : (p : ℕ) → IsDataByte (bytes_of width place) p → IsOpen story (frozen_in claims) p
    data_open p is = subst (IsOpen story (frozen_in claims)) (behind (p - place) (omega arith)) (byte_open (p - place) (omega (arith, is.0, is.1)))
      where
        behind : (j : ℕ) → j ≡ p - place → place + j ≡ p
        behind j same = omega (arith, same, is.0)

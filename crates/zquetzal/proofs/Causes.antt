-- A save that is refused is refused for the lowest cause that holds, and one that is read has none.
use Rattle.std.proofs.Common.{◌≡◌, ◌⊎◌, inl, inr, ℕ, ◌<◌, ◌≤◌, Bool, true, false, List, [], ◌∷◌, length, Option, Some, None, Result, Ok, Err, eq-eqb, refl, sym, ap, ◌∙◌, arith}
use Rattle.std.specs.Prelude.{◌==◌, ◌&&◌, not}
use Rattle.std.proofs.lemmas.Bool.{eqb-true, cases_Bool, eqb-false}
use Rattle.zquetzal.specs.declared.error.SaveError.{SaveError}
use Rattle.zquetzal.specs.declared.error.SaveError.TheVariants as errors
use Rattle.zquetzal.specs.declared.limits.TheConstants.{IFHD, UMEM, CMEM, STKS}
use Rattle.zquetzal.specs.Grammar.{Chunk, is_known, known}
use Rattle.zquetzal.specs.Reading.{Found, Absent, Once, Often, Parts, found, found_then, first_known, is_header, is_absent, is_often, chosen, parts_of}
use Rattle.zquetzal.specs.Causes.{of_kind, IsMissing, IsLate}

-- ---- how often a chunk is there

abbrev found_of : List Chunk → Found
found_of [] = Absent
found_of (c ∷ []) = Once c.contents
found_of (c ∷ d ∷ cs) = Often

one_more : (c : Chunk) (cs : List Chunk) → found_then (Once c.contents) (found_of cs) ≡ found_of (c ∷ cs)
one_more c [] = refl
one_more c (d ∷ []) = refl
one_more c (d ∷ e ∷ cs) = refl

found_is : (id : ℕ) (cs : List Chunk) → found id cs ≡ found_of (of_kind id cs)
found_is id [] = refl
found_is id (c ∷ cs) =
    elim (cases_Bool (c.id == id)) [
      | inl is_so ↦ rw is_so (ap (found_then (Once c.contents)) (found_is id cs) ∙ one_more c (of_kind id cs))
      | inr is_not ↦ rw is_not (found_is id cs)
    ]

-- ---- `IFhd` is the first of those that are known

abbrev header_first : Option Chunk → Bool
header_first None = false
header_first (Some c) = c.id == IFHD

abbrev front : List Chunk → Option Chunk
front [] = None
front (c ∷ cs) = Some c

leads_is : (cs : List Chunk) → is_header (first_known cs) ≡ header_first (front (known cs))
leads_is [] = refl
leads_is (c ∷ cs) =
    elim (cases_Bool (is_known c.id)) [
      | inl is_so ↦ rw is_so refl
      | inr is_not ↦ rw is_not (leads_is cs)
    ]

abbrev first_id : List Chunk → ℕ
first_id [] = 0
first_id (c ∷ cs) = c.id

-- a chunk that is known is one of those that are
kept : (c : Chunk) (cs : List Chunk) → is_known c.id ≡ true → known (c ∷ cs) ≡ c ∷ known cs
kept c cs e = rw e refl

none_known : (cs : List Chunk) → known cs ≡ [] → of_kind IFHD cs ≡ []
none_known [] e = refl
none_known (c ∷ cs) e =
    elim (cases_Bool (is_known c.id)) [
      | inl is_so ↦ absurd (let f = sym (kept c cs is_so) ∙ e in cc)
      | inr is_not ↦
          elim (cases_Bool (c.id == IFHD)) [
            | inl same ↦ absurd (let i : is_known c.id ≡ true = ap is_known (eqb-true c.id IFHD same) in let both = sym is_not ∙ i in cc)
            | inr other ↦ rw other (none_known cs (rw is_not at e))
          ]
    ]

some_header : (cs : List Chunk) (c : Chunk) (others : List Chunk) → known cs ≡ c ∷ others → c.id ≡ IFHD → of_kind IFHD cs ≡ [] → ⊥
some_header [] c others e f g = cc
some_header (d ∷ cs) c others e f g =
    elim (cases_Bool (is_known d.id)) [
      | inl is_so ↦
          let same : d ∷ known cs ≡ c ∷ others = sym (kept d cs is_so) ∙ e in
          let is : d.id ≡ IFHD = ap first_id same ∙ f in
          let test : (d.id == IFHD) ≡ true = eq-eqb d.id IFHD is in
          let h : d ∷ of_kind IFHD cs ≡ [] = rw test at g in
          cc
      | inr is_not ↦
          elim (cases_Bool (d.id == IFHD)) [
            | inl same ↦ let i : is_known d.id ≡ true = ap is_known (eqb-true d.id IFHD same) in let both = sym is_not ∙ i in cc
            | inr other ↦ some_header cs c others (rw is_not at e) f (rw other at g)
          ]
    ]

-- `IFhd` is in front of all others where it is the first
leading : (cs : List Chunk) → is_header (first_known cs) ≡ true → ¬ IsMissing IFHD cs × ¬ IsLate cs
leading cs e = leading_at (known cs) refl
  where
    leading_at : (ks : List Chunk) → known cs ≡ ks → ¬ IsMissing IFHD cs × ¬ IsLate cs
    leading_at [] same = absurd (let f = sym e ∙ leads_is cs ∙ ap (λ (k : List Chunk). header_first (front k)) same in cc)
    leading_at (c ∷ others) same =
        let f : (c.id == IFHD) ≡ true = sym (ap (λ (k : List Chunk). header_first (front k)) same) ∙ sym (leads_is cs) ∙ e in
        let is : c.id ≡ IFHD = eqb-true c.id IFHD f in
        (some_header cs c others same is, λ late. late.unlike (ap first_id (sym late.order ∙ same) ∙ is))

-- and otherwise it is missing or late
behind : (cs : List Chunk) → is_header (first_known cs) ≡ false → IsMissing IFHD cs ⊎ IsLate cs
behind cs e = behind_at (known cs) refl
  where
    behind_at : (ks : List Chunk) → known cs ≡ ks → IsMissing IFHD cs ⊎ IsLate cs
    behind_at [] same = inl (none_known cs same)
    behind_at (c ∷ others) same =
        let f : (c.id == IFHD) ≡ false = sym (ap (λ (k : List Chunk). header_first (front k)) same) ∙ sym (leads_is cs) ∙ e in
        inr (record { first = c; others = others; order = same; unlike = eqb-false c.id IFHD f })

-- ---- what is chosen

abbrev is_none : List Chunk → Bool
is_none [] = true
is_none (c ∷ cs) = false

absent_is : (cs : List Chunk) → is_absent (found_of cs) ≡ is_none cs
absent_is [] = refl
absent_is (c ∷ []) = refl
absent_is (c ∷ d ∷ cs) = refl

-- whether all are there, of those that come behind `IFhd`
abbrev are_there : Bool → Found → Found → Found → Bool
are_there leads s m k = leads && not (is_absent s) && not (is_absent m && is_absent k)

abbrev are_some : Bool → List Chunk → List Chunk → List Chunk → Bool
are_some leads ss ms ks = leads && not (is_none ss) && not (is_none ms && is_none ks)

there_is : (leads : Bool) (ss ms ks : List Chunk) → are_there leads (found_of ss) (found_of ms) (found_of ks) ≡ are_some leads ss ms ks
there_is leads ss ms ks = rw (absent_is ss, absent_is ms, absent_is ks) refl

decided : (leads : Bool) (ss ms ks : List Chunk) → ((are_some leads ss ms ks ≡ false) × ((leads ≡ false) ⊎ ((ss ≡ []) ⊎ ((ms ≡ []) × (ks ≡ []))))) ⊎ ((are_some leads ss ms ks ≡ true) × (leads ≡ true) × ¬ (ss ≡ []) × ¬ ((ms ≡ []) × (ks ≡ [])))
decided false ss ms ks = inl (refl, inl refl)
decided true [] ms ks = inl (refl, inr (inl refl))
decided true (s ∷ ss) [] [] = inl (refl, inr (inr (refl, refl)))
decided true (s ∷ ss) (m ∷ ms) ks = inr (refl, refl, λ e. cc, λ e. let f = e.0 in cc)
decided true (s ∷ ss) [] (k ∷ ks) = inr (refl, refl, λ e. cc, λ e. let f = e.1 in cc)

missed : (first : Option ℕ) (h m k s : Found) → are_there (is_header first) s m k ≡ false → chosen first h m k s ≡ Err errors.ChunkMissing
unfolding chosen
missed first h m k s e = rw e refl

header_twice : (first : Option ℕ) (m k s : Found) → are_there (is_header first) s m k ≡ true → chosen first Often m k s ≡ Err errors.ChunkTwice
unfolding chosen
header_twice first m k s e = rw e refl

stacks_twice : (first : Option ℕ) (h : List ℕ) (m k : Found) → are_there (is_header first) Often m k ≡ true → chosen first (Once h) m k Often ≡ Err errors.ChunkTwice
unfolding chosen
stacks_twice first h m k e = rw e refl

memory_twice : (first : Option ℕ) (h s : List ℕ) (k : Found) → are_there (is_header first) (Once s) Often k ≡ true → chosen first (Once h) Often k (Once s) ≡ Err errors.ChunkTwice
unfolding chosen
memory_twice first h s k e = rw e refl

packed : (first : Option ℕ) (h s : List ℕ) (m k : Found) → are_there (is_header first) (Once s) m k ≡ true → is_often m ≡ false → is_absent k ≡ false → chosen first (Once h) m k (Once s) ≡ Err errors.Compressed
unfolding chosen
packed first h s m k e f g = rw (e, f, g) refl

split : (first : Option ℕ) (h m s : List ℕ) → are_there (is_header first) (Once s) (Once m) Absent ≡ true → chosen first (Once h) (Once m) Absent (Once s) ≡ Ok (record { header = h; memory = m; stacks = s })
unfolding chosen
split first h m s e = rw e refl

-- Q3 and Q4 of the chunks of each kind
abbrev pub Lacks : Type 0 → List Chunk → List Chunk → List Chunk → List Chunk → Type 0
Lacks late hs ss ms ks = (hs ≡ []) ⊎ ((ss ≡ []) ⊎ (((ms ≡ []) × (ks ≡ [])) ⊎ late))

abbrev pub Repeats : List Chunk → List Chunk → List Chunk → Type 0
Repeats hs ss ms = (1 < length hs) ⊎ ((1 < length ss) ⊎ (1 < length ms))

pub record IsMissed (late : Type 0) (hs ss ms ks : List Chunk) (r : Result Parts SaveError) : Type 0 where
  pub answer : r ≡ Err errors.ChunkMissing
  pub flaw : Lacks late hs ss ms ks

pub record IsDouble (late : Type 0) (hs ss ms ks : List Chunk) (r : Result Parts SaveError) : Type 0 where
  pub answer : r ≡ Err errors.ChunkTwice
  pub whole : ¬ Lacks late hs ss ms ks
  pub flaw : Repeats hs ss ms

pub record IsPacked (late : Type 0) (hs ss ms ks : List Chunk) (r : Result Parts SaveError) : Type 0 where
  pub answer : r ≡ Err errors.Compressed
  pub whole : ¬ Lacks late hs ss ms ks
  pub single : ¬ Repeats hs ss ms
  pub flaw : ¬ (ks ≡ [])

pub record IsSplit (late : Type 0) (hs ss ms ks : List Chunk) (r : Result Parts SaveError) : Type 0 where
  pub header : Chunk
  pub memory : Chunk
  pub stacks : Chunk
  pub answer : r ≡ Ok (record { header = header.contents; memory = memory.contents; stacks = stacks.contents })
  pub whole : ¬ Lacks late hs ss ms ks
  pub single : ¬ Repeats hs ss ms
  pub plain : ks ≡ []
  pub headers : hs ≡ header ∷ []
  pub memories : ms ≡ memory ∷ []
  pub all_stacks : ss ≡ stacks ∷ []

abbrev pub IsChosen : Type 0 → List Chunk → List Chunk → List Chunk → List Chunk → Result Parts SaveError → Type 0
IsChosen late hs ss ms ks r = IsMissed late hs ss ms ks r ⊎ (IsDouble late hs ss ms ks r ⊎ (IsPacked late hs ss ms ks r ⊎ IsSplit late hs ss ms ks r))

-- the chunks of a kind, of which there are not two
few : (hs ss ms : List Chunk) → length hs ≤ 1 → length ss ≤ 1 → length ms ≤ 1 → ¬ Repeats hs ss ms
few hs ss ms a b c (inl e) = omega (arith, a, e)
few hs ss ms a b c (inr (inl e)) = omega (arith, b, e)
few hs ss ms a b c (inr (inr e)) = omega (arith, c, e)

all_there : (late : Type 0) (first : Option ℕ) (hs ss ms ks : List Chunk) → are_there (is_header first) (found_of ss) (found_of ms) (found_of ks) ≡ true → ¬ Lacks late hs ss ms ks → IsChosen late hs ss ms ks (chosen first (found_of hs) (found_of ms) (found_of ks) (found_of ss))
all_there late first [] ss ms ks e w = absurd (w (inl refl))
all_there late first (h ∷ i ∷ hs) ss ms ks e w = inr (inl (record { answer = header_twice first (found_of ms) (found_of ks) (found_of ss) e; whole = w; flaw = inl (omega arith) }))
all_there late first (h ∷ []) [] ms ks e w = absurd (w (inr (inl refl)))
all_there late first (h ∷ []) (s ∷ t ∷ ss) ms ks e w = inr (inl (record { answer = stacks_twice first h.contents (found_of ms) (found_of ks) e; whole = w; flaw = inr (inl (omega arith)) }))
all_there late first (h ∷ []) (s ∷ []) (m ∷ n ∷ ms) ks e w = inr (inl (record { answer = memory_twice first h.contents s.contents (found_of ks) e; whole = w; flaw = inr (inr (omega arith)) }))
all_there late first (h ∷ []) (s ∷ []) [] [] e w = absurd (w (inr (inr (inl (refl, refl)))))
all_there late first (h ∷ []) (s ∷ []) [] (k ∷ ks) e w = inr (inr (inl (record { answer = packed first h.contents s.contents Absent (found_of (k ∷ ks)) e refl (absent_is (k ∷ ks)); whole = w; single = few (h ∷ []) (s ∷ []) [] (omega arith) (omega arith) (omega arith); flaw = λ f. cc })))
all_there late first (h ∷ []) (s ∷ []) (m ∷ []) (k ∷ ks) e w = inr (inr (inl (record { answer = packed first h.contents s.contents (Once m.contents) (found_of (k ∷ ks)) e refl (absent_is (k ∷ ks)); whole = w; single = few (h ∷ []) (s ∷ []) (m ∷ []) (omega arith) (omega arith) (omega arith); flaw = λ f. cc })))
all_there late first (h ∷ []) (s ∷ []) (m ∷ []) [] e w = inr (inr (inr (record { header = h; memory = m; stacks = s; answer = split first h.contents m.contents s.contents e; whole = w; single = few (h ∷ []) (s ∷ []) (m ∷ []) (omega arith) (omega arith) (omega arith); plain = refl; headers = refl; memories = refl; all_stacks = refl })))

lacking : (late : Type 0) (leads : Bool) (hs ss ms ks : List Chunk) → (leads ≡ false → (hs ≡ []) ⊎ late) → (leads ≡ false) ⊎ ((ss ≡ []) ⊎ ((ms ≡ []) × (ks ≡ []))) → Lacks late hs ss ms ks
lacking late leads hs ss ms ks g (inl e) = elim (g e) [
  | inl f ↦ inl f
  | inr f ↦ inr (inr (inr f))
]
lacking late leads hs ss ms ks g (inr (inl e)) = inr (inl e)
lacking late leads hs ss ms ks g (inr (inr e)) = inr (inr (inl e))

not_lacking : (late : Type 0) (hs ss ms ks : List Chunk) → ¬ (hs ≡ []) → ¬ late → ¬ (ss ≡ []) → ¬ ((ms ≡ []) × (ks ≡ [])) → ¬ Lacks late hs ss ms ks
not_lacking late hs ss ms ks a b c d (inl e) = a e
not_lacking late hs ss ms ks a b c d (inr (inl e)) = c e
not_lacking late hs ss ms ks a b c d (inr (inr (inl e))) = d e
not_lacking late hs ss ms ks a b c d (inr (inr (inr e))) = b e

choice : (late : Type 0) (first : Option ℕ) (hs ss ms ks : List Chunk) → (is_header first ≡ true → ¬ (hs ≡ []) × ¬ late) → (is_header first ≡ false → (hs ≡ []) ⊎ late) → IsChosen late hs ss ms ks (chosen first (found_of hs) (found_of ms) (found_of ks) (found_of ss))
choice late first hs ss ms ks f g =
    elim (decided (is_header first) ss ms ks) [
      | inl d ↦ inl (record { answer = missed first (found_of hs) (found_of ms) (found_of ks) (found_of ss) (there_is (is_header first) ss ms ks ∙ d.0); flaw = lacking late (is_header first) hs ss ms ks g d.1 })
      | inr d ↦ let leads = f d.1 in all_there late first hs ss ms ks (there_is (is_header first) ss ms ks ∙ d.0) (not_lacking late hs ss ms ks leads.0 leads.1 d.2 d.3)
    ]

abbrev pub ChosenOf : List Chunk → Result Parts SaveError → Type 0
ChosenOf cs r = IsChosen (IsLate cs) (of_kind IFHD cs) (of_kind STKS cs) (of_kind UMEM cs) (of_kind CMEM cs) r

pub parts_judged : (cs : List Chunk) → ChosenOf cs (parts_of cs)
parts_judged cs =
    rw (found_is IFHD cs, found_is UMEM cs, found_is CMEM cs, found_is STKS cs)
    (choice (IsLate cs) (first_known cs) (of_kind IFHD cs) (of_kind STKS cs) (of_kind UMEM cs) (of_kind CMEM cs) (leading cs) (behind cs))

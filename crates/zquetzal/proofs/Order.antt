-- Where the known chunks are, and how often.
use Rattle.std.proofs.Common.{◌≡◌, ◌⊎◌, inl, inr, ℕ, Bool, true, false, List, [], ◌∷◌, Option, Ok, eq-eqb, refl, sym, ap, subst, ◌∙◌}
use Rattle.std.specs.Prelude.{◌==◌, ◌&&◌, ◌||◌, not}
use Rattle.std.specs.List.{AllByRecursion}
use Rattle.std.proofs.lemmas.Bool.{cases_Bool, eqb-true}
use Rattle.zquetzal.proofs.Steps.{bind_ok, need_ok, ok_is}
use Rattle.zquetzal.specs.declared.limits.TheConstants.{IFHD, UMEM, CMEM, STKS}
use Rattle.zquetzal.specs.Grammar.{Chunk, is_known, known}
use Rattle.zquetzal.specs.Reading.{Found, Absent, Once, Often, found, found_in, found_then, first_known, is_absent, is_often, is_header, once, chosen, parts_of, Parts}

-- a chunk with other letters isn't one that is looked for
other_in : (id : ℕ) (c : Chunk) → (c.id == id) ≡ false → found_in id c ≡ Absent
other_in id c e = rw e refl

same_in : (id : ℕ) (c : Chunk) → c.id ≡ id → found_in id c ≡ Once c.contents
same_in id c e = rw (eq-eqb c.id id e) refl

unlike : (id : ℕ) (c : Chunk) → is_known id ≡ true → is_known c.id ≡ false → (c.id == id) ≡ false
unlike id c is none =
    elim (cases_Bool (c.id == id)) [
      | inl same ↦ absurd (let e : is_known c.id ≡ is_known id = ap is_known (eqb-true c.id id same) in let both = sym none ∙ e ∙ is in cc)
      | inr other ↦ other
    ]

-- chunks that are skipped change nothing
pub found_known : (id : ℕ) (cs : List Chunk) → is_known id ≡ true → found id cs ≡ found id (known cs)
found_known id [] is = refl
found_known id (c ∷ cs) is =
    let rest = found_known id cs is in
    elim (cases_Bool (is_known c.id)) [
      | inl is_so ↦ rw is_so (ap (found_then (found_in id c)) rest)
      | inr is_not ↦ rw (is_not, other_in id c (unlike id c is is_not)) rest
    ]

pub first_known_known : (cs : List Chunk) → first_known cs ≡ first_known (known cs)
first_known_known [] = refl
first_known_known (c ∷ cs) =
    elim (cases_Bool (is_known c.id)) [
      | inl is_so ↦ rw (is_so, is_so) refl
      | inr is_not ↦ rw is_not (first_known_known cs)
    ]

pub parts_known : (cs : List Chunk) → parts_of cs ≡ parts_of (known cs)
parts_known cs = rw (first_known_known cs, found_known IFHD cs refl, found_known UMEM cs refl, found_known CMEM cs refl, found_known STKS cs refl) refl

abbrev pub with_id : ℕ → List ℕ → Chunk
with_id id d = record { id = id; contents = d }

-- the three chunks that are read, `IFhd` in front of both others
abbrev pub AreInOrder : List Chunk → Parts → Type 0
AreInOrder cs p = (known cs ≡ with_id IFHD p.header ∷ with_id UMEM p.memory ∷ with_id STKS p.stacks ∷ []) ⊎ (known cs ≡ with_id IFHD p.header ∷ with_id STKS p.stacks ∷ with_id UMEM p.memory ∷ [])

memory_first : (p : Parts) → parts_of (with_id IFHD p.header ∷ with_id UMEM p.memory ∷ with_id STKS p.stacks ∷ []) ≡ Ok p
unfolding chosen
memory_first p = refl

stacks_first : (p : Parts) → parts_of (with_id IFHD p.header ∷ with_id STKS p.stacks ∷ with_id UMEM p.memory ∷ []) ≡ Ok p
unfolding chosen
stacks_first p = refl

pub parts_again : (cs : List Chunk) (p : Parts) → AreInOrder cs p → parts_of cs ≡ Ok p
parts_again cs p (inl e) = parts_known cs ∙ ap parts_of e ∙ memory_first p
parts_again cs p (inr e) = parts_known cs ∙ ap parts_of e ∙ stacks_first p

-- ---- and the other way round

pub record AreFound (cs : List Chunk) (h m c s : Found) : Type 0 where
  pub header : found IFHD cs ≡ h
  pub memory : found UMEM cs ≡ m
  pub compressed : found CMEM cs ≡ c
  pub stacks : found STKS cs ≡ s

absent_is : (f : Found) → is_absent f ≡ true → f ≡ Absent
absent_is Absent e = refl
absent_is (Once d) e = absurd cc
absent_is Often e = absurd cc

once_is : (f : Found) (d : List ℕ) → once f ≡ Ok d → f ≡ Once d
once_is Absent d e = absurd cc
once_is (Once c) d e = ap Once (ok_is c d e)
once_is Often d e = absurd cc

first_of_both : (a b c : Bool) → (a && b && c) ≡ true → a ≡ true
first_of_both true b c e = refl
first_of_both false true c e = absurd cc
first_of_both false false c e = absurd cc

pub record AreChosen (first : Option ℕ) (h m c s : Found) (p : Parts) : Type 0 where
  pub leads : is_header first ≡ true
  pub header : h ≡ Once p.header
  pub memory : m ≡ Once p.memory
  pub compressed : c ≡ Absent
  pub stacks : s ≡ Once p.stacks

chosen_are : (first : Option ℕ) (h m c s : Found) (p : Parts) → chosen first h m c s ≡ Ok p → AreChosen first h m c s p
unfolding chosen
chosen_are first h m c s p e =
    let n = need_ok (is_header first && not (is_absent s) && not (is_absent m && is_absent c)) _ _ _ e in
    let a = bind_ok (once h) _ _ n.1 in
    let b = bind_ok (once s) _ _ a.2 in
    let o = need_ok (not (is_often m)) _ _ _ b.2 in
    let q = need_ok (is_absent c) _ _ _ o.1 in
    let d = bind_ok (once m) _ _ q.1 in
    let made : Parts = record { header = a.0; memory = d.0; stacks = b.0 } in
    subst (λ (x : Parts). AreChosen first h m c s x) {x = made} (ok_is made p d.2) (record {
      leads = first_of_both _ _ _ n.0;
      header = once_is h a.0 a.1;
      memory = once_is m d.0 d.1;
      compressed = absent_is c q.0;
      stacks = once_is s b.0 b.1;
    })

-- which of the four a known chunk is
abbrev IsOneOf : ℕ → Type 0
IsOneOf id = ((id ≡ IFHD) ⊎ (id ≡ UMEM)) ⊎ ((id ≡ CMEM) ⊎ (id ≡ STKS))

either : (a b : Bool) → (a || b) ≡ true → (a ≡ true) ⊎ (b ≡ true)
either true b e = inl refl
either false b e = inr e

one_of : (id : ℕ) → is_known id ≡ true → IsOneOf id
one_of id e =
    elim (either _ _ e) [
      | inl f ↦ elim (either _ _ f) [
        | inl g ↦ elim (either _ _ g) [
          | inl h ↦ inl (inl (eqb-true id IFHD h))
          | inr h ↦ inl (inr (eqb-true id UMEM h))
        ]
        | inr g ↦ inr (inl (eqb-true id CMEM g))
      ]
      | inr f ↦ inr (inr (eqb-true id STKS f))
    ]

all_known : (cs : List Chunk) → AllByRecursion (λ c. is_known c.id ≡ true) (known cs)
all_known [] = tt
all_known (c ∷ cs) =
    elim (cases_Bool (is_known c.id)) [
      | inl is_so ↦ rw is_so (is_so, all_known cs)
      | inr is_not ↦ rw is_not (all_known cs)
    ]

chunk_is : (c : Chunk) (id : ℕ) (d : List ℕ) → c.id ≡ id → c.contents ≡ d → c ≡ with_id id d
chunk_is c id d e f = ap (λ (i : ℕ). with_id i c.contents) e ∙ ap (with_id id) f

skipped : (id other : ℕ) (c : Chunk) (cs : List Chunk) → c.id ≡ other → (other == id) ≡ false → found id (c ∷ cs) ≡ found id cs
skipped id other c cs e f = rw (e, f) refl

counted : (id : ℕ) (c : Chunk) (cs : List Chunk) → c.id ≡ id → found id (c ∷ cs) ≡ found_then (Once c.contents) (found id cs)
counted id c cs e = ap (λ (f : Found). found_then f (found id cs)) (same_in id c e)

once_more : (x d : List ℕ) (f : Found) → found_then (Once x) f ≡ Once d → (x ≡ d) × (f ≡ Absent)
once_more x d Absent e = (cc, refl)
once_more x d (Once y) e = absurd cc
once_more x d Often e = absurd cc

never : (x : List ℕ) (f : Found) → found_then (Once x) f ≡ Absent → ⊥
never x Absent e = cc
never x (Once y) e = cc
never x Often e = cc

-- what is found behind a chunk
behind_header : (c : Chunk) (cs : List Chunk) (h m k s : Found) → c.id ≡ IFHD → AreFound (c ∷ cs) h m k s → (found_then (Once c.contents) (found IFHD cs) ≡ h) × AreFound cs (found IFHD cs) m k s
behind_header c cs h m k s e are = (sym (counted IFHD c cs e) ∙ are.header, record { header = refl; memory = sym (skipped UMEM IFHD c cs e refl) ∙ are.memory; compressed = sym (skipped CMEM IFHD c cs e refl) ∙ are.compressed; stacks = sym (skipped STKS IFHD c cs e refl) ∙ are.stacks })

behind_memory : (c : Chunk) (cs : List Chunk) (h m k s : Found) → c.id ≡ UMEM → AreFound (c ∷ cs) h m k s → (found_then (Once c.contents) (found UMEM cs) ≡ m) × AreFound cs h (found UMEM cs) k s
behind_memory c cs h m k s e are = (sym (counted UMEM c cs e) ∙ are.memory, record { header = sym (skipped IFHD UMEM c cs e refl) ∙ are.header; memory = refl; compressed = sym (skipped CMEM UMEM c cs e refl) ∙ are.compressed; stacks = sym (skipped STKS UMEM c cs e refl) ∙ are.stacks })

behind_stacks : (c : Chunk) (cs : List Chunk) (h m k s : Found) → c.id ≡ STKS → AreFound (c ∷ cs) h m k s → (found_then (Once c.contents) (found STKS cs) ≡ s) × AreFound cs h m k (found STKS cs)
behind_stacks c cs h m k s e are = (sym (counted STKS c cs e) ∙ are.stacks, record { header = sym (skipped IFHD STKS c cs e refl) ∙ are.header; memory = sym (skipped UMEM STKS c cs e refl) ∙ are.memory; compressed = sym (skipped CMEM STKS c cs e refl) ∙ are.compressed; stacks = refl })

no_header : (c : Chunk) (cs : List Chunk) (m k s : Found) → c.id ≡ IFHD → AreFound (c ∷ cs) Absent m k s → ⊥
no_header c cs m k s e are = never c.contents (found IFHD cs) (sym (counted IFHD c cs e) ∙ are.header)

no_memory : (c : Chunk) (cs : List Chunk) (h k s : Found) → c.id ≡ UMEM → AreFound (c ∷ cs) h Absent k s → ⊥
no_memory c cs h k s e are = never c.contents (found UMEM cs) (sym (counted UMEM c cs e) ∙ are.memory)

no_compressed : (c : Chunk) (cs : List Chunk) (h m s : Found) → c.id ≡ CMEM → AreFound (c ∷ cs) h m Absent s → ⊥
no_compressed c cs h m s e are = never c.contents (found CMEM cs) (sym (counted CMEM c cs e) ∙ are.compressed)

no_stacks : (c : Chunk) (cs : List Chunk) (h m k : Found) → c.id ≡ STKS → AreFound (c ∷ cs) h m k Absent → ⊥
no_stacks c cs h m k e are = never c.contents (found STKS cs) (sym (counted STKS c cs e) ∙ are.stacks)

abbrev pair : Chunk → List Chunk → List Chunk
pair c cs = c ∷ cs

none_left : (cs : List Chunk) → AllByRecursion (λ (c : Chunk). is_known c.id ≡ true) cs → AreFound cs Absent Absent Absent Absent → cs ≡ []
none_left [] each are = refl
none_left (c ∷ cs) each are =
    elim (one_of c.id each.0) [
      | inl (inl e) ↦ absurd (no_header c cs Absent Absent Absent e are)
      | inl (inr e) ↦ absurd (no_memory c cs Absent Absent Absent e are)
      | inr (inl e) ↦ absurd (no_compressed c cs Absent Absent Absent e are)
      | inr (inr e) ↦ absurd (no_stacks c cs Absent Absent Absent e are)
    ]

memory_left : (cs : List Chunk) (d : List ℕ) → AllByRecursion (λ (c : Chunk). is_known c.id ≡ true) cs → AreFound cs Absent (Once d) Absent Absent → cs ≡ with_id UMEM d ∷ []
memory_left [] d each are = absurd (let e = are.memory in cc)
memory_left (c ∷ cs) d each are =
    elim (one_of c.id each.0) [
      | inl (inl e) ↦ absurd (no_header c cs (Once d) Absent Absent e are)
      | inl (inr e) ↦
          let b = behind_memory c cs Absent (Once d) Absent Absent e are in
          let o = once_more c.contents d (found UMEM cs) b.0 in
          let rest = none_left cs each.1 (subst (λ (f : Found). AreFound cs Absent f Absent Absent) o.1 b.1) in
          ap (λ (x : Chunk). x ∷ cs) (chunk_is c UMEM d e o.0) ∙ ap (pair (with_id UMEM d)) rest
      | inr (inl e) ↦ absurd (no_compressed c cs Absent (Once d) Absent e are)
      | inr (inr e) ↦ absurd (no_stacks c cs Absent (Once d) Absent e are)
    ]

stacks_left : (cs : List Chunk) (d : List ℕ) → AllByRecursion (λ (c : Chunk). is_known c.id ≡ true) cs → AreFound cs Absent Absent Absent (Once d) → cs ≡ with_id STKS d ∷ []
stacks_left [] d each are = absurd (let e = are.stacks in cc)
stacks_left (c ∷ cs) d each are =
    elim (one_of c.id each.0) [
      | inl (inl e) ↦ absurd (no_header c cs Absent Absent (Once d) e are)
      | inl (inr e) ↦ absurd (no_memory c cs Absent Absent (Once d) e are)
      | inr (inl e) ↦ absurd (no_compressed c cs Absent Absent (Once d) e are)
      | inr (inr e) ↦
          let b = behind_stacks c cs Absent Absent Absent (Once d) e are in
          let o = once_more c.contents d (found STKS cs) b.0 in
          let rest = none_left cs each.1 (subst (λ (f : Found). AreFound cs Absent Absent Absent f) o.1 b.1) in
          ap (λ (x : Chunk). x ∷ cs) (chunk_is c STKS d e o.0) ∙ ap (pair (with_id STKS d)) rest
    ]

both_left : (cs : List Chunk) (m s : List ℕ) → AllByRecursion (λ (c : Chunk). is_known c.id ≡ true) cs → AreFound cs Absent (Once m) Absent (Once s) → (cs ≡ with_id UMEM m ∷ with_id STKS s ∷ []) ⊎ (cs ≡ with_id STKS s ∷ with_id UMEM m ∷ [])
both_left [] m s each are = absurd (let e = are.stacks in cc)
both_left (c ∷ cs) m s each are =
    elim (one_of c.id each.0) [
      | inl (inl e) ↦ absurd (no_header c cs (Once m) Absent (Once s) e are)
      | inl (inr e) ↦
          let b = behind_memory c cs Absent (Once m) Absent (Once s) e are in
          let o = once_more c.contents m (found UMEM cs) b.0 in
          let rest = stacks_left cs s each.1 (subst (λ (f : Found). AreFound cs Absent f Absent (Once s)) o.1 b.1) in
          inl (ap (λ (x : Chunk). x ∷ cs) (chunk_is c UMEM m e o.0) ∙ ap (pair (with_id UMEM m)) rest)
      | inr (inl e) ↦ absurd (no_compressed c cs Absent (Once m) (Once s) e are)
      | inr (inr e) ↦
          let b = behind_stacks c cs Absent (Once m) Absent (Once s) e are in
          let o = once_more c.contents s (found STKS cs) b.0 in
          let rest = memory_left cs m each.1 (subst (λ (f : Found). AreFound cs Absent (Once m) Absent f) o.1 b.1) in
          inr (ap (λ (x : Chunk). x ∷ cs) (chunk_is c STKS s e o.0) ∙ ap (pair (with_id STKS s)) rest)
    ]

with_front : (c : Chunk) (cs a b : List Chunk) → (cs ≡ a) ⊎ (cs ≡ b) → (c ∷ cs ≡ c ∷ a) ⊎ (c ∷ cs ≡ c ∷ b)
with_front c cs a b (inl e) = inl (ap (pair c) e)
with_front c cs a b (inr e) = inr (ap (pair c) e)

first_is : (c : Chunk) (cs : List Chunk) → is_known c.id ≡ true → is_header (first_known (c ∷ cs)) ≡ true → c.id ≡ IFHD
first_is c cs is e = eqb-true c.id IFHD (rw is at e)

in_order : (cs : List Chunk) (p : Parts) → AllByRecursion (λ (c : Chunk). is_known c.id ≡ true) cs → is_header (first_known cs) ≡ true → AreFound cs (Once p.header) (Once p.memory) Absent (Once p.stacks) → (cs ≡ with_id IFHD p.header ∷ with_id UMEM p.memory ∷ with_id STKS p.stacks ∷ []) ⊎ (cs ≡ with_id IFHD p.header ∷ with_id STKS p.stacks ∷ with_id UMEM p.memory ∷ [])
in_order [] p each first are = absurd cc
in_order (c ∷ cs) p each first are =
    let e = first_is c cs each.0 first in
    let b = behind_header c cs (Once p.header) (Once p.memory) Absent (Once p.stacks) e are in
    let o = once_more c.contents p.header (found IFHD cs) b.0 in
    let rest = both_left cs p.memory p.stacks each.1 (subst (λ (f : Found). AreFound cs f (Once p.memory) Absent (Once p.stacks)) o.1 b.1) in
    rw (chunk_is c IFHD p.header e o.0) (with_front (with_id IFHD p.header) cs _ _ rest)

-- chunks that are read stand in order
pub parts_take : (cs : List Chunk) (p : Parts) → parts_of cs ≡ Ok p → AreInOrder cs p
parts_take cs p e =
    let ks = known cs in
    let are = chosen_are (first_known ks) (found IFHD ks) (found UMEM ks) (found CMEM ks) (found STKS ks) p (sym (parts_known cs) ∙ e) in
    in_order ks p (all_known cs) are.leads (record { header = are.header; memory = are.memory; compressed = are.compressed; stacks = are.stacks })

-- what is read of each kind
pub parts_found : (cs : List Chunk) (p : Parts) → parts_of cs ≡ Ok p → AreFound cs (Once p.header) (Once p.memory) Absent (Once p.stacks)
parts_found cs p e =
    let are = chosen_are (first_known cs) (found IFHD cs) (found UMEM cs) (found CMEM cs) (found STKS cs) p e in
    record { header = are.header; memory = are.memory; compressed = are.compressed; stacks = are.stacks }

-- data that are found stand in a chunk
pub data_found : (id : ℕ) (P : Chunk → Type 0) (cs : List Chunk) (d : List ℕ) → AllByRecursion P cs → found id cs ≡ Once d → P (with_id id d)
data_found id P [] d each e = absurd cc
data_found id P (c ∷ cs) d each e =
    elim (cases_Bool (c.id == id)) [
      | inl is_so ↦
          let same = eqb-true c.id id is_so in
          let o = once_more c.contents d (found id cs) (sym (counted id c cs same) ∙ e) in
          subst P (chunk_is c id d same o.0) each.0
      | inr is_not ↦ data_found id P cs d each.1 (let f : found id (c ∷ cs) ≡ found id cs = rw is_not refl in sym f ∙ e)
    ]

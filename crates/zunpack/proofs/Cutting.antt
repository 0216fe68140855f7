-- Bytes are chunks in one way alone, and how often one of them has given letters.
use Rattle.std.proofs.Common.{◌≡◌, ◌⊎◌, inl, inr, ℕ, ◌+◌, ◌%◌, ◌<◌, List, [], ◌∷◌, ◌++◌, length, take, drop, Option, Some, None, refl, sym, ap, subst, ◌∙◌, append_assoc, arith, length-append}
use Rattle.std.specs.Prelude.{◌==◌, replicate}
use Rattle.std.specs.List.{flat_map, AllByRecursion}
use Rattle.std.proofs.lemmas.Bool.{cases_Bool, eqb-true}
use Rattle.std.proofs.lemmas.List.{take_at, drop_at, length-replicate}
use Rattle.byteorder.specs.Endian.{big_bytes, big_number}
use Rattle.zquetzal.specs.Grammar.{Chunk, IsChunk, chunk_bytes}
use Rattle.zquetzal.specs.Causes.{AreChunksOf, of_kind}
use Rattle.zquetzal.specs.Reading.{Found, Absent, Once, Often, found, found_then, found_in}
use Rattle.zquetzal.proofs.Numbers.{IsBytes, IsBytes-drop, IsBytes-take, number_again}
use Rattle.zunpack.specs.View.{BeginsWith, IsCut, HasChunk, HasChunks, the_only}

abbrev pads : Chunk → List ℕ
pads c = replicate (length c.contents % 2) 0

-- a chunk and what follows it, part by part
abbrev parted : Chunk → List ℕ → List ℕ
parted c rest = big_bytes 4 c.id ++ (big_bytes 4 (length c.contents) ++ (c.contents ++ (pads c ++ rest)))

four : (a b c d rest : List ℕ) → (a ++ b ++ c ++ d) ++ rest ≡ a ++ (b ++ (c ++ (d ++ rest)))
four a b c d rest = simp append_assoc

pub record Reads (bytes : List ℕ) (c : Chunk) (rest : List ℕ) : Type 0 where
  pub long : 8 + length c.contents + length c.contents % 2 + length rest ≡ length bytes
  pub id : big_number 4 bytes ≡ c.id
  pub size : big_number 4 (drop 4 bytes) ≡ length c.contents
  pub contents : take (length c.contents) (drop 8 bytes) ≡ c.contents
  pub behind : drop (length c.contents + length c.contents % 2) (drop 8 bytes) ≡ rest

length_parted : (c : Chunk) (rest : List ℕ) → 8 + length c.contents + length c.contents % 2 + length rest ≡ length (parted c rest)
length_parted c rest =
    let m = length c.contents % 2 in
    omega (arith, length-append c.contents (pads c ++ rest), length-append (pads c) rest, length-replicate {A = ℕ} m 0)

behind_pad : (c : Chunk) (rest : List ℕ) → drop (length c.contents + length c.contents % 2) (c.contents ++ (pads c ++ rest)) ≡ rest
behind_pad c rest =
    let d = c.contents in
    let m = length d % 2 in
    let long : length (d ++ pads c) ≡ length d + m = omega (arith, length-append d (pads c), length-replicate {A = ℕ} m 0) in
    ap (drop (length d + m)) (sym (append_assoc d (pads c) rest)) ∙ drop_at (d ++ pads c) rest (length d + m) long

reads_parted : (c : Chunk) (rest : List ℕ) → IsChunk c → Reads (parted c rest) c rest
reads_parted c rest is =
    let body = c.contents ++ (pads c ++ rest) in
    record {
      long = length_parted c rest;
      id = number_again 4 c.id (big_bytes 4 (length c.contents) ++ body) is.id;
      size = number_again 4 (length c.contents) body is.size;
      contents = take_at c.contents (pads c ++ rest) (length c.contents) refl;
      behind = behind_pad c rest;
    }

pub reads : (bytes : List ℕ) (c : Chunk) (rest : List ℕ) → BeginsWith bytes c rest → Reads bytes c rest
reads bytes c rest begins =
    let same : bytes ≡ parted c rest = begins.spelled ∙ four (big_bytes 4 c.id) (big_bytes 4 (length c.contents)) c.contents (pads c) rest in
    subst (λ (b : List ℕ). Reads b c rest) (sym same) (reads_parted c rest begins.is)

chunk_made : (i : ℕ) (d : List ℕ) (c : Chunk) → i ≡ c.id → d ≡ c.contents → record { id = i; contents = d } ≡ c
chunk_made i d c e f = rw (e, f) refl

pub same_chunk : (c d : Chunk) → c.id ≡ d.id → c.contents ≡ d.contents → c ≡ d
same_chunk c d e f = chunk_made c.id c.contents d e f

-- what bytes begin with
pub begins_so : (bytes : List ℕ) (c d : Chunk) (rest left : List ℕ) → BeginsWith bytes c rest → BeginsWith bytes d left → (c ≡ d) × (rest ≡ left)
begins_so bytes c d rest left a b =
    let r = reads bytes c rest a in
    let q = reads bytes d left b in
    let sizes : length c.contents ≡ length d.contents = sym r.size ∙ q.size in
    let contents : c.contents ≡ d.contents = sym r.contents ∙ ap (λ (n : ℕ). take n (drop 8 bytes)) sizes ∙ q.contents in
    let rests : rest ≡ left = sym r.behind ∙ ap (λ (n : ℕ). drop (n + n % 2) (drop 8 bytes)) sizes ∙ q.behind in
    (same_chunk c d (sym r.id ∙ q.id) contents, rests)

pub first_of : (bytes : List ℕ) (c : Chunk) (cs : List Chunk) → IsCut bytes (c ∷ cs) → BeginsWith bytes c (flat_map chunk_bytes cs)
first_of bytes c cs cut = record { spelled = cut.spelled; is = cut.each.0 }

pub others_of : (bytes : List ℕ) (c : Chunk) (cs : List Chunk) → IsCut bytes (c ∷ cs) → IsCut (flat_map chunk_bytes cs) cs
others_of bytes c cs cut = record { spelled = refl; each = cut.each.1 }

-- no chunk is empty
pub not_empty : (bytes : List ℕ) (c : Chunk) (rest : List ℕ) → BeginsWith bytes c rest → bytes ≡ [] → ⊥
not_empty bytes c rest begins none = let r = reads bytes c rest begins in omega (arith, r.long, ap (λ (x : List ℕ). length x) none)

pub none_cut : (bytes : List ℕ) (cs : List Chunk) → IsCut bytes cs → bytes ≡ [] → cs ≡ []
none_cut bytes [] cut none = refl
none_cut bytes (c ∷ cs) cut none = absurd (not_empty bytes c (flat_map chunk_bytes cs) (first_of bytes c cs cut) none)

pub some_cut : (bytes : List ℕ) (cs : List Chunk) → IsCut bytes cs → (bytes ≡ [] → ⊥) → (c : Chunk) × (left : List Chunk) × (cs ≡ c ∷ left)
some_cut bytes [] cut some = absurd (some cut.spelled)
some_cut bytes (c ∷ cs) cut some = (c, cs, refl)

pub one_cut : (bytes : List ℕ) (cs ds : List Chunk) → IsCut bytes cs → IsCut bytes ds → cs ≡ ds
one_cut bytes [] ds a b = sym (none_cut bytes ds b a.spelled)
one_cut bytes (c ∷ cs) [] a b = absurd (not_empty bytes c (flat_map chunk_bytes cs) (first_of bytes c cs a) b.spelled)
one_cut bytes (c ∷ cs) (d ∷ ds) a b =
    let same = begins_so bytes c d (flat_map chunk_bytes cs) (flat_map chunk_bytes ds) (first_of bytes c cs a) (first_of bytes d ds b) in
    let cut : IsCut (flat_map chunk_bytes cs) ds = record { spelled = same.1; each = b.each.1 } in
    rw (same.0, one_cut (flat_map chunk_bytes cs) cs ds (others_of bytes c cs a) cut) refl

-- ---- of a file

pub cut_behind : (bytes : List ℕ) (cs : List Chunk) → AreChunksOf bytes cs → IsCut (drop 12 bytes) cs
cut_behind bytes cs are = record { spelled = are.spelled; each = are.each }

pub one_way : (bytes : List ℕ) (cs ds : List Chunk) → AreChunksOf bytes cs → AreChunksOf bytes ds → cs ≡ ds
one_way bytes cs ds a b = one_cut (drop 12 bytes) cs ds (cut_behind bytes cs a) (cut_behind bytes ds b)

-- ---- bytes

fits_begun : (bytes : List ℕ) (c : Chunk) (rest : List ℕ) → IsBytes bytes → BeginsWith bytes c rest → IsBytes c.contents × IsBytes rest
fits_begun bytes c rest fits begins =
    let r = reads bytes c rest begins in
    let n = length c.contents in
    let body = IsBytes-drop 8 bytes fits in
    (subst (λ (x : List ℕ). IsBytes x) r.contents (IsBytes-take n (drop 8 bytes) body), subst (λ (x : List ℕ). IsBytes x) r.behind (IsBytes-drop (n + n % 2) (drop 8 bytes) body))

pub fits_cut : (bytes : List ℕ) (cs : List Chunk) → IsBytes bytes → IsCut bytes cs → AllByRecursion (λ (c : Chunk). IsBytes c.contents) cs
fits_cut bytes [] fits cut = tt
fits_cut bytes (c ∷ cs) fits cut =
    let f = fits_begun bytes c (flat_map chunk_bytes cs) fits (first_of bytes c cs cut) in
    (f.0, fits_cut (flat_map chunk_bytes cs) cs f.1 (others_of bytes c cs cut))

-- ---- kinds

abbrev counted : List Chunk → Found
counted [] = Absent
counted (c ∷ []) = Once c.contents
counted (c ∷ d ∷ cs) = Often

counted_then : (c : Chunk) (cs : List Chunk) → found_then (Once c.contents) (counted cs) ≡ counted (c ∷ cs)
counted_then c [] = refl
counted_then c (d ∷ []) = refl
counted_then c (d ∷ e ∷ cs) = refl

-- what is found of a kind is how many chunks of it there are
pub found_is : (id : ℕ) (cs : List Chunk) → found id cs ≡ counted (of_kind id cs)
found_is id [] = refl
found_is id (c ∷ cs) =
    elim (cases_Bool (c.id == id)) [
      | inl is_so ↦ rw (is_so, found_is id cs) (counted_then c (of_kind id cs))
      | inr is_not ↦ rw (is_not, found_is id cs) refl
    ]

pub found_end : (f : Found) → found_then f Absent ≡ f
found_end Absent = refl
found_end (Once d) = refl
found_end Often = refl

pub found_join : (a b c : Found) → found_then (found_then a b) c ≡ found_then a (found_then b c)
found_join Absent b c = refl
found_join (Once d) Absent c = refl
found_join (Once d) (Once e) Absent = refl
found_join (Once d) (Once e) (Once f) = refl
found_join (Once d) (Once e) Often = refl
found_join (Once d) Often Absent = refl
found_join (Once d) Often (Once f) = refl
found_join (Once d) Often Often = refl
found_join Often b c = refl

abbrev pub data_of : Found → Option (List ℕ)
data_of Absent = None
data_of (Once d) = Some d
data_of Often = None

only_counted : (cs : List Chunk) → data_of (counted cs) ≡ the_only cs
only_counted [] = refl
only_counted (c ∷ []) = refl
only_counted (c ∷ d ∷ cs) = refl

pub only_found : (id : ℕ) (cs : List Chunk) → data_of (found id cs) ≡ the_only (of_kind id cs)
only_found id cs = ap data_of (found_is id cs) ∙ only_counted (of_kind id cs)

-- all of a kind have its letters
pub of_its_kind : (id : ℕ) (cs : List Chunk) → AllByRecursion (λ (c : Chunk). c.id ≡ id) (of_kind id cs)
of_its_kind id [] = tt
of_its_kind id (c ∷ cs) =
    elim (cases_Bool (c.id == id)) [
      | inl is_so ↦ rw is_so (eqb-true c.id id is_so, of_its_kind id cs)
      | inr is_not ↦ rw is_not (of_its_kind id cs)
    ]

pub all_of_kind : (P : Chunk → Type 0) (id : ℕ) (cs : List Chunk) → AllByRecursion P cs → AllByRecursion P (of_kind id cs)
all_of_kind P id [] each = tt
all_of_kind P id (c ∷ cs) each =
    elim (cases_Bool (c.id == id)) [
      | inl is_so ↦ rw is_so (each.0, all_of_kind P id cs each.1)
      | inr is_not ↦ rw is_not (all_of_kind P id cs each.1)
    ]

abbrev with_id : ℕ → List ℕ → Chunk
with_id id d = record { id = id; contents = d }

-- the one chunk of a kind
single : (id : ℕ) (d : List ℕ) (cs : List Chunk) → AllByRecursion (λ (c : Chunk). c.id ≡ id) cs → the_only cs ≡ Some d → cs ≡ with_id id d ∷ []
single id d [] named e = absurd cc
single id d (c ∷ []) named e = ap (λ (x : Chunk). x ∷ []) (same_chunk c (with_id id d) named.0 cc)
single id d (c ∷ b ∷ cs) named e = absurd cc

pub single_is : (id : ℕ) (d : List ℕ) (cs : List Chunk) → the_only (of_kind id cs) ≡ Some d → of_kind id cs ≡ with_id id d ∷ []
single_is id d cs e = single id d (of_kind id cs) (of_its_kind id cs) e

-- of the one chunk of a kind what holds of all
pub of_the_one : (P : Chunk → Type 0) (id : ℕ) (cs : List Chunk) (c : Chunk) → AllByRecursion P cs → of_kind id cs ≡ c ∷ [] → P c
of_the_one P id cs c each e = (subst (λ (x : List Chunk). AllByRecursion P x) e (all_of_kind P id cs each)).0

-- neither none nor several
pub one_or : (cs : List Chunk) → the_only cs ≡ None → (cs ≡ []) ⊎ (1 < length cs)
one_or [] e = inl refl
one_or (c ∷ []) e = absurd cc
one_or (c ∷ d ∷ cs) e = inr (omega arith)

-- all of one, and of one that lacks it not all
pub one_has : (P : List ℕ → Type 0) (cs : List Chunk) (c : Chunk) → cs ≡ c ∷ [] → P c.contents → AllByRecursion (λ (x : Chunk). P x.contents) cs
one_has P cs c e holds = subst (λ (x : List Chunk). AllByRecursion (λ (y : Chunk). P y.contents) x) (sym e) (holds, tt)

pub one_lacks : (P : List ℕ → Type 0) (cs : List Chunk) (c : Chunk) → cs ≡ c ∷ [] → ¬ P c.contents → ¬ AllByRecursion (λ (x : Chunk). P x.contents) cs
one_lacks P cs c e fails all = let one = subst (λ (x : List Chunk). AllByRecursion (λ (y : Chunk). P y.contents) x) e all in fails one.0

-- ---- going over chunks

-- what was found so far, with what stands in what is left, is all
abbrev pub SoFar : List ℕ → List ℕ → ℕ → Found → Type 0
SoFar body rest id f = (chunks left : List Chunk) → IsCut body chunks → IsCut rest left → found_then f (found id left) ≡ found id chunks

-- of a chunk that was taken off the front
abbrev pub TakenOff : List ℕ → Chunk → List ℕ → Type 0
TakenOff bytes seen after = (c : Chunk) (rest : List ℕ) → BeginsWith bytes c rest → (seen ≡ c) × (after ≡ rest)

pub in_front : (rest : List ℕ) → HasChunks rest → (rest ≡ [] → ⊥) → HasChunk rest
in_front rest has some =
    let s = some_cut rest has.0 has.1 some in
    let cut : IsCut rest (s.0 ∷ s.1) = subst (λ (x : List Chunk). IsCut rest x) s.2 has.1 in
    (s.0, flat_map chunk_bytes s.1, first_of rest s.0 s.1 cut)

pub nothing_yet : (body : List ℕ) (id : ℕ) → SoFar body body id Absent
nothing_yet body id = λ chunks left a b. ap (found id) (one_cut body left chunks b a)

pub still_chunks : (rest after : List ℕ) (seen : Chunk) → HasChunks rest → (rest ≡ [] → ⊥) → TakenOff rest seen after → HasChunks after
still_chunks rest after seen has some off =
    let s = some_cut rest has.0 has.1 some in
    let cut : IsCut rest (s.0 ∷ s.1) = subst (λ (x : List Chunk). IsCut rest x) s.2 has.1 in
    let t = off s.0 (flat_map chunk_bytes s.1) (first_of rest s.0 s.1 cut) in
    (s.1, subst (λ (x : List ℕ). IsCut x s.1) (sym t.1) (others_of rest s.0 s.1 cut))

pub one_more : (body rest after : List ℕ) (seen : Chunk) (id : ℕ) (old new : Found) → HasChunk rest → TakenOff rest seen after → new ≡ found_then old (found_in id seen) → SoFar body rest id old → SoFar body after id new
one_more body rest after seen id old new has off e so_far = λ chunks left a b.
    let c = has.0 in
    let begins = has.2 in
    let t = off c has.1 begins in
    let spelled : rest ≡ chunk_bytes c ++ flat_map chunk_bytes left = begins.spelled ∙ ap (λ (x : List ℕ). chunk_bytes c ++ x) (sym t.1 ∙ b.spelled) in
    let cut : IsCut rest (c ∷ left) = record { spelled = spelled; each = (begins.is, b.each) } in
    ap (λ (f : Found). found_then f (found id left)) (e ∙ ap (λ (x : Chunk). found_then old (found_in id x)) t.0)
    ∙ found_join old (found_in id c) (found id left)
    ∙ so_far chunks (c ∷ left) a cut

pub all_found : (body rest : List ℕ) (id : ℕ) (f : Found) (chunks : List Chunk) → rest ≡ [] → SoFar body rest id f → IsCut body chunks → f ≡ found id chunks
all_found body rest id f chunks none so_far cut = sym (found_end f) ∙ so_far chunks [] cut (record { spelled = none; each = tt })

-- ---- what is lent of it

pub only_data : (id : ℕ) (chunks : List Chunk) (f : Found) → f ≡ found id chunks → the_only (of_kind id chunks) ≡ data_of f
only_data id chunks f e = sym (only_found id chunks) ∙ ap data_of (sym e)

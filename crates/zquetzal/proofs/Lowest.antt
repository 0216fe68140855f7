-- A save that is refused is refused for the lowest cause that holds, and one that is read has none.
use Rattle.std.proofs.Common.{◌≡◌, ◌⊎◌, inl, inr, ℕ, zero, suc, ◌+◌, ◌*◌, ◌%◌, ◌<◌, ◌≤◌, Bool, true, false, List, [], ◌∷◌, length, drop, Result, Ok, Err, refl, sym, ap, subst, ◌∙◌, arith}
use Rattle.std.specs.Prelude.{◌≢◌, ◌==◌, ◌&&◌, ◌||◌, not, nat_le, slice_range, slice_index, IfErr, OnOk}
use Rattle.std.specs.List.{flat_map, AllByRecursion}
use Rattle.std.proofs.lemmas.Bool.{eqb-true, cases_Bool, cases_lt, leb-true, leb-false, eqb-false}
use Rattle.byteorder.specs.Endian.{big_number}
use Rattle.zstory.specs.LoadedStory.{LoadedStory, static_base}
use Rattle.zquetzal.specs.declared.error.SaveError.{SaveError}
use Rattle.zquetzal.specs.declared.error.SaveError.TheVariants as errors
use Rattle.zquetzal.specs.declared.limits.TheConstants.{FORM, IFZS, IFHD, UMEM, STKS, HEADER_LENGTH, MOST_FRAMES}
use Rattle.zquetzal.specs.Saved.{Frame, Saved}
use Rattle.zquetzal.specs.Steps.{◌>>=◌, need}
use Rattle.zquetzal.specs.Grammar.{Chunk, IsChunk, chunk_bytes}
use Rattle.zquetzal.specs.Reading.{Parts, body_of, sized_chunk, chunk_at, chunks_within, chunks_of, parts_of, parts_at, is_of, are_frames, supplied_by, framed, frame_at, frames_within, frames_of, reading}
use Rattle.zquetzal.specs.Refusal.{number_of}
use Rattle.zquetzal.specs.Causes.{IsNoForm, AreChunksOf, HasWrongLength, of_kind, NamesStory, TellsFrames, HasWrongFrames, IsFlaw, HasFlaw, IsCause, IsLowest, HasNone}
use Rattle.zquetzal.proofs.Steps.{need_ok, ok_is}
use Rattle.zquetzal.proofs.Numbers.{IsBytes, IsBytes-drop, number_fits}
use Rattle.zquetzal.proofs.Again.{chunks_again, few_chunks}
use Rattle.zquetzal.proofs.Takes.{both_true, chunks_take}
use Rattle.zquetzal.proofs.Saves.{HasHeader, header_again, header_takes, six_long, of_story, named, frames_of_again, frames_of_takes}
use Rattle.zquetzal.proofs.Causes.{parts_judged}

-- ---- numbers

-- what a number says of an error
error_at : ℕ → SaveError
error_at (suc zero) = errors.NotForm
error_at (suc (suc zero)) = errors.Length
error_at (suc (suc (suc zero))) = errors.ChunkMissing
error_at (suc (suc (suc (suc zero)))) = errors.ChunkTwice
error_at (suc (suc (suc (suc (suc zero))))) = errors.Compressed
error_at (suc (suc (suc (suc (suc (suc zero)))))) = errors.OtherStory
error_at (suc (suc (suc (suc (suc (suc (suc zero))))))) = errors.MemoryLength
error_at (suc (suc (suc (suc (suc (suc (suc (suc zero)))))))) = errors.Frames
error_at (suc (suc (suc (suc (suc (suc (suc (suc (suc zero))))))))) = errors.Place
error_at (suc (suc (suc (suc (suc (suc (suc (suc (suc (suc zero)))))))))) = errors.NotDescribed
error_at n = errors.OutOfMemory

at_its_number : (e : SaveError) → error_at (number_of e) ≡ e
unfolding error_at
at_its_number errors.NotForm = refl
at_its_number errors.Length = refl
at_its_number errors.ChunkMissing = refl
at_its_number errors.ChunkTwice = refl
at_its_number errors.Compressed = refl
at_its_number errors.OtherStory = refl
at_its_number errors.MemoryLength = refl
at_its_number errors.Frames = refl
at_its_number errors.Place = refl
at_its_number errors.NotDescribed = refl
at_its_number errors.OutOfMemory = refl

same_number : (e d : SaveError) → number_of e ≡ number_of d → e ≡ d
same_number e d same = sym (at_its_number e) ∙ ap error_at same ∙ at_its_number d

from_one : (e : SaveError) → 1 ≤ number_of e
from_one errors.NotForm = omega arith
from_one errors.Length = omega arith
from_one errors.ChunkMissing = omega arith
from_one errors.ChunkTwice = omega arith
from_one errors.Compressed = omega arith
from_one errors.OtherStory = omega arith
from_one errors.MemoryLength = omega arith
from_one errors.Frames = omega arith
from_one errors.Place = omega arith
from_one errors.NotDescribed = omega arith
from_one errors.OutOfMemory = omega arith

-- no cause with a number below this one holds
abbrev pub NoneUnder : (SaveError → Type 0) → ℕ → Type 0
NoneUnder causes n = (lower : SaveError) → number_of lower < n → ¬ causes lower

none_first : (causes : SaveError → Type 0) → NoneUnder causes 1
none_first causes lower low = absurd (let from = from_one lower in omega (arith, from, low))

one_further : (causes : SaveError → Type 0) (e : SaveError) → NoneUnder causes (number_of e) → ¬ causes e → NoneUnder causes (suc (number_of e))
one_further causes e under none lower low =
    elim (cases_lt (number_of lower) (number_of e)) [
      | inl below ↦ under lower below
      | inr above ↦ subst (λ (x : SaveError). ¬ causes x) (sym (same_number lower e (omega (arith, above, low)))) none
    ]

-- ---- the form

form_tested : (bytes : List ℕ) → (nat_le 12 (length bytes) && (big_number 4 bytes == FORM) && (big_number 4 (drop 8 bytes) == IFZS)) ≡ true → ¬ IsNoForm bytes
form_tested bytes e (inl short) = let a = both_true (nat_le 12 (length bytes) && (big_number 4 bytes == FORM)) _ e in let b = both_true (nat_le 12 (length bytes)) (big_number 4 bytes == FORM) a.0 in let long = leb-true 12 (length bytes) b.0 in omega (arith, long, short)
form_tested bytes e (inr (inl other)) = let a = both_true (nat_le 12 (length bytes) && (big_number 4 bytes == FORM)) _ e in let b = both_true (nat_le 12 (length bytes)) (big_number 4 bytes == FORM) a.0 in other (eqb-true (big_number 4 bytes) FORM b.1)
form_tested bytes e (inr (inr other)) = let a = both_true (nat_le 12 (length bytes) && (big_number 4 bytes == FORM)) _ e in other (eqb-true (big_number 4 (drop 8 bytes)) IFZS a.1)

one_fails : (a b c : Bool) → (a && b && c) ≡ false → (a ≡ false) ⊎ ((b ≡ false) ⊎ (c ≡ false))
one_fails false b c e = inl refl
one_fails true false c e = inr (inl refl)
one_fails true true c e = inr (inr e)

form_failed : (bytes : List ℕ) → (nat_le 12 (length bytes) && (big_number 4 bytes == FORM) && (big_number 4 (drop 8 bytes) == IFZS)) ≡ false → IsNoForm bytes
form_failed bytes e =
    elim (one_fails (nat_le 12 (length bytes)) (big_number 4 bytes == FORM) (big_number 4 (drop 8 bytes) == IFZS) e) [
      | inl f ↦ inl (leb-false 12 (length bytes) f)
      | inr (inl f) ↦ inr (inl (eqb-false (big_number 4 bytes) FORM f))
      | inr (inr f) ↦ inr (inr (eqb-false (big_number 4 (drop 8 bytes)) IFZS f))
    ]

-- ---- chunks

need_err : {B : Type 0} (b : Bool) (d : SaveError) (f : Unit {0} → Result B SaveError) (e : SaveError) → (need b d >>= f) ≡ Err e → (d ≡ e) ⊎ (f tt ≡ Err e)
need_err true d f e g = inr g
need_err false d f e g = inl cc

bind_err : {A B : Type 0} (r : Result A SaveError) (f : A → Result B SaveError) (e : SaveError) → (r >>= f) ≡ Err e → (r ≡ Err e) ⊎ ((x : A) × (f x ≡ Err e))
bind_err (Ok x) f e g = inr (x, g)
bind_err (Err d) f e g = inl cc

-- chunks are refused for their lengths alone
sized_refused : (id size : ℕ) (body : List ℕ) (e : SaveError) → sized_chunk id size body ≡ Err e → errors.Length ≡ e
unfolding sized_chunk
sized_refused id size body e g =
    elim (need_err (nat_le (size + size % 2) (length body)) _ _ e g) [
      | inl same ↦ same
      | inr h ↦ elim (need_err ((size % 2 == 0) || (slice_index body size == 0)) _ _ e h) [
        | inl same ↦ same
        | inr i ↦ elim (need_err (not (id == IFHD) || (size == HEADER_LENGTH)) _ _ e i) [
          | inl same ↦ same
          | inr j ↦ absurd cc
        ]
      ]
    ]

chunk_refused : (bytes : List ℕ) (e : SaveError) → chunk_at bytes ≡ Err e → errors.Length ≡ e
unfolding chunk_at
chunk_refused bytes e g =
    elim (need_err (nat_le 8 (length bytes)) _ _ e g) [
      | inl same ↦ same
      | inr h ↦ sized_refused (big_number 4 bytes) (big_number 4 (drop 4 bytes)) (drop 8 bytes) e h
    ]

chunks_refused : (n : ℕ) (bytes : List ℕ) (e : SaveError) → chunks_within n bytes ≡ Err e → errors.Length ≡ e
unfolding chunks_within
chunks_refused zero [] e g = absurd cc
chunks_refused (suc n) [] e g = absurd cc
chunks_refused zero (b ∷ bytes) e g = cc
chunks_refused (suc n) (b ∷ bytes) e g =
    elim (bind_err (chunk_at (b ∷ bytes)) _ e g) [
      | inl h ↦ chunk_refused (b ∷ bytes) e h
      | inr (c, h) ↦ elim (bind_err (chunks_within n c.1) _ e h) [
        | inl i ↦ chunks_refused n c.1 e i
        | inr (cs, i) ↦ absurd cc
      ]
    ]

-- there is one list of chunks, and the reader finds it
chunks_are : (bytes : List ℕ) (cs : List Chunk) → AreChunksOf bytes cs → chunks_of (drop 12 bytes) ≡ Ok cs
chunks_are bytes cs are = ap chunks_of are.spelled ∙ chunks_again (length (flat_map chunk_bytes cs)) cs (few_chunks cs) are.each

one_list : (bytes : List ℕ) (cs ds : List Chunk) → AreChunksOf bytes cs → AreChunksOf bytes ds → ds ≡ cs
one_list bytes cs ds a b = ok_is ds cs (sym (chunks_are bytes ds b) ∙ chunks_are bytes cs a)

flawless : (story : LoadedStory) (bytes : List ℕ) (cs : List Chunk) (e : SaveError) → AreChunksOf bytes cs → ¬ IsFlaw story cs e → ¬ HasFlaw story bytes e
flawless story bytes cs e are none flaw = none (subst (λ (x : List Chunk). IsFlaw story x e) (one_list bytes cs flaw.chunks are flaw.are) flaw.flaw)

-- ---- what a step tells

need_split : {B : Type 0} (b : Bool) (d : SaveError) (f : Unit {0} → Result B SaveError) (e : SaveError) → (need b d >>= f) ≡ Err e → ((b ≡ false) × (d ≡ e)) ⊎ ((b ≡ true) × (f tt ≡ Err e))
need_split true d f e g = inr (refl, g)
need_split false d f e g = inl (refl, cc)

pub record IsBody (bytes body : List ℕ) : Type 0 where
  pub is : body ≡ drop 12 bytes
  pub form : ¬ IsNoForm bytes
  pub count : big_number 4 (drop 4 bytes) + 8 ≡ length bytes

body_read : (bytes body : List ℕ) → body_of bytes ≡ Ok body → IsBody bytes body
unfolding body_of
body_read bytes body e =
    let a = need_ok (nat_le 12 (length bytes) && (big_number 4 bytes == FORM) && (big_number 4 (drop 8 bytes) == IFZS)) _ _ _ e in
    let b = need_ok (big_number 4 (drop 4 bytes) + 8 == length bytes) _ _ _ a.1 in
    record { is = sym (ok_is (drop 12 bytes) body b.1); form = form_tested bytes a.0; count = eqb-true (big_number 4 (drop 4 bytes) + 8) (length bytes) b.0 }

body_refused : (bytes : List ℕ) (e : SaveError) → body_of bytes ≡ Err e → ((errors.NotForm ≡ e) × IsNoForm bytes) ⊎ ((errors.Length ≡ e) × ¬ IsNoForm bytes × (big_number 4 (drop 4 bytes) + 8 ≢ length bytes))
unfolding body_of
body_refused bytes e g =
    elim (need_split (nat_le 12 (length bytes) && (big_number 4 bytes == FORM) && (big_number 4 (drop 8 bytes) == IFZS)) _ _ e g) [
      | inl a ↦ inl (a.1, form_failed bytes a.0)
      | inr a ↦ elim (need_split (big_number 4 (drop 4 bytes) + 8 == length bytes) _ _ e a.1) [
        | inl b ↦ inr (b.1, form_tested bytes a.0, eqb-false (big_number 4 (drop 4 bytes) + 8) (length bytes) b.0)
        | inr b ↦ absurd cc
      ]
    ]

abbrev failed : SaveError → Result ℕ SaveError
failed e = Err e

failed_is : (d e : SaveError) → failed d ≡ failed e → d ≡ e
failed_is d e f = cc

-- frames are refused as such alone
mask_refused : (mask : ℕ) (e : SaveError) → supplied_by mask ≡ Err e → errors.Frames ≡ e
mask_refused mask e g =
    elim (cases_Bool (mask == 0)) [
      | inl a ↦ absurd (let h : Ok 0 ≡ Err e = rw a at g in cc)
      | inr a ↦ elim (cases_Bool (mask == 1)) [
        | inl b ↦ absurd (let h : Ok 1 ≡ Err e = rw (a, b) at g in cc)
        | inr b ↦ elim (cases_Bool (mask == 3)) [
          | inl c ↦ absurd (let h : Ok 2 ≡ Err e = rw (a, b, c) at g in cc)
          | inr c ↦ elim (cases_Bool (mask == 7)) [
            | inl d ↦ absurd (let h : Ok 3 ≡ Err e = rw (a, b, c, d) at g in cc)
            | inr d ↦ failed_is errors.Frames e (rw (a, b, c, d) at g)
          ]
        ]
      ]
    ]

framed_refused : (head : List ℕ) (supplied locals stack : ℕ) (body : List ℕ) (e : SaveError) → framed head supplied locals stack body ≡ Err e → errors.Frames ≡ e
unfolding framed
framed_refused head supplied locals stack body e g =
    elim (need_err (nat_le (2 * locals + 2 * stack) (length body)) _ _ e g) [
      | inl same ↦ same
      | inr h ↦ absurd cc
    ]

frame_refused : (bytes : List ℕ) (e : SaveError) → frame_at bytes ≡ Err e → errors.Frames ≡ e
unfolding frame_at
frame_refused bytes e g =
    elim (need_err (nat_le 8 (length bytes)) _ _ e g) [
      | inl same ↦ same
      | inr h ↦ elim (need_err (nat_le (slice_index bytes 3) 15) _ _ e h) [
        | inl same ↦ same
        | inr i ↦ elim (bind_err (supplied_by (slice_index bytes 5)) _ e i) [
          | inl j ↦ mask_refused (slice_index bytes 5) e j
          | inr (n, j) ↦ framed_refused bytes n (slice_index bytes 3) (big_number 2 (drop 6 bytes)) (drop 8 bytes) e j
        ]
      ]
    ]

frames_refused : (n : ℕ) (bytes : List ℕ) (e : SaveError) → frames_within n bytes ≡ Err e → errors.Frames ≡ e
unfolding frames_within
frames_refused zero [] e g = absurd cc
frames_refused (suc n) [] e g = absurd cc
frames_refused zero (b ∷ bytes) e g = cc
frames_refused (suc n) (b ∷ bytes) e g =
    elim (bind_err (frame_at (b ∷ bytes)) _ e g) [
      | inl h ↦ frame_refused (b ∷ bytes) e h
      | inr (c, h) ↦ elim (bind_err (frames_within n c.1) _ e h) [
        | inl i ↦ frames_refused n c.1 e i
        | inr (cs, i) ↦ absurd cc
      ]
    ]

stacks_refused : (stacks : List ℕ) (e : SaveError) → frames_of stacks ≡ Err e → errors.Frames ≡ e
unfolding frames_of
stacks_refused stacks e g =
    elim (bind_err (frames_within MOST_FRAMES stacks) _ e g) [
      | inl h ↦ frames_refused MOST_FRAMES stacks e h
      | inr (fs, h) ↦ elim (need_err (are_frames fs) _ _ e h) [
        | inl same ↦ same
        | inr i ↦ absurd cc
      ]
    ]

pub no_frames : (stacks : List ℕ) (e : SaveError) → frames_of stacks ≡ Err e → ¬ TellsFrames stacks
no_frames stacks e g t = let both = sym g ∙ ap frames_of t.spelled ∙ frames_of_again t.frames t.are in cc

some_frames : (stacks : List ℕ) (fs : List Frame) → IsBytes stacks → frames_of stacks ≡ Ok fs → TellsFrames stacks
some_frames stacks fs fits e = let t = frames_of_takes stacks fs fits e in record { frames = fs; spelled = t.1; are = t.2 }

-- data of a header name the story exactly where they are of it
names_it : (story : LoadedStory) (h : List ℕ) → length h ≡ 13 → IsBytes h → is_of story h ≡ true → NamesStory story h
names_it story h long fits e = record {
  origin = record { release = big_number 2 h; serial = slice_range h 2 8; checksum = big_number 2 (drop 8 h) };
  place = big_number 3 (drop 10 h);
  spelled = header_takes h long fits;
  low = number_fits 3 (drop 10 h) (IsBytes-drop 10 h fits);
  is_origin = record { release = number_fits 2 h fits; serial = six_long h long; checksum = number_fits 2 (drop 8 h) (IsBytes-drop 8 h fits) };
  names = named story h e;
}

pub names_other : (story : LoadedStory) (h : List ℕ) → is_of story h ≡ false → ¬ NamesStory story h
names_other story h e t =
    let has : HasHeader h t.origin t.place = subst (λ (x : List ℕ). HasHeader x t.origin t.place) (sym t.spelled) (header_again t.origin t.place t.is_origin t.low) in
    let both = sym e ∙ of_story story h t.origin t.place has t.names in
    cc

-- ---- where reading ends

stops_at_body : (story : LoadedStory) (bytes : List ℕ) (e : SaveError) → body_of bytes ≡ Err e → reading story bytes ≡ Err e
unfolding reading
stops_at_body story bytes e f = rw f refl

stops_at_chunks : (story : LoadedStory) (bytes body : List ℕ) (e : SaveError) → body_of bytes ≡ Ok body → chunks_of body ≡ Err e → reading story bytes ≡ Err e
unfolding reading
stops_at_chunks story bytes body e f g = rw (f, g) refl

stops_at_parts : (story : LoadedStory) (bytes body : List ℕ) (e : SaveError) → body_of bytes ≡ Ok body → parts_at body ≡ Err e → reading story bytes ≡ Err e
unfolding reading
stops_at_parts story bytes body e f g = rw (f, g) refl

stops_at_story : (story : LoadedStory) (bytes body : List ℕ) (p : Parts) → body_of bytes ≡ Ok body → parts_at body ≡ Ok p → is_of story p.header ≡ false → reading story bytes ≡ Err errors.OtherStory
unfolding reading
stops_at_story story bytes body p f g h = rw (f, g, h) refl

stops_at_memory : (story : LoadedStory) (bytes body : List ℕ) (p : Parts) → body_of bytes ≡ Ok body → parts_at body ≡ Ok p → is_of story p.header ≡ true → (length p.memory == static_base story) ≡ false → reading story bytes ≡ Err errors.MemoryLength
unfolding reading
stops_at_memory story bytes body p f g h i = rw (f, g, h, i) refl

stops_at_frames : (story : LoadedStory) (bytes body : List ℕ) (p : Parts) (e : SaveError) → body_of bytes ≡ Ok body → parts_at body ≡ Ok p → is_of story p.header ≡ true → (length p.memory == static_base story) ≡ true → frames_of p.stacks ≡ Err e → reading story bytes ≡ Err e
unfolding reading
stops_at_frames story bytes body p e f g h i j = rw (f, g, h, i, j) refl

reads_on : (story : LoadedStory) (bytes body : List ℕ) (p : Parts) (fs : List Frame) → body_of bytes ≡ Ok body → parts_at body ≡ Ok p → is_of story p.header ≡ true → (length p.memory == static_base story) ≡ true → frames_of p.stacks ≡ Ok fs → reading story bytes ≡ Ok (record { memory = p.memory; place = big_number 3 (drop 10 p.header); frames = fs })
unfolding reading
reads_on story bytes body p fs f g h i j = rw (f, g, h, i, j) refl

-- ---- which cause that is

abbrev pub IsJudged : (SaveError → Type 0) → Result Saved SaveError → Type 0
IsJudged causes (Ok s) = HasNone causes
IsJudged causes (Err e) = IsLowest causes e

refused_for : (causes : SaveError → Type 0) (r : Result Saved SaveError) (e : SaveError) → r ≡ Err e → causes e → NoneUnder causes (number_of e) → IsJudged causes r
refused_for causes r e f holds under = subst (λ (x : Result Saved SaveError). IsJudged causes x) (sym f) (record { holds = holds; lowest = under })

-- the first eight are all that reading answers
nothing_else : (story : LoadedStory) (bytes : List ℕ) → NoneUnder (IsCause story bytes) 9 → HasNone (IsCause story bytes)
nothing_else story bytes under errors.NotForm = under errors.NotForm (omega arith)
nothing_else story bytes under errors.Length = under errors.Length (omega arith)
nothing_else story bytes under errors.ChunkMissing = under errors.ChunkMissing (omega arith)
nothing_else story bytes under errors.ChunkTwice = under errors.ChunkTwice (omega arith)
nothing_else story bytes under errors.Compressed = under errors.Compressed (omega arith)
nothing_else story bytes under errors.OtherStory = under errors.OtherStory (omega arith)
nothing_else story bytes under errors.MemoryLength = under errors.MemoryLength (omega arith)
nothing_else story bytes under errors.Frames = under errors.Frames (omega arith)
nothing_else story bytes under errors.Place = λ f. f.flaw
nothing_else story bytes under errors.NotDescribed = λ f. f.flaw
nothing_else story bytes under errors.OutOfMemory = λ f. f.flaw

-- what is known once the chunks are read
pub record IsCut (story : LoadedStory) (bytes body : List ℕ) (cs : List Chunk) : Type 0 where
  pub body_is : body_of bytes ≡ Ok body
  pub cut : chunks_of body ≡ Ok cs
  pub are : AreChunksOf bytes cs
  pub fit : AllByRecursion (λ (c : Chunk). IsBytes c.contents) cs
  pub under : NoneUnder (IsCause story bytes) 3

-- and of the parts
pub record IsParted (story : LoadedStory) (bytes body : List ℕ) (p : Parts) (cs : List Chunk) : Type 0 where
  pub body_is : body_of bytes ≡ Ok body
  pub parts : parts_at body ≡ Ok p
  pub are : AreChunksOf bytes cs
  pub long : length p.header ≡ 13
  pub header_fits : IsBytes p.header
  pub stacks_fit : IsBytes p.stacks
  pub header : Chunk
  pub memory : Chunk
  pub stacks : Chunk
  pub headers : of_kind IFHD cs ≡ header ∷ []
  pub memories : of_kind UMEM cs ≡ memory ∷ []
  pub all_stacks : of_kind STKS cs ≡ stacks ∷ []
  pub header_is : header.contents ≡ p.header
  pub memory_is : memory.contents ≡ p.memory
  pub stacks_is : stacks.contents ≡ p.stacks
  pub under : NoneUnder (IsCause story bytes) 6

-- of one chunk
one_has : (P : List ℕ → Type 0) (cs : List Chunk) (c : Chunk) (d : List ℕ) → cs ≡ c ∷ [] → c.contents ≡ d → P d → AllByRecursion (λ (x : Chunk). P x.contents) cs
one_has P cs c d e f holds = subst (λ (x : List Chunk). AllByRecursion (λ (y : Chunk). P y.contents) x) (sym e) (subst P (sym f) holds, tt)

one_lacks : (P : List ℕ → Type 0) (cs : List Chunk) (c : Chunk) (d : List ℕ) → cs ≡ c ∷ [] → c.contents ≡ d → ¬ P d → ¬ AllByRecursion (λ (x : Chunk). P x.contents) cs
one_lacks P cs c d e f fails all = let one = subst (λ (x : List Chunk). AllByRecursion (λ (y : Chunk). P y.contents) x) e all in fails (subst P f one.0)

frames_judged : (story : LoadedStory) (bytes body : List ℕ) (p : Parts) (cs : List Chunk) (r : Result (List Frame) SaveError) → IsParted story bytes body p cs → is_of story p.header ≡ true → (length p.memory == static_base story) ≡ true → NoneUnder (IsCause story bytes) 8 → frames_of p.stacks ≡ r → IsJudged (IsCause story bytes) (reading story bytes)
frames_judged story bytes body p cs (Err e) is of_it long under f =
    let same : errors.Frames ≡ e = stacks_refused p.stacks e f in
    let stops : reading story bytes ≡ Err errors.Frames = stops_at_frames story bytes body p e is.body_is is.parts of_it long f ∙ sym (ap (λ (x : SaveError). Err x) same) in
    let flaw : HasWrongFrames cs = one_lacks TellsFrames (of_kind STKS cs) is.stacks p.stacks is.all_stacks is.stacks_is (no_frames p.stacks e f) in
    refused_for (IsCause story bytes) (reading story bytes) errors.Frames stops (record { chunks = cs; are = is.are; flaw = flaw }) under
frames_judged story bytes body p cs (Ok fs) is of_it long under f =
    let holds = one_has TellsFrames (of_kind STKS cs) is.stacks p.stacks is.all_stacks is.stacks_is (some_frames p.stacks fs is.stacks_fit f) in
    let none : ¬ HasFlaw story bytes errors.Frames = flawless story bytes cs errors.Frames is.are (λ fails. fails holds) in
    let all = nothing_else story bytes (one_further (IsCause story bytes) errors.Frames under none) in
    subst (λ (x : Result Saved SaveError). IsJudged (IsCause story bytes) x) (sym (reads_on story bytes body p fs is.body_is is.parts of_it long f)) all

memory_judged : (story : LoadedStory) (bytes body : List ℕ) (p : Parts) (cs : List Chunk) → IsParted story bytes body p cs → is_of story p.header ≡ true → NoneUnder (IsCause story bytes) 7 → IsJudged (IsCause story bytes) (reading story bytes)
memory_judged story bytes body p cs is of_it under =
    let IsLong : List ℕ → Type 0 = λ d. length d ≡ static_base story in
    elim (cases_Bool (length p.memory == static_base story)) [
      | inl long ↦
          let holds = one_has IsLong (of_kind UMEM cs) is.memory p.memory is.memories is.memory_is (eqb-true (length p.memory) (static_base story) long) in
          let none : ¬ HasFlaw story bytes errors.MemoryLength = flawless story bytes cs errors.MemoryLength is.are (λ fails. fails holds) in
          frames_judged story bytes body p cs (frames_of p.stacks) is of_it long (one_further (IsCause story bytes) errors.MemoryLength under none) refl
      | inr other ↦
          let flaw = one_lacks IsLong (of_kind UMEM cs) is.memory p.memory is.memories is.memory_is (eqb-false (length p.memory) (static_base story) other) in
          refused_for (IsCause story bytes) (reading story bytes) errors.MemoryLength (stops_at_memory story bytes body p is.body_is is.parts of_it other) (record { chunks = cs; are = is.are; flaw = flaw }) under
    ]

story_judged : (story : LoadedStory) (bytes body : List ℕ) (p : Parts) (cs : List Chunk) → IsParted story bytes body p cs → IsJudged (IsCause story bytes) (reading story bytes)
story_judged story bytes body p cs is =
    elim (cases_Bool (is_of story p.header)) [
      | inl of_it ↦
          let holds = one_has (NamesStory story) (of_kind IFHD cs) is.header p.header is.headers is.header_is (names_it story p.header is.long is.header_fits of_it) in
          let none : ¬ HasFlaw story bytes errors.OtherStory = flawless story bytes cs errors.OtherStory is.are (λ fails. fails holds) in
          memory_judged story bytes body p cs is of_it (one_further (IsCause story bytes) errors.OtherStory is.under none)
      | inr other ↦
          let flaw = one_lacks (NamesStory story) (of_kind IFHD cs) is.header p.header is.headers is.header_is (names_other story p.header other) in
          refused_for (IsCause story bytes) (reading story bytes) errors.OtherStory (stops_at_story story bytes body p is.body_is is.parts other) (record { chunks = cs; are = is.are; flaw = flaw }) is.under
    ]

all_of_kind : (P : Chunk → Type 0) (id : ℕ) (cs : List Chunk) → AllByRecursion P cs → AllByRecursion P (of_kind id cs)
all_of_kind P id [] each = tt
all_of_kind P id (c ∷ cs) each =
    elim (cases_Bool (c.id == id)) [
      | inl is_so ↦ rw is_so (each.0, all_of_kind P id cs each.1)
      | inr is_not ↦ rw is_not (all_of_kind P id cs each.1)
    ]

of_its_kind : (id : ℕ) (cs : List Chunk) → AllByRecursion (λ (c : Chunk). c.id ≡ id) (of_kind id cs)
of_its_kind id [] = tt
of_its_kind id (c ∷ cs) =
    elim (cases_Bool (c.id == id)) [
      | inl is_so ↦ rw is_so (eqb-true c.id id is_so, of_its_kind id cs)
      | inr is_not ↦ rw is_not (of_its_kind id cs)
    ]

-- the one chunk of a kind
of_the_one : (P : Chunk → Type 0) (id : ℕ) (cs : List Chunk) (c : Chunk) → AllByRecursion P cs → of_kind id cs ≡ c ∷ [] → P c × (c.id ≡ id)
of_the_one P id cs c each e =
    let kept = subst (λ (x : List Chunk). AllByRecursion P x) e (all_of_kind P id cs each) in
    let named = subst (λ (x : List Chunk). AllByRecursion (λ (y : Chunk). y.id ≡ id) x) e (of_its_kind id cs) in
    (kept.0, named.0)

parts_are : (body : List ℕ) (cs : List Chunk) → chunks_of body ≡ Ok cs → parts_at body ≡ parts_of cs
parts_are body cs e = ap (λ (r : Result (List Chunk) SaveError). r >>= parts_of) e

chunks_judged : (story : LoadedStory) (bytes body : List ℕ) (cs : List Chunk) → IsCut story bytes body cs → IsJudged (IsCause story bytes) (reading story bytes)
chunks_judged story bytes body cs is =
    let causes = IsCause story bytes in
    let parts = parts_are body cs is.cut in
    let HasFits : Chunk → Type 0 = λ c. IsBytes c.contents in
    elim (parts_judged cs) [
      | inl m ↦ refused_for causes (reading story bytes) errors.ChunkMissing (stops_at_parts story bytes body errors.ChunkMissing is.body_is (parts ∙ m.answer)) (record { chunks = cs; are = is.are; flaw = m.flaw }) is.under
      | inr (inl m) ↦
          let under = one_further causes errors.ChunkMissing is.under (flawless story bytes cs errors.ChunkMissing is.are m.whole) in
          refused_for causes (reading story bytes) errors.ChunkTwice (stops_at_parts story bytes body errors.ChunkTwice is.body_is (parts ∙ m.answer)) (record { chunks = cs; are = is.are; flaw = m.flaw }) under
      | inr (inr (inl m)) ↦
          let under_4 = one_further causes errors.ChunkMissing is.under (flawless story bytes cs errors.ChunkMissing is.are m.whole) in
          let under = one_further causes errors.ChunkTwice under_4 (flawless story bytes cs errors.ChunkTwice is.are m.single) in
          refused_for causes (reading story bytes) errors.Compressed (stops_at_parts story bytes body errors.Compressed is.body_is (parts ∙ m.answer)) (record { chunks = cs; are = is.are; flaw = m.flaw }) under
      | inr (inr (inr m)) ↦
          let under_4 = one_further causes errors.ChunkMissing is.under (flawless story bytes cs errors.ChunkMissing is.are m.whole) in
          let under_5 = one_further causes errors.ChunkTwice under_4 (flawless story bytes cs errors.ChunkTwice is.are m.single) in
          let under = one_further causes errors.Compressed under_5 (flawless story bytes cs errors.Compressed is.are (λ packed. packed m.plain)) in
          let header = of_the_one IsChunk IFHD cs m.header is.are.each m.headers in
          let header_fits = of_the_one HasFits IFHD cs m.header is.fit m.headers in
          let stacks_fit = of_the_one HasFits STKS cs m.stacks is.fit m.all_stacks in
          let p : Parts = record { header = m.header.contents; memory = m.memory.contents; stacks = m.stacks.contents } in
          story_judged story bytes body p cs (record {
            body_is = is.body_is;
            parts = parts ∙ m.answer;
            are = is.are;
            long = header.0.header header.1;
            header_fits = header_fits.0;
            stacks_fit = stacks_fit.0;
            header = m.header;
            memory = m.memory;
            stacks = m.stacks;
            headers = m.headers;
            memories = m.memories;
            all_stacks = m.all_stacks;
            header_is = refl;
            memory_is = refl;
            stacks_is = refl;
            under = under;
          })
    ]

count_holds : (bytes : List ℕ) (cs : List Chunk) → (big_number 4 (drop 4 bytes) + 8 ≡ length bytes) → AreChunksOf bytes cs → ¬ HasWrongLength bytes
count_holds bytes cs count are (inl other) = other count
count_holds bytes cs count are (inr none) = none cs are

body_judged : (story : LoadedStory) (bytes body : List ℕ) (r : Result (List Chunk) SaveError) → IsBytes bytes → body_of bytes ≡ Ok body → chunks_of body ≡ r → IsJudged (IsCause story bytes) (reading story bytes)
body_judged story bytes body (Err e) fits f g =
    let is = body_read bytes body f in
    let same : errors.Length ≡ e = chunks_refused (length body) body e g in
    let stops : reading story bytes ≡ Err errors.Length = stops_at_chunks story bytes body e f g ∙ sym (ap (λ (x : SaveError). Err x) same) in
    let under = one_further (IsCause story bytes) errors.NotForm (none_first (IsCause story bytes)) is.form in
    refused_for (IsCause story bytes) (reading story bytes) errors.Length stops (inr (λ cs are. let both = sym g ∙ ap chunks_of is.is ∙ chunks_are bytes cs are in cc)) under
body_judged story bytes body (Ok cs) fits f g =
    let is = body_read bytes body f in
    let body_fits : IsBytes body = rw is.is (IsBytes-drop 12 bytes fits) in
    let t = chunks_take (length body) body cs body_fits g in
    let are : AreChunksOf bytes cs = record { spelled = sym is.is ∙ t.parts; each = t.each } in
    let under = one_further (IsCause story bytes) errors.NotForm (none_first (IsCause story bytes)) is.form in
    chunks_judged story bytes body cs (record { body_is = f; cut = g; are = are; fit = t.fits; under = one_further (IsCause story bytes) errors.Length under (count_holds bytes cs is.count are) })

bytes_judged : (story : LoadedStory) (bytes : List ℕ) (r : Result (List ℕ) SaveError) → IsBytes bytes → body_of bytes ≡ r → IsJudged (IsCause story bytes) (reading story bytes)
bytes_judged story bytes (Ok body) fits f = body_judged story bytes body (chunks_of body) fits f refl
bytes_judged story bytes (Err e) fits f =
    let causes = IsCause story bytes in
    let stops = stops_at_body story bytes e f in
    elim (body_refused bytes e f) [
      | inl m ↦ refused_for causes (reading story bytes) errors.NotForm (stops ∙ sym (ap (λ (x : SaveError). Err x) m.0)) m.1 (none_first causes)
      | inr m ↦ refused_for causes (reading story bytes) errors.Length (stops ∙ sym (ap (λ (x : SaveError). Err x) m.0)) (inl m.2) (one_further causes errors.NotForm (none_first causes) m.1)
    ]

pub judged : (story : LoadedStory) (bytes : List ℕ) → IsBytes bytes → IsJudged (IsCause story bytes) (reading story bytes)
judged story bytes fits = bytes_judged story bytes (body_of bytes) fits refl

-- what a call that reads answers
pub is_lowest : (story : LoadedStory) (bytes : List ℕ) (r : Result Saved SaveError) → IsBytes bytes → r ≡ reading story bytes → IfErr r (IsLowest (IsCause story bytes))
is_lowest story bytes (Ok s) fits e = tt
is_lowest story bytes (Err d) fits e = subst (λ (x : Result Saved SaveError). IsJudged (IsCause story bytes) x) (sym e) (judged story bytes fits)

pub is_free : (story : LoadedStory) (bytes : List ℕ) (r : Result Saved SaveError) → IsBytes bytes → r ≡ reading story bytes → OnOk r (HasNone (IsCause story bytes))
is_free story bytes (Ok s) fits e = subst (λ (x : Result Saved SaveError). IsJudged (IsCause story bytes) x) (sym e) (judged story bytes fits)
is_free story bytes (Err d) fits e = tt

-- What the code's loops have found so far, and that it doesn't matter how many chunks or frames there might be.
use Rattle.std.proofs.Common.{◌≡◌, ◌⊎◌, inl, inr, ℕ, zero, suc, ◌+◌, ◌*◌, ◌-◌, ◌%◌, ◌<◌, ◌≤◌, true, false, List, [], ◌∷◌, length, get_or, drop, Option, Some, None, Result, Ok, Err, refl, sym, ap, ◌∙◌, arith}
use Rattle.std.specs.Prelude.{nat_le}
use Rattle.std.proofs.lemmas.Bool.{cases_Bool, leb-true}
use Rattle.std.proofs.lemmas.List.{length-drop}
use Rattle.byteorder.specs.Endian.{big_number}
use Rattle.zquetzal.specs.declared.error.SaveError.{SaveError}
use Rattle.zquetzal.specs.declared.error.SaveError.TheVariants as errors
use Rattle.zquetzal.specs.declared.limits.TheConstants.{IFHD, UMEM, CMEM, STKS, MOST_FRAMES}
use Rattle.zquetzal.specs.Saved.{Frame}
use Rattle.zquetzal.specs.Grammar.{Chunk, is_known}
use Rattle.zquetzal.specs.Steps.{◌>>=◌}
use Rattle.zquetzal.specs.Reading.{supplied_by, Found, Absent, Once, Often, found, found_in, found_then, first_known, chunk_at, chunks_within, framed, frame_at, frames_within, are_frames, frames_of}
use Rattle.zquetzal.specs.Survey.{Survey, survey_of, survey_at, first_then, noted, surveyed}
use Rattle.zquetzal.specs.View.{frames_up_to, frames_in, count_within, count_of}
use Rattle.zquetzal.proofs.Steps.{bind_ok, need_ok, ok_is}
use Rattle.zquetzal.proofs.Takes.{sized_takes}

-- ---- chunks

then_then : (f g h : Found) → found_then (found_then f g) h ≡ found_then f (found_then g h)
then_then Absent g h = refl
then_then (Once d) Absent h = refl
then_then (Once d) (Once e) Absent = refl
then_then (Once d) (Once e) (Once a) = refl
then_then (Once d) (Once e) Often = refl
then_then (Once d) Often h = refl
then_then Often g h = refl

first_or : Option ℕ → Option ℕ → Option ℕ
first_or (Some x) other = Some x
first_or None other = other

first_joined : (f : Option ℕ) (c : Chunk) (cs : List Chunk) → first_or (first_then f c.id) (first_known cs) ≡ first_or f (first_known (c ∷ cs))
unfolding first_or
first_joined (Some x) c cs = refl
first_joined None c cs =
    elim (cases_Bool (is_known c.id)) [
      | inl is_so ↦ rw is_so refl
      | inr is_not ↦ rw is_not refl
    ]

-- what was found, and behind it more chunks
unfoldable with_all : Survey → List Chunk → Survey
with_all s cs = record {
  first = first_or s.first (first_known cs);
  header = found_then s.header (found IFHD cs);
  memory = found_then s.memory (found UMEM cs);
  compressed = found_then s.compressed (found CMEM cs);
  stacks = found_then s.stacks (found STKS cs);
}

with_more : (s : Survey) (c : Chunk) (cs : List Chunk) → with_all (noted s c) cs ≡ with_all s (c ∷ cs)
unfolding with_all
with_more s c cs =
    rw (
      first_joined s.first c cs,
      then_then s.header (found_in IFHD c) (found IFHD cs),
      then_then s.memory (found_in UMEM c) (found UMEM cs),
      then_then s.compressed (found_in CMEM c) (found CMEM cs),
      then_then s.stacks (found_in STKS c) (found STKS cs),
    ) refl

then_none : (f : Found) → found_then f Absent ≡ f
then_none Absent = refl
then_none (Once d) = refl
then_none Often = refl

first_none : (f : Option ℕ) → first_or f None ≡ f
unfolding first_or
first_none (Some x) = refl
first_none None = refl

with_none : (s : Survey) → with_all s [] ≡ s
unfolding with_all
with_none s = rw (first_none s.first, then_none s.header, then_none s.memory, then_none s.compressed, then_none s.stacks) refl

from_none : (cs : List Chunk) → with_all (survey_of []) cs ≡ survey_of cs
unfolding with_all first_or
from_none cs = refl

-- how chunks that follow are found
unfoldable after_all : Survey → Result (List Chunk) SaveError → Result Survey SaveError
after_all s r = r >>= λ cs. Ok (with_all s cs)

after_more : (s : Survey) (c : Chunk) (r : Result (List Chunk) SaveError) → after_all (noted s c) r ≡ after_all s (r >>= λ cs. Ok (c ∷ cs))
unfolding after_all
after_more s c (Ok cs) = ap (λ (t : Survey). let u : Result Survey SaveError = Ok t in u) (with_more s c cs)
after_more s c (Err e) = refl

surveyed_front : (n : ℕ) (s : Survey) (b : ℕ) (bytes : List ℕ) → ((t : Survey) (rest : List ℕ) → surveyed n t rest ≡ after_all t (chunks_within n rest)) → (r : Result (Chunk × List ℕ) SaveError) → (r >>= λ c. surveyed n (noted s c.0) c.1) ≡ after_all s (r >>= λ c. chunks_within n c.1 >>= λ cs. Ok (c.0 ∷ cs))
surveyed_front n s b bytes rest (Ok c) = rest (noted s c.0) c.1 ∙ after_more s c.0 (chunks_within n c.1)
surveyed_front n s b bytes rest (Err e) = unfold after_all in refl

surveyed_is : (n : ℕ) (s : Survey) (bytes : List ℕ) → surveyed n s bytes ≡ after_all s (chunks_within n bytes)
unfolding surveyed chunks_within after_all
surveyed_is zero s [] = ap (λ (t : Survey). let u : Result Survey SaveError = Ok t in u) (sym (with_none s))
surveyed_is (suc n) s [] = ap (λ (t : Survey). let u : Result Survey SaveError = Ok t in u) (sym (with_none s))
surveyed_is zero s (b ∷ bytes) = refl
surveyed_is (suc n) s (b ∷ bytes) = surveyed_front n s b bytes (λ t rest. surveyed_is n t rest) (chunk_at (b ∷ bytes))

at_none : (r : Result (List Chunk) SaveError) → after_all (survey_of []) r ≡ (r >>= λ cs. Ok (survey_of cs))
unfolding after_all
at_none (Ok cs) = ap (λ (t : Survey). let u : Result Survey SaveError = Ok t in u) (from_none cs)
at_none (Err e) = refl

pub survey_at_is : (bytes : List ℕ) → surveyed (length bytes) (survey_of []) bytes ≡ survey_at bytes
survey_at_is bytes = surveyed_is (length bytes) (survey_of []) bytes ∙ at_none (chunks_within (length bytes) bytes)

-- what is left behind a chunk is shorter
chunk_shorter : (bytes : List ℕ) (x : Chunk × List ℕ) → chunk_at bytes ≡ Ok x → length x.1 < length bytes
unfolding chunk_at
chunk_shorter bytes x e =
    let a = need_ok (nat_le 8 (length bytes)) _ _ _ e in
    let long : 8 ≤ length bytes = leb-true _ _ a.0 in
    let size = big_number 4 (drop 4 bytes) in
    let t = sized_takes (big_number 4 bytes) size (drop 8 bytes) x a.1 in
    let rest : length x.1 ≡ length (drop (size + size % 2) (drop 8 bytes)) = ap length t.rest_is in
    omega (arith, rest, long, length-drop (size + size % 2) (drop 8 bytes), length-drop 8 bytes)

pub surveyed_end : (n : ℕ) (s : Survey) → surveyed n s [] ≡ Ok s
unfolding surveyed
surveyed_end zero s = refl
surveyed_end (suc n) s = refl

enough_front : (n m : ℕ) (s : Survey) (r : Result (Chunk × List ℕ) SaveError) → ((x : Chunk × List ℕ) → r ≡ Ok x → surveyed n (noted s x.0) x.1 ≡ surveyed m (noted s x.0) x.1) → (r >>= λ c. surveyed n (noted s c.0) c.1) ≡ (r >>= λ c. surveyed m (noted s c.0) c.1)
enough_front n m s (Ok x) same = same x refl
enough_front n m s (Err e) same = refl

surveyed_enough : (n m : ℕ) (s : Survey) (bytes : List ℕ) → length bytes ≤ n → length bytes ≤ m → surveyed n s bytes ≡ surveyed m s bytes
unfolding surveyed
surveyed_enough n m s [] p q = surveyed_end n s ∙ sym (surveyed_end m s)
surveyed_enough zero m s (b ∷ bytes) p q = absurd (omega (arith, p))
surveyed_enough (suc n) zero s (b ∷ bytes) p q = absurd (omega (arith, q))
surveyed_enough (suc n) (suc m) s (b ∷ bytes) p q =
    enough_front n m s (chunk_at (b ∷ bytes)) (λ x e.
    let short = chunk_shorter (b ∷ bytes) x e in
    surveyed_enough n m (noted s x.0) x.1 (omega (arith, p, short)) (omega (arith, q, short)))

surveyed_first : (n : ℕ) (s : Survey) (b : ℕ) (bytes : List ℕ) (x : Chunk × List ℕ) → chunk_at (b ∷ bytes) ≡ Ok x → surveyed (suc n) s (b ∷ bytes) ≡ surveyed n (noted s x.0) x.1
unfolding surveyed
surveyed_first n s b bytes x e = rw e refl

-- one chunk more was found
pub survey_step : (s : Survey) (rest : List ℕ) (x : Chunk × List ℕ) → chunk_at rest ≡ Ok x → surveyed (length x.1) (noted s x.0) x.1 ≡ surveyed (length rest) s rest
survey_step s [] x e = absurd (omega (arith, chunk_shorter [] x e))
survey_step s (b ∷ bytes) x e =
    let short = chunk_shorter (b ∷ bytes) x e in
    surveyed_enough (length x.1) (length bytes) (noted s x.0) x.1 (omega arith) (omega (arith, short)) ∙ sym (surveyed_first (length bytes) s b bytes x e)

-- one was refused
pub survey_refused : (s : Survey) (rest : List ℕ) (d : SaveError) → (rest ≡ [] → ⊥) → chunk_at rest ≡ Err d → surveyed (length rest) s rest ≡ Err d
unfolding surveyed
survey_refused s [] d some e = absurd (some refl)
survey_refused s (b ∷ bytes) d some e = rw e refl

-- ---- frames

-- so many frames more
unfoldable pub counted_on : ℕ → Result ℕ SaveError → Result ℕ SaveError
counted_on k r = r >>= λ n. Ok (k + n)

ok_same : (a b : ℕ) → a ≡ b → (let r : Result ℕ SaveError = Ok a in r) ≡ Ok b
ok_same a b e = ap (λ (n : ℕ). let r : Result ℕ SaveError = Ok n in r) e

pub counted_none : (r : Result ℕ SaveError) → counted_on 0 r ≡ r
unfolding counted_on
counted_none (Ok n) = ok_same (0 + n) n (omega arith)
counted_none (Err e) = refl

counted_more : (k : ℕ) (r : Result (List Frame) SaveError) (f : Frame) → counted_on k ((r >>= λ fs. Ok (f ∷ fs)) >>= λ fs. Ok (length fs)) ≡ counted_on (k + 1) (r >>= λ fs. Ok (length fs))
unfolding counted_on
counted_more k (Ok fs) f = ok_same (k + length (f ∷ fs)) (k + 1 + length fs) (omega arith)
counted_more k (Err e) f = refl

within_first : (n : ℕ) (rest : List ℕ) (x : Frame × List ℕ) → (rest ≡ [] → ⊥) → frame_at rest ≡ Ok x → frames_within (suc n) rest ≡ (frames_within n x.1 >>= λ fs. Ok (x.0 ∷ fs))
unfolding frames_within
within_first n [] x some e = absurd (some refl)
within_first n (b ∷ bytes) x some e = rw e refl

-- one frame more was counted
pub count_step : (k : ℕ) (rest : List ℕ) (x : Frame × List ℕ) → (rest ≡ [] → ⊥) → k < MOST_FRAMES → frame_at rest ≡ Ok x → counted_on (k + 1) (count_within (MOST_FRAMES - (k + 1)) x.1) ≡ counted_on k (count_within (MOST_FRAMES - k) rest)
count_step k rest x some few e =
    let n = MOST_FRAMES - (k + 1) in
    let same : MOST_FRAMES - k ≡ suc n = omega (arith, few) in
    let first : frames_within (MOST_FRAMES - k) rest ≡ (frames_within n x.1 >>= λ fs. Ok (x.0 ∷ fs)) = ap (λ (m : ℕ). frames_within m rest) same ∙ within_first n rest x some e in
    sym (ap (λ (r : Result (List Frame) SaveError). counted_on k (r >>= λ fs. Ok (length fs))) first ∙ counted_more k (frames_within n x.1) x.0)

within_refused : (n : ℕ) (rest : List ℕ) (d : SaveError) → (rest ≡ [] → ⊥) → frame_at rest ≡ Err d → frames_within (suc n) rest ≡ Err d
unfolding frames_within
within_refused n [] d some e = absurd (some refl)
within_refused n (b ∷ bytes) d some e = rw e refl

-- one was refused
pub count_refused : (k : ℕ) (rest : List ℕ) (d : SaveError) → (rest ≡ [] → ⊥) → k < MOST_FRAMES → frame_at rest ≡ Err d → counted_on k (count_within (MOST_FRAMES - k) rest) ≡ Err d
unfolding counted_on
count_refused k rest d some few e =
    let n = MOST_FRAMES - (k + 1) in
    let same : MOST_FRAMES - k ≡ suc n = omega (arith, few) in
    let first : frames_within (MOST_FRAMES - k) rest ≡ Err d = ap (λ (m : ℕ). frames_within m rest) same ∙ within_refused n rest d some e in
    rw first refl

none_more : (rest : List ℕ) → (rest ≡ [] → ⊥) → frames_within 0 rest ≡ Err errors.Frames
unfolding frames_within
none_more [] some = absurd (some refl)
none_more (b ∷ bytes) some = refl

-- there is one too many
pub count_full : (k : ℕ) (rest : List ℕ) → (rest ≡ [] → ⊥) → k ≡ MOST_FRAMES → counted_on k (count_within (MOST_FRAMES - k) rest) ≡ Err errors.Frames
unfolding counted_on
count_full k rest some e =
    let same : MOST_FRAMES - k ≡ 0 = omega (arith, e) in
    rw (same, none_more rest some) refl

no_frames : (n : ℕ) → frames_within n [] ≡ Ok []
unfolding frames_within
no_frames zero = refl
no_frames (suc n) = refl

pub count_end : (k n : ℕ) → counted_on k (count_within n []) ≡ Ok k
unfolding counted_on
count_end k n = rw (no_frames n) (ok_same (k + 0) k (omega arith))

-- what is left behind a frame is shorter
frame_shorter : (bytes : List ℕ) (x : Frame × List ℕ) → frame_at bytes ≡ Ok x → length x.1 < length bytes
unfolding frame_at framed
frame_shorter bytes x e =
    let a = need_ok (nat_le 8 (length bytes)) _ _ _ e in
    let b = need_ok (nat_le (get_or bytes 3 0) 15) _ _ _ a.1 in
    let d = bind_ok (supplied_by (get_or bytes 5 0)) _ _ b.1 in
    let locals = 2 * get_or bytes 3 0 in
    let stack = 2 * big_number 2 (drop 6 bytes) in
    let o = need_ok (nat_le (locals + stack) (length (drop 8 bytes))) _ _ _ d.2 in
    let long : 8 ≤ length bytes = leb-true _ _ a.0 in
    let rest : drop stack (drop locals (drop 8 bytes)) ≡ x.1 = ap (λ (y : Frame × List ℕ). y.1) (ok_is _ _ o.1) in
    let same : length (drop stack (drop locals (drop 8 bytes))) ≡ length x.1 = ap length rest in
    omega (arith, same, long, length-drop stack (drop locals (drop 8 bytes)), length-drop locals (drop 8 bytes), length-drop 8 bytes)

front_of : (n : ℕ) (bytes : List ℕ) (x : Frame × List ℕ) → frame_at bytes ≡ Ok x → frames_up_to (suc n) bytes ≡ x.0 ∷ frames_up_to n x.1
unfolding frames_up_to
front_of n bytes x e = rw e refl

front_none : (n : ℕ) (bytes : List ℕ) (d : SaveError) → frame_at bytes ≡ Err d → frames_up_to n bytes ≡ []
unfolding frames_up_to
front_none zero bytes d e = refl
front_none (suc n) bytes d e = rw e refl

or_error : {A : Type 0} (r : Result A SaveError) → ((x : A) × (r ≡ Ok x)) ⊎ ((d : SaveError) × (r ≡ Err d))
or_error (Ok x) = inl (x, refl)
or_error (Err d) = inr (d, refl)

with_front : (f : Frame) (a b : List Frame) → a ≡ b → f ∷ a ≡ f ∷ b
with_front f a b e = ap (λ (t : List Frame). f ∷ t) e

up_to_enough : (n m : ℕ) (bytes : List ℕ) → length bytes ≤ n → length bytes ≤ m → frames_up_to n bytes ≡ frames_up_to m bytes
up_to_enough zero m bytes p q =
    elim (or_error (frame_at bytes)) [
      | inl o ↦ absurd (omega (arith, p, frame_shorter bytes o.0 o.1))
      | inr o ↦ front_none 0 bytes o.0 o.1 ∙ sym (front_none m bytes o.0 o.1)
    ]
up_to_enough (suc n) zero bytes p q =
    elim (or_error (frame_at bytes)) [
      | inl o ↦ absurd (omega (arith, q, frame_shorter bytes o.0 o.1))
      | inr o ↦ front_none (suc n) bytes o.0 o.1 ∙ sym (front_none 0 bytes o.0 o.1)
    ]
up_to_enough (suc n) (suc m) bytes p q =
    elim (or_error (frame_at bytes)) [
      | inl o ↦
          let short = frame_shorter bytes o.0 o.1 in
          front_of n bytes o.0 o.1
          ∙ with_front o.0.0 (frames_up_to n o.0.1) (frames_up_to m o.0.1) (up_to_enough n m o.0.1 (omega (arith, p, short)) (omega (arith, q, short)))
          ∙ sym (front_of m bytes o.0 o.1)
      | inr o ↦ front_none (suc n) bytes o.0 o.1 ∙ sym (front_none (suc m) bytes o.0 o.1)
    ]

-- the frame at the front, and then the others
pub frames_step : (bytes : List ℕ) (x : Frame × List ℕ) → frame_at bytes ≡ Ok x → frames_in bytes ≡ x.0 ∷ frames_in x.1
frames_step [] x e = absurd (omega (arith, frame_shorter [] x e))
frames_step (b ∷ bytes) x e =
    let short = frame_shorter (b ∷ bytes) x e in
    front_of (length bytes) (b ∷ bytes) x e ∙ with_front x.0 (frames_up_to (length bytes) x.1) (frames_in x.1) (up_to_enough (length bytes) (length x.1) x.1 (omega (arith, short)) (omega arith))

-- there is none
pub frames_none : (bytes : List ℕ) (d : SaveError) → frame_at bytes ≡ Err d → frames_in bytes ≡ []
frames_none bytes d e = front_none (length bytes) bytes d e

nothing_at : (x : Frame × List ℕ) → frame_at [] ≡ Ok x → ⊥
nothing_at x e = omega (arith, frame_shorter [] x e)

nothing_in : frames_in [] ≡ []
unfolding frames_up_to
nothing_in = refl

-- frames that were read are all that can be
pub all_in : (n : ℕ) (bytes : List ℕ) (fs : List Frame) → frames_within n bytes ≡ Ok fs → frames_in bytes ≡ fs
unfolding frames_within
all_in zero [] fs e = nothing_in ∙ ok_is [] fs e
all_in (suc n) [] fs e = nothing_in ∙ ok_is [] fs e
all_in zero (b ∷ bytes) fs e = absurd cc
all_in (suc n) (b ∷ bytes) fs e =
    let a = bind_ok (frame_at (b ∷ bytes)) _ _ e in
    let d = bind_ok (frames_within n a.0.1) _ _ a.2 in
    frames_step (b ∷ bytes) a.0 a.1 ∙ with_front a.0.0 (frames_in a.0.1) d.0 (all_in n a.0.1 d.0 d.1) ∙ ok_is (a.0.0 ∷ d.0) fs d.2

-- ---- all frames

counted_were : (n : ℕ) (bytes : List ℕ) (k : ℕ) → count_within n bytes ≡ Ok k → (fs : List Frame) × (frames_within n bytes ≡ Ok fs) × (length fs ≡ k)
counted_were n bytes k e =
    let a = bind_ok (frames_within n bytes) (λ fs. Ok (length fs)) k e in
    (a.0, a.1, ok_is (length a.0) k a.2)

error_is : {A : Type 0} (d e : SaveError) → (let r : Result A SaveError = Err d in r) ≡ Err e → d ≡ e
error_is d e p = cc

error_was : (r : Result (List Frame) SaveError) (d : SaveError) → (r >>= λ fs. let n : Result ℕ SaveError = Ok (length fs) in n) ≡ Err d → r ≡ Err d
error_was (Ok fs) d e = absurd cc
error_was (Err c) d e = cc

pub count_of_refused : (stacks : List ℕ) (d : SaveError) → count_within MOST_FRAMES stacks ≡ Err d → count_of stacks ≡ Err d
unfolding frames_of
count_of_refused stacks d e = rw (error_was (frames_within MOST_FRAMES stacks) d e) refl

pub count_of_other : (stacks : List ℕ) (k : ℕ) → count_within MOST_FRAMES stacks ≡ Ok k → are_frames (frames_in stacks) ≡ false → count_of stacks ≡ Err errors.Frames
unfolding frames_of
count_of_other stacks k e other =
    let a = counted_were MOST_FRAMES stacks k e in
    let test : are_frames a.0 ≡ false = sym (ap are_frames (all_in MOST_FRAMES stacks a.0 a.1)) ∙ other in
    rw (a.1, test) refl

pub count_of_first : (stacks : List ℕ) (k : ℕ) → count_within MOST_FRAMES stacks ≡ Ok k → are_frames (frames_in stacks) ≡ true → count_of stacks ≡ Ok k
unfolding frames_of
count_of_first stacks k e first =
    let a = counted_were MOST_FRAMES stacks k e in
    let test : are_frames a.0 ≡ true = sym (ap are_frames (all_in MOST_FRAMES stacks a.0 a.1)) ∙ first in
    rw (a.1, test) (ok_same (length a.0) k a.2)

pub count_of_were : (stacks : List ℕ) (k : ℕ) → count_of stacks ≡ Ok k → (fs : List Frame) × (frames_of stacks ≡ Ok fs) × (length fs ≡ k)
count_of_were stacks k e =
    let a = bind_ok (frames_of stacks) (λ fs. Ok (length fs)) k e in
    (a.0, a.1, ok_is (length a.0) k a.2)

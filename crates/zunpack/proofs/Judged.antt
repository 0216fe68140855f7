-- Which refusal is the lowest, and what a file is that has none.
use Rattle.std.proofs.Common.{◌≡◌, ◌⊎◌, inl, inr, ℕ, zero, suc, ◌<◌, ◌≤◌, List, [], ◌∷◌, length, drop, Some, None, refl, sym, ap, subst, ◌∙◌, arith}
use Rattle.std.proofs.lemmas.Bool.{cases_lt}
use Rattle.zstory.specs.LoadedStory.{LoadedStory}
use Rattle.zquetzal.specs.declared.error.SaveError.{SaveError}
use Rattle.zquetzal.specs.declared.error.SaveError.TheVariants as saves
use Rattle.zquetzal.specs.declared.limits.TheConstants.{UMEM, CMEM}
use Rattle.zquetzal.specs.Refusal.{number_of as save_number}
use Rattle.zquetzal.specs.Saved.{Saved}
use Rattle.zquetzal.specs.Grammar.{Chunk, ReadsAs}
use Rattle.zquetzal.specs.Causes.{IsNoForm, AreChunksOf, of_kind, IsMissing, HasFlaw as HasSaveFlaw, IsCause as IsSaveCause, IsLowest as IsLowestOfSave, HasNone as HasNoneOfSave}
use Rattle.zunpack.specs.declared.error.UnpackError.{UnpackError}
use Rattle.zunpack.specs.declared.error.UnpackError.TheVariants as errors
use Rattle.zunpack.specs.Refusal.{number_of}
use Rattle.zunpack.specs.Causes.{RepeatsPart, IsFlaw, HasFlaw, IsCause, NoneBelow, IsLowest}
use Rattle.zunpack.specs.View.{IsForm, IsJudged, refusal_of}
use Rattle.zunpack.proofs.Cutting.{cut_behind, one_way}

-- ---- numbers

error_at : ℕ → UnpackError
error_at (suc zero) = errors.NotForm
error_at (suc (suc zero)) = errors.Length
error_at (suc (suc (suc zero))) = errors.ChunkMissing
error_at (suc (suc (suc (suc zero)))) = errors.ChunkTwice
error_at (suc (suc (suc (suc (suc zero))))) = errors.Plain
error_at (suc (suc (suc (suc (suc (suc zero)))))) = errors.OtherStory
error_at (suc (suc (suc (suc (suc (suc (suc zero))))))) = errors.Unfinished
error_at (suc (suc (suc (suc (suc (suc (suc (suc zero)))))))) = errors.TooLong
error_at (suc (suc (suc (suc (suc (suc (suc (suc (suc zero))))))))) = errors.Frames
error_at n = errors.OutOfMemory

at_its_number : (e : UnpackError) → error_at (number_of e) ≡ e
unfolding error_at
at_its_number errors.NotForm = refl
at_its_number errors.Length = refl
at_its_number errors.ChunkMissing = refl
at_its_number errors.ChunkTwice = refl
at_its_number errors.Plain = refl
at_its_number errors.OtherStory = refl
at_its_number errors.Unfinished = refl
at_its_number errors.TooLong = refl
at_its_number errors.Frames = refl
at_its_number errors.OutOfMemory = refl

same_number : (e d : UnpackError) → number_of e ≡ number_of d → e ≡ d
same_number e d same = sym (at_its_number e) ∙ ap error_at same ∙ at_its_number d

from_one : (e : UnpackError) → 1 ≤ number_of e
from_one errors.NotForm = omega arith
from_one errors.Length = omega arith
from_one errors.ChunkMissing = omega arith
from_one errors.ChunkTwice = omega arith
from_one errors.Plain = omega arith
from_one errors.OtherStory = omega arith
from_one errors.Unfinished = omega arith
from_one errors.TooLong = omega arith
from_one errors.Frames = omega arith
from_one errors.OutOfMemory = omega arith

pub none_first : (causes : UnpackError → Type 0) → NoneBelow causes 1
none_first causes = λ e low. absurd (omega (arith, low, from_one e))

-- one more that doesn't hold
pub one_further : (causes : UnpackError → Type 0) (error : UnpackError) → NoneBelow causes (number_of error) → ¬ causes error → NoneBelow causes (suc (number_of error))
one_further causes error under none = λ e low.
    elim (cases_lt (number_of e) (number_of error)) [
      | inl less ↦ under e less
      | inr more ↦ subst (λ (x : UnpackError). ¬ causes x) (sym (same_number e error (omega (arith, low, more)))) none
    ]

-- ---- chunks

-- what doesn't hold of the chunks of a file doesn't hold of the file
pub flawless : (story : LoadedStory) (bytes : List ℕ) (cs : List Chunk) (e : UnpackError) → AreChunksOf bytes cs → ¬ IsFlaw story cs e → ¬ HasFlaw story bytes e
flawless story bytes cs e are none has = none (subst (λ (x : List Chunk). IsFlaw story x e) (one_way bytes has.chunks cs has.are are) has.flaw)

missing_unless : (cs : List Chunk) → ¬ ¬ (cs ≡ []) → cs ≡ []
missing_unless [] none = refl
missing_unless (c ∷ cs) none = absurd (none (λ e. cc))

pub save_flawless : (story : LoadedStory) (bytes : List ℕ) (cs : List Chunk) → AreChunksOf bytes cs → ¬ HasSaveFlaw story bytes saves.Compressed → IsMissing CMEM cs
save_flawless story bytes cs are none = missing_unless (of_kind CMEM cs) (λ some. none (record { chunks = cs; are = are; flaw = some }))

-- ---- the form

pub form_of : (story : LoadedStory) (bytes : List ℕ) (is : IsLowestOfSave (IsSaveCause story bytes) saves.Compressed) → IsForm bytes is.holds.chunks
form_of story bytes is =
    let cs = is.holds.chunks in
    let are = is.holds.are in
    record {
      are = are;
      form = is.lowest saves.NotForm (omega arith);
      count = is.lowest saves.Length (omega arith);
      whole = λ flaw. is.lowest saves.ChunkMissing (omega arith) (record { chunks = cs; are = are; flaw = flaw });
      single = λ flaw. is.lowest saves.ChunkTwice (omega arith) (record { chunks = cs; are = are; flaw = flaw });
      packed = is.holds.flaw;
    }

pub judged_of : (bytes : List ℕ) (cs : List Chunk) → IsForm bytes cs → IsJudged (drop 12 bytes)
judged_of bytes cs is = record { chunks = cs; cut = cut_behind bytes cs is.are; whole = is.whole; single = is.single; packed = is.packed }

pub long_enough : (bytes : List ℕ) → ¬ IsNoForm bytes → 12 ≤ length bytes
long_enough bytes form =
    elim (cases_lt (length bytes) 12) [
      | inl short ↦ absurd (form (inl short))
      | inr long ↦ long
    ]

-- nothing below C4
pub below_4 : (story : LoadedStory) (bytes : List ℕ) (cs : List Chunk) → IsForm bytes cs → NoneBelow (IsCause story bytes) 4
below_4 story bytes cs is =
    let causes = IsCause story bytes in
    one_further causes errors.ChunkMissing (one_further causes errors.Length (one_further causes errors.NotForm (none_first causes) is.form) is.count) (flawless story bytes cs errors.ChunkMissing is.are is.whole)

-- ---- a save that is refused before its memory is looked at

pub early_1 : (story : LoadedStory) (bytes : List ℕ) → IsLowestOfSave (IsSaveCause story bytes) saves.NotForm → IsLowest (IsCause story bytes) errors.NotForm
early_1 story bytes is = record { holds = is.holds; lowest = none_first (IsCause story bytes) }

-- what is known of one that is a form of the right length
abbrev NoneOfSave : LoadedStory → List ℕ → ℕ → Type 0
NoneOfSave story bytes n = (lower : SaveError) → save_number lower < n → ¬ IsSaveCause story bytes lower

own_2 : (story : LoadedStory) (bytes : List ℕ) → NoneOfSave story bytes 2 → NoneBelow (IsCause story bytes) 2
own_2 story bytes under = let causes = IsCause story bytes in one_further causes errors.NotForm (none_first causes) (under saves.NotForm (omega arith))

own_3 : (story : LoadedStory) (bytes : List ℕ) → NoneOfSave story bytes 3 → NoneBelow (IsCause story bytes) 3
own_3 story bytes under =
    let causes = IsCause story bytes in
    one_further causes errors.Length (own_2 story bytes (λ lower low. under lower (omega (arith, low)))) (under saves.Length (omega arith))

same_lack : (story : LoadedStory) (bytes : List ℕ) → HasFlaw story bytes errors.ChunkMissing → HasSaveFlaw story bytes saves.ChunkMissing
same_lack story bytes has = record { chunks = has.chunks; are = has.are; flaw = has.flaw }

own_4 : (story : LoadedStory) (bytes : List ℕ) → NoneOfSave story bytes 4 → NoneBelow (IsCause story bytes) 4
own_4 story bytes under =
    let causes = IsCause story bytes in
    one_further causes errors.ChunkMissing (own_3 story bytes (λ lower low. under lower (omega (arith, low)))) (λ has. under saves.ChunkMissing (omega arith) (same_lack story bytes has))

pub early_2 : (story : LoadedStory) (bytes : List ℕ) → IsLowestOfSave (IsSaveCause story bytes) saves.Length → IsLowest (IsCause story bytes) errors.Length
early_2 story bytes is = record { holds = is.holds; lowest = own_2 story bytes is.lowest }

pub early_3 : (story : LoadedStory) (bytes : List ℕ) → IsLowestOfSave (IsSaveCause story bytes) saves.ChunkMissing → IsLowest (IsCause story bytes) errors.ChunkMissing
early_3 story bytes is = record { holds = record { chunks = is.holds.chunks; are = is.holds.are; flaw = is.holds.flaw }; lowest = own_3 story bytes is.lowest }

pub early_4 : (story : LoadedStory) (bytes : List ℕ) → IsLowestOfSave (IsSaveCause story bytes) saves.ChunkTwice → IsLowest (IsCause story bytes) errors.ChunkTwice
early_4 story bytes is = record { holds = record { chunks = is.holds.chunks; are = is.holds.are; flaw = inl is.holds.flaw }; lowest = own_4 story bytes is.lowest }

abbrev Repeats : List Chunk → List Chunk → Type 0
Repeats ms ks = (1 < length ks) ⊎ ((¬ (ms ≡ [])) × (¬ (ks ≡ [])))

none_repeats : (ms ks : List Chunk) → ks ≡ [] → ¬ Repeats ms ks
none_repeats ms ks none (inl e) = omega (arith, e, ap (λ (x : List Chunk). length x) none)
none_repeats ms ks none (inr e) = e.1 none

-- a plain one
pub plain_lowest : (story : LoadedStory) (bytes : List ℕ) (cs : List Chunk) → AreChunksOf bytes cs → NoneOfSave story bytes 6 → IsLowest (IsCause story bytes) errors.Plain
plain_lowest story bytes cs are under =
    let causes = IsCause story bytes in
    let none : IsMissing CMEM cs = save_flawless story bytes cs are (under saves.Compressed (omega arith)) in
    let once : ¬ RepeatsPart cs = λ r. elim r [
      | inl e ↦ under saves.ChunkTwice (omega arith) (record { chunks = cs; are = are; flaw = e })
      | inr e ↦ none_repeats (of_kind UMEM cs) (of_kind CMEM cs) none e
    ] in
    record {
      holds = record { chunks = cs; are = are; flaw = none };
      lowest = one_further causes errors.ChunkTwice (own_4 story bytes (λ lower low. under lower (omega (arith, low)))) (flawless story bytes cs errors.ChunkTwice are once);
    }

flaw_chunks : (story : LoadedStory) (bytes : List ℕ) (e : SaveError) → 5 < save_number e → IsSaveCause story bytes e → (cs : List Chunk) × AreChunksOf bytes cs
flaw_chunks story bytes saves.NotForm high is = absurd (omega (arith, high))
flaw_chunks story bytes saves.Length high is = absurd (omega (arith, high))
flaw_chunks story bytes saves.ChunkMissing high is = absurd (omega (arith, high))
flaw_chunks story bytes saves.ChunkTwice high is = absurd (omega (arith, high))
flaw_chunks story bytes saves.Compressed high is = absurd (omega (arith, high))
flaw_chunks story bytes saves.OtherStory high is = (is.chunks, is.are)
flaw_chunks story bytes saves.MemoryLength high is = (is.chunks, is.are)
flaw_chunks story bytes saves.Frames high is = (is.chunks, is.are)
flaw_chunks story bytes saves.Place high is = (is.chunks, is.are)
flaw_chunks story bytes saves.NotDescribed high is = (is.chunks, is.are)
flaw_chunks story bytes saves.OutOfMemory high is = (is.chunks, is.are)

-- what is refused as a save
some_is : (c d : UnpackError) → Some c ≡ Some d → c ≡ d
some_is c d e = cc

lowest_as : (story : LoadedStory) (bytes : List ℕ) (c d : UnpackError) → IsLowest (IsCause story bytes) c → Some c ≡ Some d → IsLowest (IsCause story bytes) d
lowest_as story bytes c d is same = subst (λ (x : UnpackError). IsLowest (IsCause story bytes) x) (some_is c d same) is

high_plain : (story : LoadedStory) (bytes : List ℕ) (e : SaveError) → 5 < save_number e → IsLowestOfSave (IsSaveCause story bytes) e → IsLowest (IsCause story bytes) errors.Plain
high_plain story bytes e high is =
    let c = flaw_chunks story bytes e high is.holds in
    plain_lowest story bytes c.0 c.1 (λ d low. is.lowest d (omega (arith, low, high)))

pub refused_as : (story : LoadedStory) (bytes : List ℕ) (e : SaveError) (d : UnpackError) → IsLowestOfSave (IsSaveCause story bytes) e → refusal_of e ≡ Some d → IsLowest (IsCause story bytes) d
refused_as story bytes saves.NotForm d is same = lowest_as story bytes errors.NotForm d (early_1 story bytes is) same
refused_as story bytes saves.Length d is same = lowest_as story bytes errors.Length d (early_2 story bytes is) same
refused_as story bytes saves.ChunkMissing d is same = lowest_as story bytes errors.ChunkMissing d (early_3 story bytes is) same
refused_as story bytes saves.ChunkTwice d is same = lowest_as story bytes errors.ChunkTwice d (early_4 story bytes is) same
refused_as story bytes saves.Compressed d is same = absurd cc
refused_as story bytes saves.OtherStory d is same = lowest_as story bytes errors.Plain d (high_plain story bytes saves.OtherStory (omega arith) is) same
refused_as story bytes saves.MemoryLength d is same = lowest_as story bytes errors.Plain d (high_plain story bytes saves.MemoryLength (omega arith) is) same
refused_as story bytes saves.Frames d is same = lowest_as story bytes errors.Plain d (high_plain story bytes saves.Frames (omega arith) is) same
refused_as story bytes saves.Place d is same = lowest_as story bytes errors.Plain d (high_plain story bytes saves.Place (omega arith) is) same
refused_as story bytes saves.NotDescribed d is same = lowest_as story bytes errors.Plain d (high_plain story bytes saves.NotDescribed (omega arith) is) same
refused_as story bytes saves.OutOfMemory d is same = lowest_as story bytes errors.Plain d (high_plain story bytes saves.OutOfMemory (omega arith) is) same

pub not_refused : (e : SaveError) → refusal_of e ≡ None → e ≡ saves.Compressed
not_refused saves.Compressed none = refl
not_refused saves.NotForm none = absurd cc
not_refused saves.Length none = absurd cc
not_refused saves.ChunkMissing none = absurd cc
not_refused saves.ChunkTwice none = absurd cc
not_refused saves.OtherStory none = absurd cc
not_refused saves.MemoryLength none = absurd cc
not_refused saves.Frames none = absurd cc
not_refused saves.Place none = absurd cc
not_refused saves.NotDescribed none = absurd cc
not_refused saves.OutOfMemory none = absurd cc

reads_chunks : (story : LoadedStory) (bytes : List ℕ) (s : Saved) (r : ReadsAs story bytes s) → AreChunksOf bytes r.chunks
reads_chunks story bytes s r = record { spelled = ap (drop 12) r.spelled; each = r.each }

-- what is read as a save is plain
pub plain_read : (story : LoadedStory) (bytes : List ℕ) (s : Saved) → ReadsAs story bytes s → HasNoneOfSave (IsSaveCause story bytes) → IsLowest (IsCause story bytes) errors.Plain
plain_read story bytes s reads none = plain_lowest story bytes reads.chunks (reads_chunks story bytes s reads) (λ e low. none e)

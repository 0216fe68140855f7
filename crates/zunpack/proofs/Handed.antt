-- What is told of an error is told of a result that hands it on, and what is told of a file of the parts that are found in it.
use Rattle.std.proofs.Common.{◌≡◌, ℕ, ◌-◌, ◌<◌, Bool, true, false, List, take, drop, Result, Ok, Err, length, sym, subst}
use Rattle.std.specs.Prelude.{is_ok, IfErr, IfOk, IsErr, IsErrAnd, OnOk}
use Rattle.zstory.specs.LoadedStory.{LoadedStory}
use Rattle.zquetzal.specs.declared.error.SaveError.{SaveError}
use Rattle.zquetzal.specs.declared.error.SaveError.TheVariants as saves
use Rattle.zquetzal.specs.Saved.{Saved, origin_of}
use Rattle.zquetzal.specs.Grammar.{Chunk, save_text}
use Rattle.zquetzal.specs.Reading.{reading}
use Rattle.zquetzal.specs.Causes.{IsCause as IsSaveCause, IsLowest as IsLowestOfSave, HasNone as HasNoneOfSave}
use Rattle.zquetzal.proofs.Numbers.{IsBytes}
use Rattle.zunpack.specs.declared.error.UnpackError.{UnpackError}
use Rattle.zunpack.specs.declared.error.UnpackError.TheVariants as errors
use Rattle.zunpack.specs.Causes.{RepeatsPart, IsCause, IsLowest, IsRefused, HasNone}
use Rattle.zunpack.specs.PackedSave.{PackedAs}
use Rattle.zunpack.specs.View.{IsCut, Parts, ArePartsOf, HasParts, AreTaken, ArgueAgainst, ReadsBack, FailsFor, plain_bytes}
use Rattle.zunpack.proofs.Judged.{form_of}
use Rattle.zunpack.proofs.Made.{AreParted, IsAnswer, IsToldOf, argued, cut_part, header_long, is_answered, is_refused, packed_short, told_of, twice}

-- ---- results

-- a result that is an error, which is this one
abbrev pub HandsOn : {T : Type 0} → Result T UnpackError → UnpackError → Type 0
HandsOn r e = IsErr r × IsErrAnd r (λ d. d ≡ e)

pub handed : {T : Type 0} (P : UnpackError → Type 0) (r : Result T UnpackError) (e : UnpackError) → HandsOn r e → P e → IfErr r P
handed P (Ok x) e is holds = tt
handed P (Err d) e is holds = subst P (sym is.1) holds

pub handed_none : {T : Type 0} (P : T → Type 0) (r : Result T UnpackError) (e : UnpackError) → HandsOn r e → IfOk r P
handed_none P (Ok x) e is = absurd is.1
handed_none P (Err d) e is = tt

pub handed_nothing : {T : Type 0} (P : Type 0) (r : Result T UnpackError) (e : UnpackError) → HandsOn r e → OnOk r P
handed_nothing P (Ok x) e is = absurd is.1
handed_nothing P (Err d) e is = tt

-- ---- parts

parted : (story : LoadedStory) (bytes : List ℕ) (p : Parts) (has : HasParts bytes p) → AreParted story bytes has.chunks p
parted story bytes p has = record { form = has.form; parts = has.parts; fits = has.fits }

pub parts_long : (story : LoadedStory) (bytes : List ℕ) (p : Parts) → HasParts bytes p → length p.header ≡ 13
parts_long story bytes p has = header_long story bytes has.chunks p (parted story bytes p has)

pub parts_short : (story : LoadedStory) (bytes : List ℕ) (p : Parts) → HasParts bytes p → length p.packed < 4294967296
parts_short story bytes p has = packed_short story bytes has.chunks p (parted story bytes p has)

pub parts_argued : (story : LoadedStory) (bytes : List ℕ) (p : Parts) (e : UnpackError) → HasParts bytes p → ArgueAgainst story p e → IsRefused (IsCause story bytes) e
parts_argued story bytes p e has against = argued story bytes has.chunks p e (parted story bytes p has) against

-- a file of which only the memory speaks against its being a save
abbrev pub IsOnlyPacked : LoadedStory → List ℕ → Type 0
IsOnlyPacked story bytes = IsLowestOfSave (IsSaveCause story bytes) saves.Compressed

-- what follows the first twelve bytes
abbrev pub body_of : List ℕ → List ℕ
body_of bytes = take (length bytes - 12) (drop 12 bytes)

pub parts_found : {T : Type 0} (view : T → Parts) (story : LoadedStory) (bytes : List ℕ) (r : Result T UnpackError) → IsBytes bytes → IsOnlyPacked story bytes → IfOk r (λ x. (chunks : List Chunk) → IsCut (body_of bytes) chunks → ArePartsOf chunks (view x)) → IfOk r (λ x. HasParts bytes (view x))
parts_found view story bytes (Ok x) fits is found =
    let cs = is.holds.chunks in
    let form = form_of story bytes is in
    record { chunks = cs; form = form; parts = found cs (cut_part bytes cs form.are); fits = fits }
parts_found view story bytes (Err e) fits is found = tt

pub parts_twice : {T : Type 0} (story : LoadedStory) (bytes : List ℕ) (r : Result T UnpackError) → IsOnlyPacked story bytes → IfErr r (λ e. (e ≡ errors.ChunkTwice) × ((chunks : List Chunk) → IsCut (body_of bytes) chunks → RepeatsPart chunks)) → IfErr r (IsLowest (IsCause story bytes))
parts_twice story bytes (Ok x) is told = tt
parts_twice story bytes (Err e) is told =
    let cs = is.holds.chunks in
    let form = form_of story bytes is in
    subst (λ (x : UnpackError). IsLowest (IsCause story bytes) x) (sym told.0) (twice story bytes cs form (told.1 cs (cut_part bytes cs form.are)))

-- ---- a text that is read again

pub reads_back : (story : LoadedStory) (text : List ℕ) (r : Result Saved SaveError) (b : Bool) → r ≡ reading story text → OnOk r (HasNoneOfSave (IsSaveCause story text)) → is_ok r ≡ b → ReadsBack story text b
reads_back story text (Ok s) true same none e = ((s, sym same), none)
reads_back story text (Err d) false same none e = (d, sym same)
reads_back story text (Ok s) false same none e = absurd cc
reads_back story text (Err d) true same none e = absurd cc

pub back_as : (story : LoadedStory) (a b : List ℕ) (x y : Bool) → a ≡ b → x ≡ y → ReadsBack story a x → ReadsBack story b y
back_as story a b x y same alike back = subst (λ (t : List ℕ). ReadsBack story t y) same (subst (λ (z : Bool). ReadsBack story a z) alike back)

pub lacks : {T : Type 0} (story : LoadedStory) (text : List ℕ) (r : Result T UnpackError) → HandsOn r errors.OutOfMemory → IfErr r (FailsFor story text)
lacks story text r is = handed (FailsFor story text) r errors.OutOfMemory is tt

-- ---- what is answered

-- what is promised of unpacking
pub record IsUnpacked {T : Type 0} (items : T → List ℕ) (story : LoadedStory) (bytes : List ℕ) (r : Result T UnpackError) : Type 0 where
  pub found : IfOk r (λ x. (s : Saved) × PackedAs story bytes s × (items x ≡ save_text (origin_of story) s))
  pub read : (s : Saved) → PackedAs story bytes s → IfOk r (λ x. reading story (items x) ≡ Ok s)
  pub only : (s : Saved) → PackedAs story bytes s → IfErr r (λ e. e ≡ errors.OutOfMemory)
  pub lowest_cause : IfErr r (IsRefused (IsCause story bytes))
  pub no_cause : OnOk r (HasNone (IsCause story bytes))

answer_told : {T : Type 0} (items : T → List ℕ) (story : LoadedStory) (bytes : List ℕ) (x : T) → IsAnswer story bytes (items x) → IsUnpacked items story bytes (Ok x)
answer_told items story bytes x is = record { found = is.found; read = is.read; only = λ s packed. tt; lowest_cause = tt; no_cause = is.none }

error_told : {T : Type 0} (items : T → List ℕ) (story : LoadedStory) (bytes : List ℕ) (e : UnpackError) → IsToldOf story bytes e → IsUnpacked items story bytes (Err e)
error_told items story bytes e is = record { found = tt; read = λ s packed. tt; only = is.only; lowest_cause = is.refused; no_cause = tt }

-- an error before anything is written
pub unpacked_not : {T : Type 0} (items : T → List ℕ) (story : LoadedStory) (bytes : List ℕ) (r : Result T UnpackError) (e : UnpackError) → HandsOn r e → IsBytes bytes → IsRefused (IsCause story bytes) e → IsUnpacked items story bytes r
unpacked_not items story bytes (Ok x) e is fits refused = absurd is.1
unpacked_not items story bytes (Err d) e is fits refused =
    error_told items story bytes d (told_of story bytes d fits (subst (λ (x : UnpackError). IsRefused (IsCause story bytes) x) (sym is.1) refused))

-- what is made of parts
pub unpacked_as : {T : Type 0} (items : T → List ℕ) (story : LoadedStory) (bytes : List ℕ) (p : Parts) (r : Result T UnpackError) → HasParts bytes p → AreTaken story p → IfOk r (λ x. items x ≡ plain_bytes story p) → OnOk r (ReadsBack story (plain_bytes story p) true) → IfErr r (FailsFor story (plain_bytes story p)) → IsUnpacked items story bytes r
unpacked_as items story bytes p (Ok x) has taken same back fails =
    answer_told items story bytes x (is_answered story bytes has.chunks p (items x) (parted story bytes p has) taken same back)
unpacked_as items story bytes p (Err e) has taken same back fails = error_told items story bytes e (is_refused story bytes has.chunks p e (parted story bytes p has) taken fails)

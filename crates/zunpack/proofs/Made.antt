-- What is made of a compressed save: the plain one that tells the same, or the lowest refusal.
use Rattle.std.proofs.Common.{◌≡◌, ◌⊎◌, inl, inr, ℕ, zero, suc, ◌+◌, ◌-◌, ◌%◌, ◌^◌, ◌<◌, ◌≤◌, true, false, List, [], ◌∷◌, ◌++◌, length, take, drop, Option, Some, None, Result, Ok, Err, refl, sym, ap, subst, ◌∙◌, append_assoc, arith, length-append}
use Rattle.std.specs.Prelude.{◌≢◌, ◌==◌, is_some, replicate, slice_range, nat_le, OnOk}
use Rattle.std.specs.List.{flat_map, AllByRecursion}
use Rattle.std.proofs.lemmas.Bool.{cases_Bool, eqb-true, eqb-false, leb-true, leb-false}
use Rattle.std.proofs.lemmas.List.{append-nil, length-take, length-drop, drop-drop}
use Rattle.byteorder.specs.Endian.{big_bytes, big_number}
use Rattle.zstory.specs.LoadedStory.{LoadedStory, IsSound, static_base}
use Rattle.zquetzal.specs.declared.error.SaveError.{SaveError}
use Rattle.zquetzal.specs.declared.error.SaveError.TheVariants as saves
use Rattle.zquetzal.specs.declared.origin.Origin.{Origin}
use Rattle.zquetzal.specs.declared.limits.TheConstants.{FORM, IFZS, IFHD, UMEM, CMEM, STKS}
use Rattle.zquetzal.specs.Saved.{Saved, Frame, AreFrames, IsSaved, origin_of}
use Rattle.zquetzal.specs.Grammar.{Chunk, IsChunk, chunk_bytes, form_bytes, header_bytes, frames_bytes, save_text}
use Rattle.zquetzal.specs.Reading.{is_of, frames_of, reading}
use Rattle.zquetzal.specs.Causes.{IsNoForm, AreChunksOf, HasWrongLength, of_kind, IsMissing, IsLate, LacksChunk, RepeatsChunk, NamesStory, TellsFrames, IsCause as IsSaveCause, HasNone as HasNoneOfSave}
use Rattle.zquetzal.proofs.Numbers.{IsBytes, IsBytes-drop, number_again, number_fits, front_4}
use Rattle.zquetzal.proofs.Saves.{header_again, header_takes, six_long, of_story, named, frames_of_again, frames_of_takes, frames_bound, header_long as saved_header_long, length-chunk, written, again}
use Rattle.zquetzal.proofs.Steps.{ok_is}
use Rattle.zquetzal.proofs.Lowest.{no_frames, names_other}
use Rattle.zunpack.specs.declared.error.UnpackError.{UnpackError}
use Rattle.zunpack.specs.declared.error.UnpackError.TheVariants as errors
use Rattle.zunpack.specs.Packing.{Run, runs_of, runs_differences, changed, unpacked, unpacked_by}
use Rattle.zunpack.specs.Causes.{RepeatsPart, IsFinished, FitsIn, IsCause, NoneBelow, IsLowest, HasNone, IsRefused}
use Rattle.zunpack.specs.PackedSave.{dynamic_of, packed_chunk, PackedAs}
use Rattle.zunpack.specs.View.{GivesSome, IsCut, IsForm, IsJudged, the_only, Parts, ArePartsOf, AreTaken, ArgueAgainst, ReadsBack, FailsFor, told, plain_header, plain_memory, plain_stacks, plain_chunks, plain_bytes}
use Rattle.zunpack.proofs.Runs.{runs_again, runs_taken, length-changed, unpacked_again, unpacked_takes}
use Rattle.zunpack.proofs.Cutting.{cut_behind, one_cut, one_way, fits_cut, of_the_one, one_has, one_lacks, one_or, single_is}
use Rattle.zunpack.proofs.Judged.{one_further, flawless, below_4, judged_of, long_enough}

-- ---- a header

names_it : (story : LoadedStory) (h : List ℕ) → length h ≡ 13 → IsBytes h → is_of story h ≡ true → NamesStory story h
names_it story h long fits e = record {
  origin = record { release = big_number 2 h; serial = slice_range h 2 8; checksum = big_number 2 (drop 8 h) };
  place = big_number 3 (drop 10 h);
  spelled = header_takes h long fits;
  low = number_fits 3 (drop 10 h) (IsBytes-drop 10 h fits);
  is_origin = record { release = number_fits 2 h fits; serial = six_long h long; checksum = number_fits 2 (drop 8 h) (IsBytes-drop 8 h fits) };
  names = named story h e;
}

-- ---- runs

same_runs : (a b : List Run) → Some a ≡ Some b → a ≡ b
same_runs a b e = cc

pub finished : (packed : List ℕ) (runs : List Run) → IsBytes packed → runs_of packed ≡ Some runs → IsFinished packed
finished packed runs fits e = (runs, runs_taken packed runs fits e)

pub unfinished : (packed : List ℕ) → runs_of packed ≡ None → ¬ IsFinished packed
unfinished packed e f = let both : Some f.0 ≡ None = sym (ap runs_of f.1.spelled ∙ runs_again f.0 f.1.each) ∙ e in cc

pub fits_so : (dynamic packed : List ℕ) (runs : List Run) → runs_of packed ≡ Some runs → length (runs_differences runs) ≤ length dynamic → FitsIn dynamic packed
fits_so dynamic packed runs e few = λ other are.
    let same : other ≡ runs = same_runs other runs (sym (ap runs_of are.spelled ∙ runs_again other are.each) ∙ e) in
    subst (λ (x : List Run). length (runs_differences x) ≤ length dynamic) (sym same) few

abbrev good : List ℕ → Result (List ℕ) UnpackError
good x = Ok x

abbrev bad : UnpackError → Result (List ℕ) UnpackError
bad e = Err e

failed_is : (d e : UnpackError) → bad d ≡ bad e → d ≡ e
failed_is d e f = cc

-- what each answer of unpacking says
abbrev pub Says : List ℕ → List ℕ → Result (List ℕ) UnpackError → Type 0
Says dynamic packed (Ok memory) = IsFinished packed × FitsIn dynamic packed
Says dynamic packed (Err errors.Unfinished) = ¬ IsFinished packed
Says dynamic packed (Err errors.TooLong) = IsFinished packed × ¬ FitsIn dynamic packed
Says dynamic packed (Err e) = ⊥

says_by : (dynamic packed : List ℕ) (o : Option (List Run)) → IsBytes packed → runs_of packed ≡ o → Says dynamic packed (unpacked_by dynamic o)
says_by dynamic packed None fits e = unfinished packed e
says_by dynamic packed (Some runs) fits e =
    let ds = runs_differences runs in
    elim (cases_Bool (nat_le (length ds) (length dynamic))) [
      | inl few ↦ rw few (finished packed runs fits e, fits_so dynamic packed runs e (leb-true (length ds) (length dynamic) few))
      | inr many ↦ rw many (finished packed runs fits e, λ f. let low = f runs (runs_taken packed runs fits e) in omega (arith, low, leb-false (length ds) (length dynamic) many))
    ]

pub says : (dynamic packed : List ℕ) (r : Result (List ℕ) UnpackError) → IsBytes packed → unpacked dynamic packed ≡ r → Says dynamic packed r
says dynamic packed r fits e = subst (λ (x : Result (List ℕ) UnpackError). Says dynamic packed x) e (says_by dynamic packed (runs_of packed) fits refl)

-- ---- the parts

-- a form, and its parts
pub record AreParted (story : LoadedStory) (bytes : List ℕ) (cs : List Chunk) (p : Parts) : Type 0 where
  pub form : IsForm bytes cs
  pub parts : ArePartsOf cs p
  pub fits : IsBytes bytes

abbrev HasBytes : Chunk → Type 0
HasBytes c = IsBytes c.contents

bytes_of : (bytes : List ℕ) (cs : List Chunk) (id : ℕ) (c : Chunk) → IsForm bytes cs → IsBytes bytes → of_kind id cs ≡ c ∷ [] → IsBytes c.contents
bytes_of bytes cs id c form fits e = of_the_one HasBytes id cs c (fits_cut (drop 12 bytes) cs (IsBytes-drop 12 bytes fits) (cut_behind bytes cs form.are)) e

pub header_long : (story : LoadedStory) (bytes : List ℕ) (cs : List Chunk) (p : Parts) → AreParted story bytes cs p → length p.header ≡ 13
header_long story bytes cs p is = (of_the_one IsChunk IFHD cs _ is.form.are.each is.parts.header).header refl

pub packed_short : (story : LoadedStory) (bytes : List ℕ) (cs : List Chunk) (p : Parts) → AreParted story bytes cs p → length p.packed < 4294967296
packed_short story bytes cs p is = (of_the_one IsChunk CMEM cs _ is.form.are.each is.parts.compressed).size

header_fits : (story : LoadedStory) (bytes : List ℕ) (cs : List Chunk) (p : Parts) → AreParted story bytes cs p → IsBytes p.header
header_fits story bytes cs p is = bytes_of bytes cs IFHD _ is.form is.fits is.parts.header

packed_fits : (story : LoadedStory) (bytes : List ℕ) (cs : List Chunk) (p : Parts) → AreParted story bytes cs p → IsBytes p.packed
packed_fits story bytes cs p is = bytes_of bytes cs CMEM _ is.form is.fits is.parts.compressed

stacks_fit : (story : LoadedStory) (bytes : List ℕ) (cs : List Chunk) (p : Parts) → AreParted story bytes cs p → IsBytes p.stacks
stacks_fit story bytes cs p is = bytes_of bytes cs STKS _ is.form is.fits is.parts.stacks

-- a memory is there once, and compressed
never_twice : (ms ks : List Chunk) (k : Chunk) → ms ≡ [] → ks ≡ k ∷ [] → ¬ ((1 < length ks) ⊎ ((¬ (ms ≡ [])) × (¬ (ks ≡ []))))
never_twice ms ks k none one (inl e) = omega (arith, e, ap (λ (x : List Chunk). length x) one)
never_twice ms ks k none one (inr e) = e.0 none

below_6 : (story : LoadedStory) (bytes : List ℕ) (cs : List Chunk) (p : Parts) → AreParted story bytes cs p → NoneBelow (IsCause story bytes) 6
below_6 story bytes cs p is =
    let causes = IsCause story bytes in
    let once : ¬ RepeatsPart cs = λ r. elim r [
      | inl e ↦ is.form.single e
      | inr e ↦ never_twice (of_kind UMEM cs) (of_kind CMEM cs) (packed_chunk p.packed) is.parts.plain is.parts.compressed e
    ] in
    let under = one_further causes errors.ChunkTwice (below_4 story bytes cs is.form) (flawless story bytes cs errors.ChunkTwice is.form.are once) in
    one_further causes errors.Plain under (flawless story bytes cs errors.Plain is.form.are is.form.packed)

below_7 : (story : LoadedStory) (bytes : List ℕ) (cs : List Chunk) (p : Parts) → AreParted story bytes cs p → is_of story p.header ≡ true → NoneBelow (IsCause story bytes) 7
below_7 story bytes cs p is of_it =
    let holds = one_has (NamesStory story) (of_kind IFHD cs) _ is.parts.header (names_it story p.header (header_long story bytes cs p is) (header_fits story bytes cs p is) of_it) in
    one_further (IsCause story bytes) errors.OtherStory (below_6 story bytes cs p is) (flawless story bytes cs errors.OtherStory is.form.are (λ fails. fails holds))

below_8 : (story : LoadedStory) (bytes : List ℕ) (cs : List Chunk) (p : Parts) → AreParted story bytes cs p → is_of story p.header ≡ true → IsFinished p.packed → NoneBelow (IsCause story bytes) 8
below_8 story bytes cs p is of_it whole =
    let holds = one_has IsFinished (of_kind CMEM cs) _ is.parts.compressed whole in
    one_further (IsCause story bytes) errors.Unfinished (below_7 story bytes cs p is of_it) (flawless story bytes cs errors.Unfinished is.form.are (λ fails. fails holds))

below_9 : (story : LoadedStory) (bytes : List ℕ) (cs : List Chunk) (p : Parts) → AreParted story bytes cs p → is_of story p.header ≡ true → IsFinished p.packed → FitsIn (dynamic_of story) p.packed → NoneBelow (IsCause story bytes) 9
below_9 story bytes cs p is of_it whole fit =
    let holds = one_has (FitsIn (dynamic_of story)) (of_kind CMEM cs) _ is.parts.compressed fit in
    one_further (IsCause story bytes) errors.TooLong (below_8 story bytes cs p is of_it whole) (flawless story bytes cs errors.TooLong is.form.are (λ fails. fails holds))

bound : (fs : List Frame) → AreFrames fs → length (frames_bytes fs) ≤ 537149476
bound [] are = absurd are
bound (f ∷ fs) are = let b = frames_bound (f ∷ fs) are.1 in omega (arith, b, are.2)

-- frames have no more bytes than that
pub frames_short : (stacks : List ℕ) → TellsFrames stacks → length stacks ≤ 537149476
frames_short stacks t = let few = bound t.frames t.are in omega (arith, few, ap (λ (x : List ℕ). length x) t.spelled)

frames_lowest : (story : LoadedStory) (bytes : List ℕ) (cs : List Chunk) (p : Parts) → AreParted story bytes cs p → is_of story p.header ≡ true → (memory : List ℕ) → unpacked (dynamic_of story) p.packed ≡ Ok memory → ¬ TellsFrames p.stacks → IsLowest (IsCause story bytes) errors.Frames
frames_lowest story bytes cs p is of_it memory e fails =
    let known = says (dynamic_of story) p.packed (Ok memory) (packed_fits story bytes cs p is) e in
    let flaw = one_lacks TellsFrames (of_kind STKS cs) _ is.parts.stacks fails in
    record { holds = record { chunks = cs; are = is.form.are; flaw = flaw }; lowest = below_9 story bytes cs p is of_it known.0 known.1 }

which : (dynamic : List ℕ) (o : Option (List Run)) (e : UnpackError) → unpacked_by dynamic o ≡ Err e → (e ≡ errors.Unfinished) ⊎ (e ≡ errors.TooLong)
which dynamic None e f = inl (failed_is e errors.Unfinished (sym f))
which dynamic (Some runs) e f =
    elim (cases_Bool (nat_le (length (runs_differences runs)) (length dynamic))) [
      | inl few ↦ absurd (let g : good (changed dynamic (runs_differences runs)) ≡ Err e = rw few at f in cc)
      | inr many ↦ inr (failed_is e errors.TooLong (sym (rw many at f)))
    ]

-- memory that isn't unpacked
pub argues : (story : LoadedStory) (p : Parts) (e : UnpackError) → is_of story p.header ≡ true → unpacked (dynamic_of story) p.packed ≡ Err e → ArgueAgainst story p e
argues story p e named f =
    elim (which (dynamic_of story) (runs_of p.packed) e f) [
      | inl same ↦ rw same (named, f ∙ ap bad same)
      | inr same ↦ rw same (named, f ∙ ap bad same)
    ]

-- what is argued against parts is the lowest refusal
pub argued : (story : LoadedStory) (bytes : List ℕ) (cs : List Chunk) (p : Parts) (e : UnpackError) → AreParted story bytes cs p → ArgueAgainst story p e → IsRefused (IsCause story bytes) e
argued story bytes cs p errors.OtherStory is a =
    let flaw = one_lacks (NamesStory story) (of_kind IFHD cs) _ is.parts.header (names_other story p.header a) in
    record { holds = record { chunks = cs; are = is.form.are; flaw = flaw }; lowest = below_6 story bytes cs p is }
argued story bytes cs p errors.Unfinished is a =
    let fails = says (dynamic_of story) p.packed (Err errors.Unfinished) (packed_fits story bytes cs p is) a.1 in
    let flaw = one_lacks IsFinished (of_kind CMEM cs) _ is.parts.compressed fails in
    record { holds = record { chunks = cs; are = is.form.are; flaw = flaw }; lowest = below_7 story bytes cs p is a.0 }
argued story bytes cs p errors.TooLong is a =
    let known = says (dynamic_of story) p.packed (Err errors.TooLong) (packed_fits story bytes cs p is) a.1 in
    let flaw = one_lacks (FitsIn (dynamic_of story)) (of_kind CMEM cs) _ is.parts.compressed known.1 in
    record { holds = record { chunks = cs; are = is.form.are; flaw = flaw }; lowest = below_8 story bytes cs p is a.0 known.0 }
argued story bytes cs p errors.Frames is a =
    frames_lowest story bytes cs p is a.0 _ a.1.0 (λ t. let few = frames_short p.stacks t in omega (arith, few, a.1.1))
argued story bytes cs p errors.NotForm is a = absurd a
argued story bytes cs p errors.Length is a = absurd a
argued story bytes cs p errors.ChunkMissing is a = absurd a
argued story bytes cs p errors.ChunkTwice is a = absurd a
argued story bytes cs p errors.Plain is a = absurd a
argued story bytes cs p errors.OutOfMemory is a = absurd a

-- ---- taking the parts

abbrev Whole : List Chunk → Type 0
Whole cs = (¬ LacksChunk cs) × (¬ RepeatsChunk cs) × (¬ IsMissing CMEM cs)

judged_so : (body : List ℕ) (cs : List Chunk) → IsJudged body → IsCut body cs → Whole cs
judged_so body cs is cut = subst (λ (x : List Chunk). Whole x) (one_cut body is.chunks cs is.cut cut) (is.whole, is.single, is.packed)

there : (d : List ℕ) (cs : List Chunk) → the_only cs ≡ Some d → ¬ (cs ≡ [])
there d cs e none = let f = ap the_only (sym none) ∙ e in cc

-- what an answer that may be there says of what is due
pub some_due : {X Y : Type 0} (view : X → Y) (o : Option X) (due : Option Y) → GivesSome view o due → is_some o ≡ true → (y : Y) × (due ≡ Some y)
some_due view None due gives e = absurd cc
some_due view (Some x) due gives e = (view x, gives)

pub none_due : {X Y : Type 0} (view : X → Y) (o : Option X) (due : Option Y) → GivesSome view o due → is_some o ≡ false → due ≡ None
none_due view None due gives e = gives
none_due view (Some x) due gives e = absurd cc

-- a plain memory is there
pub both_there : (body d : List ℕ) (cs : List Chunk) → IsJudged body → IsCut body cs → the_only (of_kind UMEM cs) ≡ Some d → RepeatsPart cs
both_there body d cs is cut e = inr (inr (there d (of_kind UMEM cs) e, (judged_so body cs is cut).2))

no_plain : (cs : List Chunk) → Whole cs → the_only (of_kind UMEM cs) ≡ None → of_kind UMEM cs ≡ []
no_plain cs is e = elim (one_or (of_kind UMEM cs) e) [
  | inl none ↦ none
  | inr many ↦ absurd (is.1 (inr (inr many)))
]

pub packed_twice : (body : List ℕ) (cs : List Chunk) → IsJudged body → IsCut body cs → the_only (of_kind CMEM cs) ≡ None → RepeatsPart cs
packed_twice body cs is cut e = elim (one_or (of_kind CMEM cs) e) [
  | inl none ↦ absurd ((judged_so body cs is cut).2 none)
  | inr many ↦ inr (inl many)
]

pub parts_so : (body : List ℕ) (p : Parts) (cs : List Chunk) → IsJudged body → IsCut body cs → the_only (of_kind UMEM cs) ≡ None → the_only (of_kind IFHD cs) ≡ Some p.header → the_only (of_kind CMEM cs) ≡ Some p.packed → the_only (of_kind STKS cs) ≡ Some p.stacks
    → ArePartsOf cs p
parts_so body p cs is cut e f g h = record {
  header = single_is IFHD p.header cs f;
  compressed = single_is CMEM p.packed cs g;
  plain = no_plain cs (judged_so body cs is cut) e;
  stacks = single_is STKS p.stacks cs h;
}

-- a part that is there twice is the lowest
pub twice : (story : LoadedStory) (bytes : List ℕ) (cs : List Chunk) → IsForm bytes cs → RepeatsPart cs → IsLowest (IsCause story bytes) errors.ChunkTwice
twice story bytes cs is flaw = record { holds = record { chunks = cs; are = is.are; flaw = flaw }; lowest = below_4 story bytes cs is }

-- memory that was refused
pub no_memory : (story : LoadedStory) (bytes : List ℕ) (cs : List Chunk) (p : Parts) → AreParted story bytes cs p → AreTaken story p → NoneBelow (IsCause story bytes) 9
no_memory story bytes cs p is taken =
    let known = says (dynamic_of story) p.packed (Ok (changed (dynamic_of story) (told p.packed))) (packed_fits story bytes cs p is) taken.unpacks in
    below_9 story bytes cs p is taken.named known.0 known.1

-- ---- what is made

abbrev pub saved_by : LoadedStory → Parts → List Frame → Saved
saved_by story p fs = record { memory = changed (dynamic_of story) (told p.packed); place = big_number 3 (drop 10 p.header); frames = fs }

-- dynamic memory is as long as the story says
pub dynamic_long : (story : LoadedStory) → IsSound story.memory → length (dynamic_of story) ≡ static_base story
dynamic_long story sound = let within = sound.static_base_within in omega (arith, length-take (static_base story) story.memory, within)

is_saved : (story : LoadedStory) (bytes : List ℕ) (cs : List Chunk) (p : Parts) (fs : List Frame) → AreParted story bytes cs p → IsSound story.memory → AreFrames fs → IsSaved story (saved_by story p fs)
is_saved story bytes cs p fs is sound are = record {
  memory = length-changed (dynamic_of story) (told p.packed) ∙ dynamic_long story sound;
  place = number_fits 3 (drop 10 p.header) (IsBytes-drop 10 p.header (header_fits story bytes cs p is));
  frames = are;
}

equal_unless : (a b : ℕ) → ¬ (a ≢ b) → a ≡ b
equal_unless a b none =
    elim (cases_Bool (a == b)) [
      | inl same ↦ eqb-true a b same
      | inr other ↦ absurd (none (eqb-false a b other))
    ]

three : (a b c rest : List ℕ) → a ++ (b ++ (c ++ rest)) ≡ a ++ b ++ c ++ rest
three a b c rest = simp append_assoc

pub record IsSpelled (bytes : List ℕ) (cs : List Chunk) : Type 0 where
  pub spelled : bytes ≡ form_bytes cs
  pub short : length bytes < 2 ^ 32 + 8

-- a form is its chunks
form_spelled : (bytes : List ℕ) (cs : List Chunk) → IsBytes bytes → AreChunksOf bytes cs → ¬ IsNoForm bytes → ¬ HasWrongLength bytes → IsSpelled bytes cs
form_spelled bytes cs fits are none right =
    let long = long_enough bytes none in
    let rest = flat_map chunk_bytes cs in
    let form : big_number 4 bytes ≡ FORM = equal_unless (big_number 4 bytes) FORM (λ e. none (inr (inl e))) in
    let kind : big_number 4 (drop 8 bytes) ≡ IFZS = equal_unless (big_number 4 (drop 8 bytes)) IFZS (λ e. none (inr (inr e))) in
    let size : big_number 4 (drop 4 bytes) + 8 ≡ length bytes = equal_unless (big_number 4 (drop 4 bytes) + 8) (length bytes) (λ e. right (inl e)) in
    let total : length (drop 12 bytes) ≡ length rest = ap (λ (x : List ℕ). length x) are.spelled in
    let count : big_number 4 (drop 4 bytes) ≡ 4 + length rest = omega (arith, size, total, long, length-drop 12 bytes) in
    let first : bytes ≡ big_bytes 4 (big_number 4 bytes) ++ drop 4 bytes = front_4 bytes (omega (arith, long)) fits in
    let second : drop 4 bytes ≡ big_bytes 4 (big_number 4 (drop 4 bytes)) ++ drop 4 (drop 4 bytes) = front_4 (drop 4 bytes) (omega (arith, long, length-drop 4 bytes)) (IsBytes-drop 4 bytes fits) in
    let third : drop 8 bytes ≡ big_bytes 4 (big_number 4 (drop 8 bytes)) ++ drop 4 (drop 8 bytes) = front_4 (drop 8 bytes) (omega (arith, long, length-drop 8 bytes)) (IsBytes-drop 8 bytes fits) in
    let at_8 : drop 4 (drop 4 bytes) ≡ drop 8 bytes = drop-drop 4 4 bytes in
    let at_12 : drop 4 (drop 8 bytes) ≡ rest = drop-drop 4 8 bytes ∙ are.spelled in
    let behind : drop 8 bytes ≡ big_bytes 4 IFZS ++ rest = third ∙ ap (λ (i : ℕ). big_bytes 4 i ++ drop 4 (drop 8 bytes)) kind ∙ ap (λ (t : List ℕ). big_bytes 4 IFZS ++ t) at_12 in
    let middle : drop 4 bytes ≡ big_bytes 4 (4 + length rest) ++ (big_bytes 4 IFZS ++ rest) = second ∙ ap (λ (i : ℕ). big_bytes 4 i ++ drop 4 (drop 4 bytes)) count ∙ ap (λ (t : List ℕ). big_bytes 4 (4 + length rest) ++ t) (at_8 ∙ behind) in
    let whole : bytes ≡ big_bytes 4 FORM ++ (big_bytes 4 (4 + length rest) ++ (big_bytes 4 IFZS ++ rest)) = first ∙ ap (λ (i : ℕ). big_bytes 4 i ++ drop 4 bytes) form ∙ ap (λ (t : List ℕ). big_bytes 4 FORM ++ t) middle in
    let below : big_number 4 (drop 4 bytes) < 2 ^ 32 = number_fits 4 (drop 4 bytes) (IsBytes-drop 4 bytes fits) in
    record {
      spelled = whole ∙ three (big_bytes 4 FORM) (big_bytes 4 (4 + length rest)) (big_bytes 4 IFZS) rest;
      short = omega (arith, below, size);
    }

-- with frames a compressed save tells what is made of it
packed_as : (story : LoadedStory) (bytes : List ℕ) (cs : List Chunk) (p : Parts) (fs : List Frame) → AreParted story bytes cs p → AreTaken story p → p.stacks ≡ frames_bytes fs → AreFrames fs → PackedAs story bytes (saved_by story p fs)
packed_as story bytes cs p fs is taken stacks are =
    let sound = taken.sound in
    let h = p.header in
    let fits = header_fits story bytes cs p is in
    let long = header_long story bytes cs p is in
    let o : Origin = record { release = big_number 2 h; serial = slice_range h 2 8; checksum = big_number 2 (drop 8 h) } in
    let place = big_number 3 (drop 10 h) in
    let header : h ≡ header_bytes o place = header_takes h long fits in
    let text = form_spelled bytes cs is.fits is.form.are is.form.form is.form.count in
    let chunk : ℕ → List ℕ → List Chunk = λ id d. record { id = id; contents = d } ∷ [] in
    record {
      chunks = cs;
      origin = o;
      packed = p.packed;
      spelled = text.spelled;
      short = text.short;
      each = is.form.are.each;
      early = λ late. is.form.whole (inr (inr (inr late)));
      header = is.parts.header ∙ ap (chunk IFHD) header;
      compressed = is.parts.compressed;
      plain = is.parts.plain;
      stacks = is.parts.stacks ∙ ap (chunk STKS) stacks;
      packs = unpacked_takes (dynamic_of story) p.packed (changed (dynamic_of story) (told p.packed)) (packed_fits story bytes cs p is) taken.unpacks;
      is_origin = record { release = number_fits 2 h fits; serial = six_long h long; checksum = number_fits 2 (drop 8 h) (IsBytes-drop 8 h fits) };
      names = named story h taken.named;
      saved = is_saved story bytes cs p fs is sound are;
    }

-- what is made, and what is read of it
pub record IsMade (story : LoadedStory) (bytes text : List ℕ) (s : Saved) : Type 0 where
  pub tells : PackedAs story bytes s
  pub text_is : text ≡ save_text (origin_of story) s
  pub reads : reading story text ≡ Ok s

made : (story : LoadedStory) (bytes : List ℕ) (cs : List Chunk) (p : Parts) (fs : List Frame) → AreParted story bytes cs p → AreTaken story p → frames_of p.stacks ≡ Ok fs → IsMade story bytes (plain_bytes story p) (saved_by story p fs)
made story bytes cs p fs is taken e =
    let sound = taken.sound in
    let t = frames_of_takes p.stacks fs (stacks_fit story bytes cs p is) e in
    let s = saved_by story p fs in
    let saved = is_saved story bytes cs p fs is sound t.2 in
    let same : plain_bytes story p ≡ save_text (origin_of story) s = ap (λ (d : List ℕ). plain_bytes story (record { header = p.header; packed = p.packed; stacks = d })) t.1 in
    record {
      tells = packed_as story bytes cs p fs is taken t.1 t.2;
      text_is = same;
      reads = ap (reading story) same ∙ again story (save_text (origin_of story) s) s (written story s sound saved);
    }

-- the stacks are those of what is made
no_save : (story : LoadedStory) (bytes : List ℕ) (cs : List Chunk) (p : Parts) → AreChunksOf (plain_bytes story p) (plain_chunks story p) → ¬ TellsFrames p.stacks → IsSaveCause story (plain_bytes story p) saves.Frames
no_save story bytes cs p are fails = record { chunks = plain_chunks story p; are = are; flaw = λ all. fails all.0 }

plain_are : (story : LoadedStory) (bytes : List ℕ) (cs : List Chunk) (p : Parts) → AreParted story bytes cs p → AreTaken story p → AreChunksOf (plain_bytes story p) (plain_chunks story p)
plain_are story bytes cs p is taken =
    let sound = taken.sound in
    let six : length (origin_of story).serial ≡ 6 = omega (arith, length-take 6 (drop 0x12 story.memory), length-drop 0x12 story.memory, sound.least_length) in
    let head = saved_header_long (origin_of story) (big_number 3 (drop 10 p.header)) six in
    let long = length-changed (dynamic_of story) (told p.packed) ∙ dynamic_long story sound in
    record {
      spelled = refl;
      each = (
        record { id = omega arith; size = omega (arith, head); header = λ e. head },
        (
          record { id = omega arith; size = omega (arith, long, sound.static_base_within, sound.greatest_length); header = λ e. absurd (omega (arith, e)) },
          (record { id = omega arith; size = omega (arith, taken.short); header = λ e. absurd (omega (arith, e)) }, tt),
        ),
      );
    }

abbrev Answers : LoadedStory → List ℕ → List ℕ → Result Saved SaveError → Type 0
Answers story bytes text (Ok s) = IsMade story bytes text s
Answers story bytes text (Err e) = IsLowest (IsCause story bytes) errors.Frames

answers_by : (story : LoadedStory) (bytes : List ℕ) (cs : List Chunk) (p : Parts) (r : Result Saved SaveError) (q : Result (List Frame) SaveError) → AreParted story bytes cs p → AreTaken story p → r ≡ reading story (plain_bytes story p) → OnOk r (HasNoneOfSave (IsSaveCause story (plain_bytes story p))) → frames_of p.stacks ≡ q → Answers story bytes (plain_bytes story p) r
answers_by story bytes cs p r (Ok fs) is taken e none f =
    let m = made story bytes cs p fs is taken f in
    subst (λ (x : Result Saved SaveError). Answers story bytes (plain_bytes story p) x) (sym (e ∙ m.reads)) m
answers_by story bytes cs p (Ok s) (Err d) is taken e none f =
    absurd (none saves.Frames (no_save story bytes cs p (plain_are story bytes cs p is taken) (no_frames p.stacks d f)))
answers_by story bytes cs p (Err g) (Err d) is taken e none f =
    frames_lowest story bytes cs p is taken.named _ taken.unpacks (no_frames p.stacks d f)

pub answers : (story : LoadedStory) (bytes : List ℕ) (cs : List Chunk) (p : Parts) (r : Result Saved SaveError) → AreParted story bytes cs p → AreTaken story p → r ≡ reading story (plain_bytes story p) → OnOk r (HasNoneOfSave (IsSaveCause story (plain_bytes story p))) → Answers story bytes (plain_bytes story p) r
answers story bytes cs p r is taken e none = answers_by story bytes cs p r (frames_of p.stacks) is taken e none refl

-- ---- what a compressed save is

no_form : (cs : List Chunk) → ¬ IsNoForm (form_bytes cs)
no_form cs (inl short) = omega (arith, short)
no_form cs (inr (inl other)) = other (number_again 4 FORM (big_bytes 4 (4 + length (flat_map chunk_bytes cs)) ++ (big_bytes 4 IFZS ++ flat_map chunk_bytes cs)) (omega arith))
no_form cs (inr (inr other)) = other (number_again 4 IFZS (flat_map chunk_bytes cs) (omega arith))

count_right : (cs : List Chunk) → length (form_bytes cs) < 2 ^ 32 + 8 → big_number 4 (drop 4 (form_bytes cs)) + 8 ≡ length (form_bytes cs)
count_right cs short =
    let size = 4 + length (flat_map chunk_bytes cs) in
    let total : size + 8 ≡ length (form_bytes cs) = omega arith in
    let read : big_number 4 (drop 4 (form_bytes cs)) ≡ size = number_again 4 size (big_bytes 4 IFZS ++ flat_map chunk_bytes cs) (omega (arith, short)) in
    ap (λ (x : ℕ). x + 8) read ∙ total

chunks_right : (cs : List Chunk) → AllByRecursion IsChunk cs → AreChunksOf (form_bytes cs) cs
chunks_right cs each = record { spelled = refl; each = each }

packed_form : (story : LoadedStory) (bytes : List ℕ) (s : Saved) (is : PackedAs story bytes s) → AreChunksOf bytes is.chunks
packed_form story bytes s is = subst (λ (x : List ℕ). AreChunksOf x is.chunks) (sym is.spelled) (chunks_right is.chunks is.each)

right_length : (bytes : List ℕ) (cs : List Chunk) → AreChunksOf bytes cs → big_number 4 (drop 4 bytes) + 8 ≡ length bytes → ¬ HasWrongLength bytes
right_length bytes cs are count (inl e) = e count
right_length bytes cs are count (inr e) = e cs are

lacks_none : (late : Type 0) (hs ss ms ks : List Chunk) (h s k : Chunk) → hs ≡ h ∷ [] → ss ≡ s ∷ [] → ks ≡ k ∷ [] → ¬ late → ¬ ((hs ≡ []) ⊎ ((ss ≡ []) ⊎ (((ms ≡ []) × (ks ≡ [])) ⊎ late)))
lacks_none late hs ss ms ks h s k a b c d (inl e) = let f = sym a ∙ e in cc
lacks_none late hs ss ms ks h s k a b c d (inr (inl e)) = let f = sym b ∙ e in cc
lacks_none late hs ss ms ks h s k a b c d (inr (inr (inl e))) = let f = sym c ∙ e.1 in cc
lacks_none late hs ss ms ks h s k a b c d (inr (inr (inr e))) = d e

repeats_none : (hs ss ms : List Chunk) (h s : Chunk) → hs ≡ h ∷ [] → ss ≡ s ∷ [] → ms ≡ [] → ¬ ((1 < length hs) ⊎ ((1 < length ss) ⊎ (1 < length ms)))
repeats_none hs ss ms h s a b c (inl e) = omega (arith, e, ap (λ (x : List Chunk). length x) a)
repeats_none hs ss ms h s a b c (inr (inl e)) = omega (arith, e, ap (λ (x : List Chunk). length x) b)
repeats_none hs ss ms h s a b c (inr (inr e)) = omega (arith, e, ap (λ (x : List Chunk). length x) c)

form_is : (story : LoadedStory) (bytes : List ℕ) (s : Saved) (is : PackedAs story bytes s) → IsForm bytes is.chunks
form_is story bytes s is =
    let cs = is.chunks in
    let are = packed_form story bytes s is in
    let short = subst (λ (x : List ℕ). length x < 2 ^ 32 + 8) is.spelled is.short in
    let count = subst (λ (x : List ℕ). big_number 4 (drop 4 x) + 8 ≡ length x) (sym is.spelled) (count_right cs short) in
    record {
      are = are;
      form = subst (λ (x : List ℕ). ¬ IsNoForm x) (sym is.spelled) (no_form cs);
      count = right_length bytes cs are count;
      whole = lacks_none (IsLate cs) (of_kind IFHD cs) (of_kind STKS cs) (of_kind UMEM cs) (of_kind CMEM cs) _ _ _ is.header is.stacks is.compressed is.early;
      single = repeats_none (of_kind IFHD cs) (of_kind STKS cs) (of_kind UMEM cs) _ _ is.header is.stacks is.plain;
      packed = λ e. let f = sym is.compressed ∙ e in cc;
    }

parts_are : (story : LoadedStory) (bytes : List ℕ) (s : Saved) (is : PackedAs story bytes s) → ArePartsOf is.chunks (record { header = header_bytes is.origin s.place; packed = is.packed; stacks = frames_bytes s.frames })
parts_are story bytes s is = record { header = is.header; compressed = is.compressed; plain = is.plain; stacks = is.stacks }

-- what a compressed save tells of its parts
parts_named : (story : LoadedStory) (bytes : List ℕ) (s : Saved) (is : PackedAs story bytes s) → is_of story (header_bytes is.origin s.place) ≡ true
parts_named story bytes s is = of_story story (header_bytes is.origin s.place) is.origin s.place (header_again is.origin s.place is.is_origin is.saved.place) is.names

nothing_else : (story : LoadedStory) (bytes : List ℕ) → NoneBelow (IsCause story bytes) 10 → HasNone (IsCause story bytes)
nothing_else story bytes under errors.OutOfMemory = λ f. f.flaw
nothing_else story bytes under errors.NotForm = under errors.NotForm (omega arith)
nothing_else story bytes under errors.Length = under errors.Length (omega arith)
nothing_else story bytes under errors.ChunkMissing = under errors.ChunkMissing (omega arith)
nothing_else story bytes under errors.ChunkTwice = under errors.ChunkTwice (omega arith)
nothing_else story bytes under errors.Plain = under errors.Plain (omega arith)
nothing_else story bytes under errors.OtherStory = under errors.OtherStory (omega arith)
nothing_else story bytes under errors.Unfinished = under errors.Unfinished (omega arith)
nothing_else story bytes under errors.TooLong = under errors.TooLong (omega arith)
nothing_else story bytes under errors.Frames = under errors.Frames (omega arith)

-- nothing speaks against it
pub packed_free : (story : LoadedStory) (bytes : List ℕ) (s : Saved) → IsBytes bytes → PackedAs story bytes s → HasNone (IsCause story bytes)
packed_free story bytes s fits is =
    let p : Parts = record { header = header_bytes is.origin s.place; packed = is.packed; stacks = frames_bytes s.frames } in
    let cs = is.chunks in
    let parted : AreParted story bytes cs p = record { form = form_is story bytes s is; parts = parts_are story bytes s is; fits = fits } in
    let unpacks = unpacked_again (dynamic_of story) is.packed s.memory is.packs in
    let known = says (dynamic_of story) is.packed (Ok s.memory) (packed_fits story bytes cs p parted) unpacks in
    let under = below_9 story bytes cs p parted (parts_named story bytes s is) known.0 known.1 in
    let tells : TellsFrames (frames_bytes s.frames) = record { frames = s.frames; spelled = refl; are = is.saved.frames } in
    let holds = one_has TellsFrames (of_kind STKS cs) _ parted.parts.stacks tells in
    nothing_else story bytes (one_further (IsCause story bytes) errors.Frames under (flawless story bytes cs errors.Frames parted.form.are (λ fails. fails holds)))

-- so a refusal of it is for want of memory
pub refused_free : (causes : UnpackError → Type 0) (e : UnpackError) → HasNone causes → IsRefused causes e → e ≡ errors.OutOfMemory
refused_free causes errors.OutOfMemory none is = refl
refused_free causes errors.NotForm none is = absurd (none errors.NotForm is.holds)
refused_free causes errors.Length none is = absurd (none errors.Length is.holds)
refused_free causes errors.ChunkMissing none is = absurd (none errors.ChunkMissing is.holds)
refused_free causes errors.ChunkTwice none is = absurd (none errors.ChunkTwice is.holds)
refused_free causes errors.Plain none is = absurd (none errors.Plain is.holds)
refused_free causes errors.OtherStory none is = absurd (none errors.OtherStory is.holds)
refused_free causes errors.Unfinished none is = absurd (none errors.Unfinished is.holds)
refused_free causes errors.TooLong none is = absurd (none errors.TooLong is.holds)
refused_free causes errors.Frames none is = absurd (none errors.Frames is.holds)

-- ---- in one way

same_frames : (fs gs : List Frame) → AreFrames fs → AreFrames gs → frames_bytes fs ≡ frames_bytes gs → fs ≡ gs
same_frames fs gs a b e =
    let both : Ok fs ≡ Ok gs = sym (frames_of_again fs a) ∙ ap frames_of e ∙ frames_of_again gs b in
    ok_is fs gs both

abbrev first_data : List Chunk → List ℕ
first_data [] = []
first_data (c ∷ cs) = c.contents

same_data : (i : ℕ) (a b : List ℕ) (cs : List Chunk) → cs ≡ record { id = i; contents = a } ∷ [] → cs ≡ record { id = i; contents = b } ∷ [] → a ≡ b
same_data i a b cs e f = ap first_data (sym e ∙ f)

abbrev telling : List ℕ → ℕ → List Frame → Saved
telling m p fs = record { memory = m; place = p; frames = fs }

same_saved : (m n : List ℕ) (p q : ℕ) (fs gs : List Frame) → m ≡ n → p ≡ q → fs ≡ gs → telling m p fs ≡ telling n q gs
same_saved m n p q fs gs e f g = rw (e, f, g) refl

same_memory : (r : Result (List ℕ) UnpackError) (m n : List ℕ) → r ≡ Ok m → r ≡ Ok n → m ≡ n
same_memory r m n e f = cc

pub one : (story : LoadedStory) (bytes : List ℕ) (s t : Saved) → PackedAs story bytes s → PackedAs story bytes t → s ≡ t
one story bytes s t a b =
    let chunks : b.chunks ≡ a.chunks = one_way bytes b.chunks a.chunks (packed_form story bytes t b) (packed_form story bytes s a) in
    let moved : (id : ℕ) → of_kind id a.chunks ≡ of_kind id b.chunks = λ id. ap (of_kind id) (sym chunks) in
    let headers = same_data IFHD (header_bytes a.origin s.place) (header_bytes b.origin t.place) (of_kind IFHD a.chunks) a.header (moved IFHD ∙ b.header) in
    let packs = same_data CMEM a.packed b.packed (of_kind CMEM a.chunks) a.compressed (moved CMEM ∙ b.compressed) in
    let stacks = same_data STKS (frames_bytes s.frames) (frames_bytes t.frames) (of_kind STKS a.chunks) a.stacks (moved STKS ∙ b.stacks) in
    let h = header_again a.origin s.place a.is_origin a.saved.place in
    let g = header_again b.origin t.place b.is_origin b.saved.place in
    let place : s.place ≡ t.place = sym h.place_is ∙ ap (λ (x : List ℕ). big_number 3 (drop 10 x)) headers ∙ g.place_is in
    let memory : s.memory ≡ t.memory = same_memory (unpacked (dynamic_of story) a.packed) s.memory t.memory (unpacked_again (dynamic_of story) a.packed s.memory a.packs) (ap (unpacked (dynamic_of story)) packs ∙ unpacked_again (dynamic_of story) b.packed t.memory b.packs) in
    same_saved s.memory t.memory s.place t.place s.frames t.frames memory place (same_frames s.frames t.frames a.saved.frames b.saved.frames stacks)

-- ---- what is written

four_joined : (old a b c d : List ℕ) → ((old ++ (a ++ b)) ++ c) ++ d ≡ old ++ (a ++ b ++ c ++ d)
four_joined old a b c d = simp append_assoc

pub plain_chunk : (old dynamic m : List ℕ) (id : ℕ) → length m ≡ length dynamic → ((old ++ (big_bytes 4 id ++ big_bytes 4 (length dynamic))) ++ m) ++ replicate (length dynamic % 2) 0 ≡ old ++ chunk_bytes (record { id = id; contents = m })
plain_chunk old dynamic m id e = rw e (four_joined old (big_bytes 4 id) (big_bytes 4 (length dynamic)) m (replicate (length dynamic % 2) 0))

three_joined : (old f k a b c : List ℕ) → ((((old ++ f) ++ k) ++ a) ++ b) ++ c ≡ old ++ (f ++ k ++ (a ++ (b ++ (c ++ []))))
three_joined old f k a b c = simp (append_assoc, append-nil)

pub text_made : (old : List ℕ) (story : LoadedStory) (p : Parts) (body : ℕ) → body ≡ length (flat_map chunk_bytes (plain_chunks story p))
    → ((((old ++ (big_bytes 4 FORM ++ big_bytes 4 (4 + body))) ++ big_bytes 4 IFZS) ++ chunk_bytes (plain_header story p)) ++ chunk_bytes (plain_memory story p)) ++ chunk_bytes (plain_stacks p) ≡ old ++ plain_bytes story p
text_made old story p body e =
    let a = chunk_bytes (plain_header story p) in
    let b = chunk_bytes (plain_memory story p) in
    let c = chunk_bytes (plain_stacks p) in
    ap (λ (n : ℕ). ((((old ++ (big_bytes 4 FORM ++ big_bytes 4 (4 + n))) ++ big_bytes 4 IFZS) ++ a) ++ b) ++ c) e
    ∙ three_joined old (big_bytes 4 FORM ++ big_bytes 4 (4 + length (flat_map chunk_bytes (plain_chunks story p)))) (big_bytes 4 IFZS) a b c

length_three : (a b c : List ℕ) → length (a ++ (b ++ (c ++ []))) ≡ length a + length b + length c
length_three a b c = omega (arith, length-append a (b ++ (c ++ [])), length-append b (c ++ []), length-append {A = ℕ} c [])

chunk_long : (c : Chunk) (n : ℕ) → length c.contents ≡ n → length (chunk_bytes c) ≡ 8 + n + n % 2
chunk_long c n e = length-chunk c ∙ ap (λ (k : ℕ). 8 + k + k % 2) e

summed : (a b c d s : ℕ) → a ≡ 22 → b ≡ 8 + d + d % 2 → c ≡ 8 + s + s % 2 → a + b + c ≡ 38 + d + d % 2 + s + s % 2
summed a b c d s e f g = omega (arith, e, f, g)

pub body_is : (story : LoadedStory) (p : Parts) (d : ℕ) → IsSound story.memory → length (dynamic_of story) ≡ d → length (flat_map chunk_bytes (plain_chunks story p)) ≡ 38 + d + d % 2 + length p.stacks + length p.stacks % 2
body_is story p d sound long =
    let six : length (origin_of story).serial ≡ 6 = omega (arith, length-take 6 (drop 0x12 story.memory), length-drop 0x12 story.memory, sound.least_length) in
    let head = saved_header_long (origin_of story) (big_number 3 (drop 10 p.header)) six in
    let first = chunk_long (plain_header story p) 13 head in
    let second = chunk_long (plain_memory story p) d (length-changed (dynamic_of story) (told p.packed) ∙ long) in
    let third = chunk_long (plain_stacks p) (length p.stacks) refl in
    length_three (chunk_bytes (plain_header story p)) (chunk_bytes (plain_memory story p)) (chunk_bytes (plain_stacks p))
    ∙ summed (length (chunk_bytes (plain_header story p))) (length (chunk_bytes (plain_memory story p))) (length (chunk_bytes (plain_stacks p))) d (length p.stacks) first second third

-- ---- what is answered

-- an error says why, and of a compressed save only that memory was refused
pub record IsToldOf (story : LoadedStory) (bytes : List ℕ) (e : UnpackError) : Type 0 where
  pub refused : IsRefused (IsCause story bytes) e
  pub only : (s : Saved) → PackedAs story bytes s → e ≡ errors.OutOfMemory

pub told_of : (story : LoadedStory) (bytes : List ℕ) (e : UnpackError) → IsBytes bytes → IsRefused (IsCause story bytes) e → IsToldOf story bytes e
told_of story bytes e fits is = record { refused = is; only = λ s packed. refused_free (IsCause story bytes) e (packed_free story bytes s fits packed) is }

pub lowest_refused : (story : LoadedStory) (bytes : List ℕ) (e : UnpackError) → IsLowest (IsCause story bytes) e → IsRefused (IsCause story bytes) e
lowest_refused story bytes errors.OutOfMemory is = absurd is.holds.flaw
lowest_refused story bytes errors.NotForm is = is
lowest_refused story bytes errors.Length is = is
lowest_refused story bytes errors.ChunkMissing is = is
lowest_refused story bytes errors.ChunkTwice is = is
lowest_refused story bytes errors.Plain is = is
lowest_refused story bytes errors.OtherStory is = is
lowest_refused story bytes errors.Unfinished is = is
lowest_refused story bytes errors.TooLong is = is
lowest_refused story bytes errors.Frames is = is

pub told_lowest : (story : LoadedStory) (bytes : List ℕ) (e : UnpackError) → IsBytes bytes → IsLowest (IsCause story bytes) e → IsToldOf story bytes e
told_lowest story bytes e fits is = told_of story bytes e fits (lowest_refused story bytes e is)

abbrev done : Saved → Result Saved SaveError
done s = Ok s

abbrev undone : SaveError → Result Saved SaveError
undone e = Err e

-- what is answered is the plain save
pub record IsAnswer (story : LoadedStory) (bytes text : List ℕ) : Type 0 where
  pub found : (s : Saved) × PackedAs story bytes s × (text ≡ save_text (origin_of story) s)
  pub read : (s : Saved) → PackedAs story bytes s → reading story text ≡ Ok s
  pub none : HasNone (IsCause story bytes)

pub is_answered : (story : LoadedStory) (bytes : List ℕ) (cs : List Chunk) (p : Parts) (text : List ℕ) → AreParted story bytes cs p → AreTaken story p → text ≡ plain_bytes story p → ReadsBack story (plain_bytes story p) true → IsAnswer story bytes text
is_answered story bytes cs p text is taken same back =
    let s = back.0.0 in
    let m : IsMade story bytes (plain_bytes story p) s = answers story bytes cs p (done s) is taken (sym back.0.1) back.1 in
    record {
      found = (s, m.tells, same ∙ m.text_is);
      read = λ t packed. ap (reading story) same ∙ m.reads ∙ ap done (one story bytes s t m.tells packed);
      none = packed_free story bytes s is.fits m.tells;
    }

-- a text that isn't answered has frames that are none, or memory was refused
pub is_refused : (story : LoadedStory) (bytes : List ℕ) (cs : List Chunk) (p : Parts) (e : UnpackError) → AreParted story bytes cs p → AreTaken story p → FailsFor story (plain_bytes story p) e → IsToldOf story bytes e
is_refused story bytes cs p errors.Frames is taken back =
    told_lowest story bytes errors.Frames is.fits (answers story bytes cs p (undone back.0) is taken (sym back.1) tt)
is_refused story bytes cs p errors.OutOfMemory is taken back = told_of story bytes errors.OutOfMemory is.fits (no_memory story bytes cs p is taken)
is_refused story bytes cs p errors.NotForm is taken back = absurd back
is_refused story bytes cs p errors.Length is taken back = absurd back
is_refused story bytes cs p errors.ChunkMissing is taken back = absurd back
is_refused story bytes cs p errors.ChunkTwice is taken back = absurd back
is_refused story bytes cs p errors.Plain is taken back = absurd back
is_refused story bytes cs p errors.OtherStory is taken back = absurd back
is_refused story bytes cs p errors.Unfinished is taken back = absurd back
is_refused story bytes cs p errors.TooLong is taken back = absurd back

-- ---- what is left behind the first twelve bytes

take_whole : (n : ℕ) (xs : List ℕ) → n ≡ length xs → take n xs ≡ xs
take_whole zero [] e = refl
take_whole zero (x ∷ xs) e = absurd (omega (arith, e))
take_whole (suc n) [] e = absurd (omega (arith, e))
take_whole (suc n) (x ∷ xs) e = ap (λ (ys : List ℕ). x ∷ ys) (take_whole n xs (omega (arith, e)))

behind_head : (file : List ℕ) → take (length file - 12) (drop 12 file) ≡ drop 12 file
behind_head file = take_whole (length file - 12) (drop 12 file) (sym (length-drop 12 file))

pub cut_part : (file : List ℕ) (cs : List Chunk) → AreChunksOf file cs → IsCut (take (length file - 12) (drop 12 file)) cs
cut_part file cs are = subst (λ (x : List ℕ). IsCut x cs) (sym (behind_head file)) (cut_behind file cs are)

pub judged_part : (file : List ℕ) (cs : List Chunk) → IsForm file cs → IsJudged (take (length file - 12) (drop 12 file))
judged_part file cs is = subst (λ (x : List ℕ). IsJudged x) (sym (behind_head file)) (judged_of file cs is)

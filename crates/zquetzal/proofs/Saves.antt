-- Bytes are read as a save exactly where they are one.
use Rattle.std.proofs.Common.{◌≡◌, ◌⊎◌, inl, inr, ℕ, zero, suc, ◌+◌, ◌*◌, ◌%◌, ◌^◌, ◌<◌, ◌≤◌, Bool, true, false, List, [], ◌∷◌, ◌++◌, length, drop, Result, Ok, Err, eq-eqb, refl, sym, ap, subst, ◌∙◌, arith, length-append}
use Rattle.std.specs.Prelude.{◌==◌, ◌||◌, ◌&&◌, nat_le, slice_range, replicate, IfOk}
use Rattle.std.specs.List.{flat_map, AllByRecursion}
use Rattle.std.specs.Str.{bytes_eq}
use Rattle.std.proofs.lemmas.Bool.{eqb-true, cases_Bool}
use Rattle.std.proofs.lemmas.List.{length-take, length-drop, length-replicate, nil_from_length}
use Rattle.std.proofs.lemmas.Slice.Eq.{bytes_eq-Decides}
use Rattle.byteorder.specs.Endian.{big_bytes, big_number}
use Rattle.zstory.specs.LoadedStory.{LoadedStory, IsSound, release, serial, checksum, save_checksum, static_base}
use Rattle.zquetzal.specs.declared.error.SaveError.{SaveError}
use Rattle.zquetzal.specs.declared.limits.TheConstants.{FORM, IFZS, IFHD, STKS, HEADER_LENGTH, MOST_FRAMES}
use Rattle.zquetzal.specs.declared.origin.Origin.{Origin}
use Rattle.zquetzal.specs.Saved.{Frame, Saved, IsFrame, IsFirst, AreFrames, IsSaved, origin_of}
use Rattle.zquetzal.specs.Steps.{◌>>=◌}
use Rattle.zquetzal.specs.Grammar.{Chunk, IsChunk, chunk_bytes, form_bytes, header_bytes, words_bytes, frame_head, frame_bytes, frames_bytes, header_chunk, memory_chunk, stacks_chunk, save_text, IsOrigin, Names, ReadsAs}
use Rattle.zquetzal.specs.Reading.{Parts, body_of, chunk_at, chunks_of, chunks_within, parts_of, parts_at, is_of, is_first, are_frames, frames_within, frames_of, reading}
use Rattle.zquetzal.specs.declared.survey.Parts as code
use Rattle.zquetzal.specs.Survey.{Survey, survey_of, survey_at, chosen_in}
use Rattle.zquetzal.specs.View.{Gives, seen_parts, frames_in, count_of}
use Rattle.zquetzal.proofs.Steps.{bind_ok, need_ok, ok_is}
use Rattle.zquetzal.proofs.Numbers.{IsBytes, IsBytes-drop, number_again, number_fits, taken_2, taken_3}
use Rattle.zquetzal.proofs.Order.{AreInOrder, parts_again, parts_take, parts_found, data_found}
use Rattle.zquetzal.proofs.Words.{length-words_bytes}
use Rattle.zquetzal.proofs.Again.{chunks_again, few_chunks, body_again, frames_again}
use Rattle.zquetzal.proofs.Loops.{all_in, count_of_were}
use Rattle.zquetzal.proofs.Takes.{sized_takes, body_takes, chunks_take, frames_take}

-- ---- the header

-- a header's parts
pub record HasHeader (h : List ℕ) (o : Origin) (place : ℕ) : Type 0 where
  pub release : big_number 2 h ≡ o.release
  pub serial : slice_range h 2 8 ≡ o.serial
  pub checksum : big_number 2 (drop 8 h) ≡ o.checksum
  pub place_is : big_number 3 (drop 10 h) ≡ place

bytes_again : (r c place : ℕ) (s : List ℕ) → length s ≡ 6 → r < 65536 → c < 65536 → place < 2 ^ 24 → HasHeader (header_bytes (record { release = r; serial = s; checksum = c }) place) (record { release = r; serial = s; checksum = c }) place
bytes_again r c place (a ∷ b ∷ d ∷ e ∷ f ∷ g ∷ []) six small also low =
    let serial : List ℕ = a ∷ b ∷ d ∷ e ∷ f ∷ g ∷ [] in
    record { release = number_again 2 r (serial ++ big_bytes 2 c ++ big_bytes 3 place) small; serial = refl; checksum = number_again 2 c (big_bytes 3 place) also; place_is = number_again 3 place [] low }
bytes_again r c place s six small also low = absurd (omega (arith, six))

pub header_again : (o : Origin) (place : ℕ) → IsOrigin o → place < 2 ^ 24 → HasHeader (header_bytes o place) o place
header_again o place is low = bytes_again o.release o.checksum place o.serial is.serial is.release is.checksum low

pub six_long : (h : List ℕ) → length h ≡ 13 → length (slice_range h 2 8) ≡ 6
six_long h long = omega (arith, length-take 6 (drop 2 h), length-drop 2 h, long)

-- thirteen bytes are a header
pub header_takes : (h : List ℕ) → length h ≡ 13 → IsBytes h → h ≡ header_bytes (record { release = big_number 2 h; serial = slice_range h 2 8; checksum = big_number 2 (drop 8 h) }) (big_number 3 (drop 10 h))
header_takes (a ∷ b ∷ c ∷ d ∷ e ∷ f ∷ g ∷ h ∷ i ∷ j ∷ k ∷ l ∷ m ∷ []) long fits =
    let rest : List ℕ = c ∷ d ∷ e ∷ f ∷ g ∷ h ∷ i ∷ j ∷ k ∷ l ∷ m ∷ [] in
    let serial : List ℕ = c ∷ d ∷ e ∷ f ∷ g ∷ h ∷ [] in
    let first : big_bytes 2 (big_number 2 (a ∷ b ∷ rest)) ≡ a ∷ b ∷ [] = taken_2 (a ∷ b ∷ rest) (omega arith) fits in
    let sum : big_bytes 2 (big_number 2 (i ∷ j ∷ k ∷ l ∷ m ∷ [])) ≡ i ∷ j ∷ [] = taken_2 (i ∷ j ∷ k ∷ l ∷ m ∷ []) (omega arith) (IsBytes-drop 8 (a ∷ b ∷ rest) fits) in
    let place : big_bytes 3 (big_number 3 (k ∷ l ∷ m ∷ [])) ≡ k ∷ l ∷ m ∷ [] = taken_3 (k ∷ l ∷ m ∷ []) (omega arith) (IsBytes-drop 10 (a ∷ b ∷ rest) fits) in
    sym (
    ap (λ (t : List ℕ). t ++ serial ++ big_bytes 2 (big_number 2 (i ∷ j ∷ k ∷ l ∷ m ∷ [])) ++ big_bytes 3 (big_number 3 (k ∷ l ∷ m ∷ []))) first
    ∙ ap (λ (t : List ℕ). (a ∷ b ∷ []) ++ serial ++ t ++ big_bytes 3 (big_number 3 (k ∷ l ∷ m ∷ []))) sum
    ∙ ap (λ (t : List ℕ). (a ∷ b ∷ []) ++ serial ++ (i ∷ j ∷ []) ++ t) place
    )
header_takes h long fits = absurd (omega (arith, long))

-- ---- whose save it is

all_three : (a b c : Bool) → a ≡ true → b ≡ true → c ≡ true → (a && b && c) ≡ true
all_three a b c e f g = rw (e, f, g) refl

one_holds : (a b : Bool) → (a ≡ true) ⊎ (b ≡ true) → (a || b) ≡ true
one_holds true b e = refl
one_holds false b (inl e) = absurd cc
one_holds false b (inr e) = e

either : (a b : Bool) → (a || b) ≡ true → (a ≡ true) ⊎ (b ≡ true)
either true b e = inl refl
either false b e = inr e

both_true : (a b : Bool) → (a && b) ≡ true → (a ≡ true) × (b ≡ true)
both_true true true e = (refl, refl)
both_true true false e = absurd cc
both_true false b e = absurd cc

pub of_story : (story : LoadedStory) (h : List ℕ) (o : Origin) (place : ℕ) → HasHeader h o place → Names story o → is_of story h ≡ true
of_story story h o place has names =
    let sum : (o.checksum ≡ save_checksum story) ⊎ (o.checksum ≡ checksum story) → ((big_number 2 (drop 8 h) == save_checksum story) || (big_number 2 (drop 8 h) == checksum story)) ≡ true = λ s. elim s [
      | inl e ↦ one_holds _ _ (inl (eq-eqb _ _ (has.checksum ∙ e)))
      | inr e ↦ one_holds (big_number 2 (drop 8 h) == save_checksum story) _ (inr (eq-eqb _ _ (has.checksum ∙ e)))
    ] in
    all_three _ _ _ (eq-eqb _ _ (has.release ∙ names.release)) ((bytes_eq-Decides (slice_range h 2 8) (serial story)).1 (has.serial ∙ names.serial)) (sum names.checksum)

pub named : (story : LoadedStory) (h : List ℕ) → is_of story h ≡ true → Names story (record { release = big_number 2 h; serial = slice_range h 2 8; checksum = big_number 2 (drop 8 h) })
named story h e =
    let a = both_true ((big_number 2 h == release story) && bytes_eq (slice_range h 2 8) (serial story)) ((big_number 2 (drop 8 h) == save_checksum story) || (big_number 2 (drop 8 h) == checksum story)) e in
    let b = both_true (big_number 2 h == release story) (bytes_eq (slice_range h 2 8) (serial story)) a.0 in
    record {
      release = eqb-true (big_number 2 h) (release story) b.0;
      serial = (bytes_eq-Decides (slice_range h 2 8) (serial story)).0 b.1;
      checksum = elim (either (big_number 2 (drop 8 h) == save_checksum story) (big_number 2 (drop 8 h) == checksum story) a.1) [
        | inl f ↦ inl (eqb-true (big_number 2 (drop 8 h)) (save_checksum story) f)
        | inr f ↦ inr (eqb-true (big_number 2 (drop 8 h)) (checksum story) f)
      ];
    }

-- ---- frames

first_again : (f : Frame) → IsFirst f → is_first f ≡ true
first_again f is =
    rw (is.return_place, is.result, is.supplied, is.locals) refl

first_takes : (f : Frame) → is_first f ≡ true → IsFirst f
first_takes f e =
    let a = both_true ((f.return_place == 0) && (f.result == 0) && (f.supplied == 0)) (length f.locals == 0) e in
    let b = both_true ((f.return_place == 0) && (f.result == 0)) (f.supplied == 0) a.0 in
    let c = both_true (f.return_place == 0) (f.result == 0) b.0 in
    record { return_place = eqb-true f.return_place 0 c.0; result = eqb-true f.result 0 c.1; supplied = eqb-true f.supplied 0 b.1; locals = nil_from_length f.locals (eqb-true (length f.locals) 0 a.1) }

framing : (stacks : List ℕ) (fs : List Frame) → frames_within MOST_FRAMES stacks ≡ Ok fs → are_frames fs ≡ true → frames_of stacks ≡ Ok fs
unfolding frames_of
framing stacks fs e f = rw (e, f) refl

pub frames_of_again : (fs : List Frame) → AreFrames fs → frames_of (frames_bytes fs) ≡ Ok fs
frames_of_again [] are = absurd are
frames_of_again (f ∷ fs) are = framing (frames_bytes (f ∷ fs)) (f ∷ fs) (frames_again MOST_FRAMES (f ∷ fs) are.2 are.1) (first_again f are.0)

all_frames : (fs : List Frame) → are_frames fs ≡ true → AllByRecursion IsFrame fs → length fs ≤ MOST_FRAMES → AreFrames fs
all_frames [] e each few = absurd cc
all_frames (f ∷ fs) e each few = (first_takes f e, each, few)

pub frames_of_takes : (stacks : List ℕ) (fs : List Frame) → IsBytes stacks → frames_of stacks ≡ Ok fs → (frames_within MOST_FRAMES stacks ≡ Ok fs) × (stacks ≡ frames_bytes fs) × AreFrames fs
unfolding frames_of
frames_of_takes stacks fs fits e =
    let a = bind_ok (frames_within MOST_FRAMES stacks) _ _ e in
    let n = need_ok (are_frames a.0) _ _ _ a.2 in
    let same : a.0 ≡ fs = ok_is a.0 fs n.1 in
    let t = frames_take MOST_FRAMES stacks a.0 fits a.1 in
    subst (λ (x : List Frame). (frames_within MOST_FRAMES stacks ≡ Ok x) × (stacks ≡ frames_bytes x) × AreFrames x) {x = a.0} same (a.1, t.parts, all_frames a.0 n.0 t.each t.few)

-- ---- a save

reading_is : (story : LoadedStory) (bytes body : List ℕ) (p : Parts) (place : ℕ) (fs : List Frame) → body_of bytes ≡ Ok body → parts_at body ≡ Ok p → is_of story p.header ≡ true → (length p.memory == static_base story) ≡ true → big_number 3 (drop 10 p.header) ≡ place → frames_of p.stacks ≡ Ok fs → reading story bytes ≡ Ok (record { memory = p.memory; place = place; frames = fs })
unfolding reading
reading_is story bytes body p place fs e f g h i j = rw (e, f, g, h, i, j) refl

-- a save is read
pub again : (story : LoadedStory) (bytes : List ℕ) (s : Saved) → ReadsAs story bytes s → reading story bytes ≡ Ok s
again story bytes s r =
    let p : Parts = record { header = header_bytes r.origin s.place; memory = s.memory; stacks = frames_bytes s.frames } in
    let body = flat_map chunk_bytes r.chunks in
    let short : length (form_bytes r.chunks) < 2 ^ 32 + 8 = subst (λ (x : List ℕ). length x < 2 ^ 32 + 8) r.spelled r.short in
    let has = header_again r.origin s.place r.is_origin r.saved.place in
    let read : parts_at body ≡ Ok p = ap (λ (x : Result (List Chunk) SaveError). x >>= parts_of) (chunks_again (length body) r.chunks (few_chunks r.chunks) r.each) ∙ parts_again r.chunks p r.parts in
    reading_is story bytes body p s.place s.frames (ap body_of r.spelled ∙ body_again r.chunks short) read (of_story story p.header r.origin s.place has r.names) (eq-eqb (length s.memory) (static_base story) r.saved.memory) has.place_is (frames_of_again s.frames r.saved.frames)

same_answer : (s t : Saved) (r : Result Saved SaveError) → r ≡ Ok s → r ≡ Ok t → s ≡ t
same_answer s t r p q = cc

pub one : (story : LoadedStory) (bytes : List ℕ) (s t : Saved) → ReadsAs story bytes s → ReadsAs story bytes t → s ≡ t
one story bytes s t r q = same_answer s t (reading story bytes) (again story bytes s r) (again story bytes t q)

-- a chunk's length is right where it is a header's
abbrev HasLength : Chunk → Type 0
HasLength c = c.id ≡ IFHD → length c.contents ≡ HEADER_LENGTH

chunk_has : (bytes : List ℕ) (x : Chunk × List ℕ) → chunk_at bytes ≡ Ok x → HasLength x.0
unfolding chunk_at
chunk_has bytes x e =
    let a = need_ok (nat_le 8 (length bytes)) _ _ _ e in
    (sized_takes (big_number 4 bytes) (big_number 4 (drop 4 bytes)) (drop 8 bytes) x a.1).header

each_chunk : (n : ℕ) (bytes : List ℕ) (cs : List Chunk) → chunks_within n bytes ≡ Ok cs → AllByRecursion HasLength cs
unfolding chunks_within
each_chunk zero [] cs e = subst (λ (x : List Chunk). AllByRecursion HasLength x) {x = []} {y = cs} (ok_is [] cs e) tt
each_chunk (suc n) [] cs e = subst (λ (x : List Chunk). AllByRecursion HasLength x) {x = []} {y = cs} (ok_is [] cs e) tt
each_chunk zero (b ∷ bytes) cs e = absurd cc
each_chunk (suc n) (b ∷ bytes) cs e =
    let a = bind_ok (chunk_at (b ∷ bytes)) _ _ e in
    let d = bind_ok (chunks_within n a.0.1) _ _ a.2 in
    let made : List Chunk = a.0.0 ∷ d.0 in
    subst (λ (x : List Chunk). AllByRecursion HasLength x) {x = made} {y = cs} (ok_is made cs d.2) (chunk_has (b ∷ bytes) a.0 a.1, each_chunk n a.0.1 d.0 d.1)

-- the chunks that are read, of bytes that were cut into them
pub parts_at_takes : (body : List ℕ) (p : Parts) → parts_at body ≡ Ok p → (cs : List Chunk) × (chunks_of body ≡ Ok cs) × (parts_of cs ≡ Ok p)
parts_at_takes body p e = bind_ok (chunks_of body) parts_of p e

-- the header that is read has its length
pub header_length : (body : List ℕ) (p : Parts) → parts_at body ≡ Ok p → length p.header ≡ 13
header_length body p e =
    let c = parts_at_takes body p e in
    let each = each_chunk (length body) body c.0 c.1 in
    (data_found IFHD HasLength c.0 p.header each (parts_found c.0 p c.2).header) refl

-- what is read is a save
pub takes : (story : LoadedStory) (bytes : List ℕ) (s : Saved) → IsBytes bytes → reading story bytes ≡ Ok s → ReadsAs story bytes s
unfolding reading
takes story bytes s fits e =
    let a = bind_ok (body_of bytes) _ _ e in
    let b = bind_ok (parts_at a.0) _ _ a.2 in
    let p = b.0 in
    let n = need_ok (is_of story p.header) _ _ _ b.2 in
    let m = need_ok (length p.memory == static_base story) _ _ _ n.1 in
    let f = bind_ok (frames_of p.stacks) _ _ m.1 in
    let c = parts_at_takes a.0 p b.1 in
    let body = body_takes bytes a.0 fits a.1 in
    let chunks = chunks_take (length a.0) a.0 c.0 body.fits c.1 in
    let found = parts_found c.0 p c.2 in
    let long : length p.header ≡ HEADER_LENGTH = (data_found IFHD IsChunk c.0 p.header chunks.each found.header).header refl in
    let header_fits : IsBytes p.header = data_found IFHD (λ (x : Chunk). IsBytes x.contents) c.0 p.header chunks.fits found.header in
    let stacks_fit : IsBytes p.stacks = data_found STKS (λ (x : Chunk). IsBytes x.contents) c.0 p.stacks chunks.fits found.stacks in
    let origin : Origin = record { release = big_number 2 p.header; serial = slice_range p.header 2 8; checksum = big_number 2 (drop 8 p.header) } in
    let place = big_number 3 (drop 10 p.header) in
    let head : p.header ≡ header_bytes origin place = header_takes p.header long header_fits in
    let frames = frames_of_takes p.stacks f.0 stacks_fit f.1 in
    let made : Saved = record { memory = p.memory; place = place; frames = f.0 } in
    let parted : Parts = record { header = header_bytes origin place; memory = p.memory; stacks = frames_bytes f.0 } in
    let same : p ≡ parted = ap (λ (x : List ℕ). let y : Parts = record { header = x; memory = p.memory; stacks = p.stacks } in y) head ∙ ap (λ (x : List ℕ). let y : Parts = record { header = header_bytes origin place; memory = p.memory; stacks = x } in y) frames.1 in
    let spelled : bytes ≡ form_bytes c.0 = body.parts ∙ ap (λ (x : List ℕ). big_bytes 4 FORM ++ big_bytes 4 (4 + length x) ++ big_bytes 4 IFZS ++ x) chunks.parts in
    subst (λ (x : Saved). ReadsAs story bytes x) {x = made} {y = s} (ok_is made s f.2) (record {
      chunks = c.0;
      origin = origin;
      spelled = spelled;
      short = body.short;
      each = chunks.each;
      parts = subst (λ (x : Parts). AreInOrder c.0 x) same (parts_take c.0 p c.2);
      is_origin = record { release = number_fits 2 p.header header_fits; serial = six_long p.header long; checksum = number_fits 2 (drop 8 p.header) (IsBytes-drop 8 p.header header_fits) };
      names = named story p.header n.0;
      saved = record { memory = eqb-true (length p.memory) (static_base story) m.0; place = number_fits 3 (drop 10 p.header) (IsBytes-drop 10 p.header header_fits); frames = frames.2 };
    })

-- ---- what is written

pub length-frame_bytes : (f : Frame) → length (frame_bytes f) ≡ 8 + 2 * (length f.locals + length f.stack)
length-frame_bytes f =
    let ls = words_bytes f.locals in
    let ss = words_bytes f.stack in
    omega (arith, length-append (frame_head f ++ ls) ss, length-append (frame_head f) ls, length-words_bytes f.locals, length-words_bytes f.stack)

pub frames_bound : (fs : List Frame) → AllByRecursion IsFrame fs → length (frames_bytes fs) ≤ 131108 * length fs
frames_bound [] each = omega arith
frames_bound (f ∷ fs) each =
    let rest = frames_bound fs each.1 in
    omega (arith, length-append (frame_bytes f) (frames_bytes fs), length-frame_bytes f, each.0.locals, each.0.stack, rest)

all_bound : (fs : List Frame) → AreFrames fs → length (frames_bytes fs) ≤ 537149476
all_bound [] are = absurd are
all_bound (f ∷ fs) are = let b = frames_bound (f ∷ fs) are.1 in omega (arith, b, are.2)

sum_below : (story : LoadedStory) → IsSound story.memory → save_checksum story < 65536
sum_below story sound =
    elim (cases_Bool (checksum story == 0)) [
      | inl e ↦ rw e (omega arith)
      | inr e ↦ rw e (omega (arith, sound.bytes 0x1C, sound.bytes 0x1D))
    ]

origin_is : (story : LoadedStory) → IsSound story.memory → IsOrigin (origin_of story)
origin_is story sound = record {
  release = omega (arith, sound.bytes 2, sound.bytes 3);
  serial = omega (arith, length-take 6 (drop 0x12 story.memory), length-drop 0x12 story.memory, sound.least_length);
  checksum = sum_below story sound;
}

pub header_long : (o : Origin) (place : ℕ) → length o.serial ≡ 6 → length (header_bytes o place) ≡ 13
header_long o place six =
    let front = big_bytes 2 o.release in
    omega (arith, length-append (front ++ o.serial ++ big_bytes 2 o.checksum) (big_bytes 3 place), length-append (front ++ o.serial) (big_bytes 2 o.checksum), length-append front o.serial, six)

pub length-chunk : (c : Chunk) → length (chunk_bytes c) ≡ 8 + length c.contents + length c.contents % 2
length-chunk c =
    let front = big_bytes 4 c.id ++ big_bytes 4 (length c.contents) in
    let pad : List ℕ = replicate (length c.contents % 2) 0 in
    omega (arith, length-append (front ++ c.contents) pad, length-append front c.contents, length-replicate {A = ℕ} (length c.contents % 2) 0)

three_chunks : (a b c : Chunk) → length (form_bytes (a ∷ b ∷ c ∷ [])) ≡ 12 + length (chunk_bytes a) + length (chunk_bytes b) + length (chunk_bytes c)
three_chunks a b c =
    let whole : length (form_bytes (a ∷ b ∷ c ∷ [])) ≡ 12 + length (flat_map chunk_bytes (a ∷ b ∷ c ∷ [])) = omega arith in
    let parts : length (flat_map chunk_bytes (a ∷ b ∷ c ∷ [])) ≡ length (chunk_bytes a) + length (chunk_bytes b) + length (chunk_bytes c) =
    omega (arith, length-append (chunk_bytes a) (chunk_bytes b ++ (chunk_bytes c ++ [])), length-append (chunk_bytes b) (chunk_bytes c ++ []), length-append {A = ℕ} (chunk_bytes c) [])
    in
    omega (arith, whole, parts)

pub frames_even : (fs : List Frame) → length (frames_bytes fs) % 2 ≡ 0
frames_even [] = refl
frames_even (f ∷ fs) =
    let rest = frames_even fs in
    omega (arith, length-append (frame_bytes f) (frames_bytes fs), length-frame_bytes f, rest)

pub text_long : (o : Origin) (s : Saved) → length o.serial ≡ 6 → length (save_text o s) ≡ 50 + length s.memory + length s.memory % 2 + length (frames_bytes s.frames)
text_long o s six =
    let a : length (chunk_bytes (header_chunk o s)) ≡ 8 + length (header_bytes o s.place) + length (header_bytes o s.place) % 2 = length-chunk (header_chunk o s) in
    omega (arith, three_chunks (header_chunk o s) (memory_chunk s) (stacks_chunk s), a, header_long o s.place six, length-chunk (memory_chunk s), length-chunk (stacks_chunk s), frames_even s.frames)

pub written : (story : LoadedStory) (s : Saved) → IsSound story.memory → IsSaved story s → ReadsAs story (save_text (origin_of story) s) s
written story s sound saved =
    let o = origin_of story in
    let is = origin_is story sound in
    let base : static_base story < 65536 = omega (arith, sound.bytes 0x0E, sound.bytes 0x0F) in
    let stacks = all_bound s.frames saved.frames in
    let head = header_long o s.place is.serial in
    record {
      chunks = header_chunk o s ∷ memory_chunk s ∷ stacks_chunk s ∷ [];
      origin = o;
      spelled = refl;
      short = omega (arith, text_long o s is.serial, base, stacks, saved.memory);
      each = (
        record { id = omega arith; size = omega (arith, head); header = λ e. head },
        (
          record { id = omega arith; size = omega (arith, base, saved.memory); header = λ e. absurd (omega (arith, e)) },
          (record { id = omega arith; size = omega (arith, stacks); header = λ e. absurd (omega (arith, e)) }, tt),
        ),
      );
      parts = inl refl;
      is_origin = is;
      names = record { release = refl; serial = refl; checksum = inl refl };
      saved = saved;
    }

pub read_again : (story : LoadedStory) (s : Saved) → IsSound story.memory → IsSaved story s → reading story (save_text (origin_of story) s) ≡ Ok s
read_again story s sound saved = again story (save_text (origin_of story) s) s (written story s sound saved)

-- ---- what the code reads

pub record IsRead (stacks : List ℕ) (k : ℕ) : Type 0 where
  pub frames : frames_of stacks ≡ Ok (frames_in stacks)
  pub are : AreFrames (frames_in stacks)
  pub count : k ≡ length (frames_in stacks)

pub frames_read : (stacks : List ℕ) (k : ℕ) → IsBytes stacks → count_of stacks ≡ Ok k → IsRead stacks k
frames_read stacks k fits e =
    let a = count_of_were stacks k e in
    let t = frames_of_takes stacks a.0 fits a.1 in
    let same : a.0 ≡ frames_in stacks = sym (all_in MOST_FRAMES stacks a.0 t.0) in
    let moved : (frames_of stacks ≡ Ok (frames_in stacks)) × AreFrames (frames_in stacks) × (k ≡ length (frames_in stacks)) = subst (λ (x : List Frame). (frames_of stacks ≡ Ok x) × AreFrames x × (k ≡ length x)) {x = a.0} {y = frames_in stacks} same (a.1, t.2, sym a.2) in
    record { frames = moved.0; are = moved.1; count = moved.2 }

pub all_read : (story : LoadedStory) (bytes body : List ℕ) (p : Parts) (k : ℕ) → body_of bytes ≡ Ok body → parts_at body ≡ Ok p → is_of story p.header ≡ true → length p.memory ≡ static_base story → IsRead p.stacks k → reading story bytes ≡ Ok (record { memory = p.memory; place = big_number 3 (drop 10 p.header); frames = frames_in p.stacks })
all_read story bytes body p k e f g h is = reading_is story bytes body p (big_number 3 (drop 10 p.header)) (frames_in p.stacks) e f g (eq-eqb (length p.memory) (static_base story) h) refl is.frames

-- a refusal leaves no save
pub none_saved : (story : LoadedStory) (bytes : List ℕ) (d : SaveError) (s : Saved) → reading story bytes ≡ Err d → ReadsAs story bytes s → ⊥
none_saved story bytes d s e r = let both = sym e ∙ again story bytes s r in cc

-- ---- what the code answers

same_parts : (body : List ℕ) (s : Survey) → survey_at body ≡ Ok s → parts_at body ≡ chosen_in s
same_parts body s e =
    let a = bind_ok (chunks_of body) (λ cs. Ok (survey_of cs)) s e in
    ap (λ (r : Result (List Chunk) SaveError). r >>= parts_of) a.1 ∙ ap chosen_in (ok_is (survey_of a.0) s a.2)

pub header_given : (body : List ℕ) (s : Survey) (r : Result code.Parts SaveError) → survey_at body ≡ Ok s → Gives seen_parts r (chosen_in s) → IfOk r (λ p. length p.header.now ≡ 13)
header_given body s (Ok p) e g = header_length body (seen_parts p) (same_parts body s e ∙ g)
header_given body s (Err d) e g = tt

pub is_found : (story : LoadedStory) (bytes : List ℕ) (r : Result Saved SaveError) → IsBytes bytes → r ≡ reading story bytes → IfOk r (ReadsAs story bytes)
is_found story bytes (Ok s) fits e = takes story bytes s fits (sym e)
is_found story bytes (Err d) fits e = tt

pub stacks_fit : (bytes body : List ℕ) (p : Parts) → IsBytes bytes → body_of bytes ≡ Ok body → parts_at body ≡ Ok p → IsBytes p.stacks
stacks_fit bytes body p fits e f =
    let b = body_takes bytes body fits e in
    let c = parts_at_takes body p f in
    let chunks = chunks_take (length body) body c.0 b.fits c.1 in
    data_found STKS (λ (x : Chunk). IsBytes x.contents) c.0 p.stacks chunks.fits (parts_found c.0 p c.2).stacks

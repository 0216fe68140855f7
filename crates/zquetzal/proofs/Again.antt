-- What is spelled is read.
use Rattle.std.proofs.Common.{◌≡◌, inl, inr, ℕ, zero, suc, ◌+◌, ◌*◌, ◌-◌, ◌%◌, ◌^◌, ◌<◌, ◌≤◌, true, List, [], ◌∷◌, ◌++◌, length, get_or, take, drop, Ok, eq-eqb, refl, sym, ap, ◌∙◌, append_assoc, arith, length-append}
use Rattle.std.specs.Prelude.{◌==◌, ◌||◌, not, replicate}
use Rattle.std.specs.List.{flat_map, AllByRecursion}
use Rattle.std.proofs.Math.Seq.{get_or-append_seam}
use Rattle.std.proofs.lemmas.Bool.{le-leb, cases_Bool, eqb-true}
use Rattle.std.proofs.lemmas.List.{take_at, drop_at, length-replicate}
use Rattle.byteorder.specs.Endian.{big_bytes, big_number}
use Rattle.zquetzal.specs.declared.limits.TheConstants.{FORM, IFZS, IFHD, HEADER_LENGTH}
use Rattle.zquetzal.specs.Saved.{Frame, IsFrame, IsWord}
use Rattle.zquetzal.specs.Grammar.{Chunk, IsChunk, chunk_bytes, form_bytes, words_bytes, frame_bytes, frames_bytes}
use Rattle.zquetzal.specs.Reading.{body_of, sized_chunk, chunk_at, chunks_within, supplied_by, framed, frame_at, frames_within}
use Rattle.zquetzal.proofs.Numbers.{number_again}
use Rattle.zquetzal.proofs.Words.{words_again, length-words_bytes}

eqb_same : (n : ℕ) → (n == n) ≡ true
eqb_same n = eq-eqb n n refl

-- ---- chunks

chunk_at_is : (bytes : List ℕ) (id size : ℕ) (body : List ℕ) → 8 ≤ length bytes → big_number 4 bytes ≡ id → big_number 4 (drop 4 bytes) ≡ size → drop 8 bytes ≡ body → chunk_at bytes ≡ sized_chunk id size body
unfolding chunk_at
chunk_at_is bytes id size body long e f g = rw (le-leb 8 (length bytes) long, e, f, g) refl

sized_is : (id size : ℕ) (body contents rest : List ℕ) → size + size % 2 ≤ length body → ((size % 2 == 0) || (get_or body size 0 == 0)) ≡ true → (not (id == IFHD) || (size == HEADER_LENGTH)) ≡ true → take size body ≡ contents → drop (size + size % 2) body ≡ rest → sized_chunk id size body ≡ Ok (record { id = id; contents = contents }, rest)
unfolding sized_chunk
sized_is id size body contents rest long pad header e f = rw (le-leb (size + size % 2) (length body) long, pad, header, e, f) refl

padded : (m : ℕ) (d rest : List ℕ) → m < 2 → ((m == 0) || (get_or (d ++ (replicate m 0 ++ rest)) (length d) 0 == 0)) ≡ true
padded zero d rest low = refl
padded (suc zero) d rest low = rw (get_or-append_seam d 0 rest 0) refl
padded (suc (suc m)) d rest low = absurd (omega (arith, low))

headed : (id size : ℕ) → (id ≡ IFHD → size ≡ HEADER_LENGTH) → (not (id == IFHD) || (size == HEADER_LENGTH)) ≡ true
headed id size is =
    elim (cases_Bool (id == IFHD)) [
      | inl is_so ↦ rw (is_so, eq-eqb size HEADER_LENGTH (is (eqb-true id IFHD is_so))) refl
      | inr is_not ↦ rw is_not refl
    ]

behind_pad : (m : ℕ) (d rest : List ℕ) → drop (length d + m) (d ++ (replicate m 0 ++ rest)) ≡ rest
behind_pad m d rest =
    let pad : List ℕ = replicate m 0 in
    let long : length (d ++ pad) ≡ length d + m = omega (arith, length-append d pad, length-replicate {A = ℕ} m 0) in
    ap (drop (length d + m)) (sym (append_assoc d pad rest)) ∙ drop_at (d ++ pad) rest (length d + m) long

sized_again : (c : Chunk) (rest : List ℕ) → IsChunk c → sized_chunk c.id (length c.contents) (c.contents ++ (replicate (length c.contents % 2) 0 ++ rest)) ≡ Ok (c, rest)
sized_again c rest is =
    let d = c.contents in
    let size = length d in
    let pad : List ℕ = replicate (size % 2) 0 in
    let long : size + size % 2 ≤ length (d ++ (pad ++ rest)) = omega (arith, length-append d (pad ++ rest), length-append pad rest, length-replicate {A = ℕ} (size % 2) 0) in
    sized_is c.id size (d ++ (pad ++ rest)) d rest long (padded (size % 2) d rest (omega arith)) (headed c.id size is.header) (take_at d (pad ++ rest) size refl) (behind_pad (size % 2) d rest)

four : (a b c d rest : List ℕ) → (a ++ b ++ c ++ d) ++ rest ≡ a ++ (b ++ (c ++ (d ++ rest)))
four a b c d rest = simp append_assoc

eight : (id size : ℕ) (rest : List ℕ) → drop 8 (big_bytes 4 id ++ (big_bytes 4 size ++ rest)) ≡ rest
eight id size rest = refl

chunk_again : (c : Chunk) (rest : List ℕ) → IsChunk c → chunk_at (chunk_bytes c ++ rest) ≡ Ok (c, rest)
chunk_again c rest is =
    let size = length c.contents in
    let body = c.contents ++ (replicate (size % 2) 0 ++ rest) in
    let bytes = big_bytes 4 c.id ++ (big_bytes 4 size ++ body) in
    ap chunk_at (four (big_bytes 4 c.id) (big_bytes 4 size) c.contents (replicate (size % 2) 0) rest)
    ∙ chunk_at_is bytes c.id size body (omega arith) (number_again 4 c.id (big_bytes 4 size ++ body) is.id) (number_again 4 size body is.size) (eight c.id size body)
    ∙ sized_again c rest is

-- a chunk in front of others
chunks_with : (n b : ℕ) (bytes rest : List ℕ) (c : Chunk) (cs : List Chunk) → chunk_at (b ∷ bytes) ≡ Ok (c, rest) → chunks_within n rest ≡ Ok cs → chunks_within (suc n) (b ∷ bytes) ≡ Ok (c ∷ cs)
unfolding chunks_within
chunks_with n b bytes rest c cs e f = rw (e, f) refl

chunks_nil : (n : ℕ) → chunks_within n [] ≡ Ok []
unfolding chunks_within
chunks_nil zero = refl
chunks_nil (suc n) = refl

pub chunks_again : (n : ℕ) (cs : List Chunk) → length cs ≤ n → AllByRecursion IsChunk cs → chunks_within n (flat_map chunk_bytes cs) ≡ Ok cs
chunks_again n [] few each = chunks_nil n
chunks_again zero (c ∷ cs) few each = absurd (omega (arith, few))
chunks_again (suc n) (c ∷ cs) few each =
    let rest = flat_map chunk_bytes cs in
    chunks_with n _ _ rest c cs (chunk_again c rest each.0) (chunks_again n cs (omega (arith, few)) each.1)

-- there are no more chunks than bytes
pub few_chunks : (cs : List Chunk) → length cs ≤ length (flat_map chunk_bytes cs)
few_chunks [] = omega arith
few_chunks (c ∷ cs) = let rest = few_chunks cs in omega (arith, length-append (chunk_bytes c) (flat_map chunk_bytes cs), rest)

body_is : (bytes body : List ℕ) → 12 ≤ length bytes → big_number 4 bytes ≡ FORM → big_number 4 (drop 8 bytes) ≡ IFZS → big_number 4 (drop 4 bytes) + 8 ≡ length bytes → drop 12 bytes ≡ body → body_of bytes ≡ Ok body
unfolding body_of
body_is bytes body long e f g h = rw (le-leb 12 (length bytes) long, e, f, g, eqb_same (length bytes), h) refl

pub body_again : (cs : List Chunk) → length (form_bytes cs) < 2 ^ 32 + 8 → body_of (form_bytes cs) ≡ Ok (flat_map chunk_bytes cs)
body_again cs short =
    let body = flat_map chunk_bytes cs in
    let size = 4 + length body in
    let total : size + 8 ≡ length (form_bytes cs) = omega arith in
    let read : big_number 4 (drop 4 (form_bytes cs)) ≡ size = number_again 4 size (big_bytes 4 IFZS ++ body) (omega (arith, short)) in
    body_is (form_bytes cs) body (omega arith) (number_again 4 FORM (big_bytes 4 size ++ (big_bytes 4 IFZS ++ body)) (omega arith)) (number_again 4 IFZS body (omega arith)) (ap (λ (x : ℕ). x + 8) read ∙ total) refl

-- ---- frames

frame_at_is : (bytes : List ℕ) (supplied locals stack : ℕ) (body : List ℕ) → 8 ≤ length bytes → get_or bytes 3 0 ≡ locals → locals ≤ 15 → supplied_by (get_or bytes 5 0) ≡ Ok supplied → big_number 2 (drop 6 bytes) ≡ stack → drop 8 bytes ≡ body → frame_at bytes ≡ framed bytes supplied locals stack body
unfolding frame_at
frame_at_is bytes supplied locals stack body long e few f g h = rw (le-leb 8 (length bytes) long, e, le-leb locals 15 few, f, g, h) refl

framed_is : (head : List ℕ) (place result supplied locals stack : ℕ) (body rest : List ℕ) (ls ss : List ℕ) → 2 * locals + 2 * stack ≤ length body → big_number 3 head ≡ place → get_or head 4 0 ≡ result → take (2 * locals) body ≡ words_bytes ls → take (2 * stack) (drop (2 * locals) body) ≡ words_bytes ss → drop (2 * stack) (drop (2 * locals) body) ≡ rest → AllByRecursion IsWord ls → AllByRecursion IsWord ss → framed head supplied locals stack body ≡ Ok (record { return_place = place; result = result; supplied = supplied; locals = ls; stack = ss }, rest)
unfolding framed
framed_is head place result supplied locals stack body rest ls ss long e f g h i fit also =
    rw (le-leb (2 * locals + 2 * stack) (length body) long, e, f, g, h, i, words_again ls fit, words_again ss also) refl

mask_again : (supplied : ℕ) → supplied ≤ 3 → supplied_by (2 ^ supplied - 1) ≡ Ok supplied
mask_again zero few = refl
mask_again (suc zero) few = refl
mask_again (suc (suc zero)) few = refl
mask_again (suc (suc (suc zero))) few = refl
mask_again (suc (suc (suc (suc n)))) few = absurd (omega (arith, few))

frame_again : (f : Frame) (rest : List ℕ) → IsFrame f → frame_at (frame_bytes f ++ rest) ≡ Ok (f, rest)
frame_again f rest is =
    let ls = words_bytes f.locals in
    let ss = words_bytes f.stack in
    let bytes = frame_bytes f ++ rest in
    let body = ls ++ ss ++ rest in
    let locals = length f.locals in
    let stack = length f.stack in
    let l : length ls ≡ 2 * locals = length-words_bytes f.locals in
    let s : length ss ≡ 2 * stack = length-words_bytes f.stack in
    let regrouped : body ≡ ls ++ (ss ++ rest) = append_assoc ls ss rest in
    let both : length (ls ++ ss) ≡ 2 * locals + 2 * stack = omega (arith, length-append ls ss, l, s) in
    let long : 2 * locals + 2 * stack ≤ length body = omega (arith, length-append (ls ++ ss) rest, both) in
    let first : take (2 * locals) body ≡ ls = ap (take (2 * locals)) regrouped ∙ take_at ls (ss ++ rest) (2 * locals) l in
    let second : take (2 * stack) (drop (2 * locals) body) ≡ ss = ap (λ (b : List ℕ). take (2 * stack) (drop (2 * locals) b)) regrouped ∙ ap (take (2 * stack)) (drop_at ls (ss ++ rest) (2 * locals) l) ∙ take_at ss rest (2 * stack) s in
    let third : drop (2 * stack) (drop (2 * locals) body) ≡ rest = ap (λ (b : List ℕ). drop (2 * stack) (drop (2 * locals) b)) regrouped ∙ ap (drop (2 * stack)) (drop_at ls (ss ++ rest) (2 * locals) l) ∙ drop_at ss rest (2 * stack) s in
    frame_at_is bytes f.supplied locals stack body (omega arith) refl is.locals (mask_again f.supplied is.supplied) (number_again 2 stack body is.stack) refl
    ∙ framed_is bytes f.return_place f.result f.supplied locals stack body rest f.locals f.stack long (number_again 3 f.return_place (drop 3 bytes) is.return_place) refl first second third is.local_words is.stack_words

frames_with : (n b : ℕ) (bytes rest : List ℕ) (f : Frame) (fs : List Frame) → frame_at (b ∷ bytes) ≡ Ok (f, rest) → frames_within n rest ≡ Ok fs → frames_within (suc n) (b ∷ bytes) ≡ Ok (f ∷ fs)
unfolding frames_within
frames_with n b bytes rest f fs e g = rw (e, g) refl

frames_nil : (n : ℕ) → frames_within n [] ≡ Ok []
unfolding frames_within
frames_nil zero = refl
frames_nil (suc n) = refl

pub frames_again : (n : ℕ) (fs : List Frame) → length fs ≤ n → AllByRecursion IsFrame fs → frames_within n (frames_bytes fs) ≡ Ok fs
frames_again n [] few each = frames_nil n
frames_again zero (f ∷ fs) few each = absurd (omega (arith, few))
frames_again (suc n) (f ∷ fs) few each =
    let rest = frames_bytes fs in
    frames_with n _ _ rest f fs (frame_again f rest each.0) (frames_again n fs (omega (arith, few)) each.1)

-- What is read is spelled so.
use Rattle.std.proofs.Common.{◌≡◌, inl, inr, ℕ, zero, suc, ◌+◌, ◌*◌, ◌-◌, ◌/◌, ◌%◌, ◌^◌, ◌<◌, ◌≤◌, Bool, true, false, List, [], ◌∷◌, ◌++◌, length, get_or, take, drop, Ok, Err, refl, sym, ap, subst, ◌∙◌, append_assoc, arith}
use Rattle.std.specs.Prelude.{◌==◌, ◌||◌, ◌&&◌, not, replicate, nat_le}
use Rattle.std.specs.List.{flat_map, AllByRecursion}
use Rattle.std.proofs.Math.Seq.{drop-cons}
use Rattle.std.proofs.lemmas.Bool.{leb-true, cases_Bool, eqb-true}
use Rattle.std.proofs.lemmas.List.{take-append-drop, length-take, length-drop, drop-drop}
use Rattle.byteorder.specs.Endian.{big_bytes, big_number}
use Rattle.zquetzal.specs.declared.error.SaveError.TheVariants as errors
use Rattle.zquetzal.specs.declared.limits.TheConstants.{FORM, IFZS, IFHD, HEADER_LENGTH}
use Rattle.zquetzal.specs.Saved.{Frame, IsFrame, IsWord}
use Rattle.zquetzal.specs.Grammar.{Chunk, IsChunk, chunk_bytes, words_bytes, frame_head, frame_bytes, frames_bytes}
use Rattle.zquetzal.specs.Reading.{body_of, sized_chunk, chunk_at, chunks_within, supplied_by, words_of, framed, frame_at, frames_within}
use Rattle.zquetzal.proofs.Steps.{bind_ok, need_ok, ok_is}
use Rattle.zquetzal.proofs.Numbers.{IsBytes, IsBytes-drop, IsBytes-take, front_4, taken_2, taken_3, number_fits}
use Rattle.zquetzal.proofs.Words.{words_taken, words_fit, length-words_of}

pub both_true : (a b : Bool) → (a && b) ≡ true → (a ≡ true) × (b ≡ true)
both_true true true e = (refl, refl)
both_true true false e = absurd cc
both_true false b e = absurd cc

-- ---- chunks

-- what a step took from the front
pub record Takes (bytes text rest : List ℕ) : Type 0 where
  pub parts : bytes ≡ text ++ rest
  pub rest_fits : IsBytes rest

unpadded : (m n : ℕ) (body : List ℕ) → m < 2 → n + m ≤ length body → ((m == 0) || (get_or body n 0 == 0)) ≡ true → drop n body ≡ replicate m 0 ++ drop (n + m) body
unpadded zero n body low long e = ap (λ (k : ℕ). drop k body) (omega arith)
unpadded (suc zero) n body low long e =
    let first : get_or body n 0 ≡ 0 = eqb-true (get_or body n 0) 0 e in
    let cut : drop n body ≡ get_or body n 0 ∷ drop (suc n) body = drop-cons body n 0 (omega (arith, long)) in
    let more : suc n ≡ n + 1 = omega arith in
    cut ∙ ap (λ (x : ℕ). x ∷ drop (suc n) body) first ∙ ap (λ (k : ℕ). 0 ∷ drop k body) more
unpadded (suc (suc m)) n body low long e = absurd (omega (arith, low))

unheaded : (id size : ℕ) → (not (id == IFHD) || (size == HEADER_LENGTH)) ≡ true → id ≡ IFHD → size ≡ HEADER_LENGTH
unheaded id size e same = eqb-true size HEADER_LENGTH (rw same at e)

-- the data of a chunk, and what follows its pad byte
pub record TakesSized (id size : ℕ) (body : List ℕ) (c : Chunk) (rest : List ℕ) : Type 0 where
  pub id_is : c.id ≡ id
  pub size_is : length c.contents ≡ size
  pub contents : c.contents ≡ take size body
  pub parts : body ≡ c.contents ++ (replicate (length c.contents % 2) 0 ++ rest)
  pub rest_is : rest ≡ drop (size + size % 2) body
  pub header : c.id ≡ IFHD → length c.contents ≡ HEADER_LENGTH

pub sized_takes : (id size : ℕ) (body : List ℕ) (x : Chunk × List ℕ) → sized_chunk id size body ≡ Ok x → TakesSized id size body x.0 x.1
unfolding sized_chunk
sized_takes id size body x e =
    let a = need_ok (nat_le (size + size % 2) (length body)) _ _ _ e in
    let b = need_ok ((size % 2 == 0) || (get_or body size 0 == 0)) _ _ _ a.1 in
    let h = need_ok (not (id == IFHD) || (size == HEADER_LENGTH)) _ _ _ b.1 in
    let long : size + size % 2 ≤ length body = leb-true _ _ a.0 in
    let made : Chunk × List ℕ = (record { id = id; contents = take size body }, drop (size + size % 2) body) in
    let size_is : length (take size body) ≡ size = omega (arith, length-take size body) in
    let pad : drop size body ≡ replicate (size % 2) 0 ++ drop (size + size % 2) body = unpadded (size % 2) size body (omega arith) long b.0 in
    let parts : body ≡ take size body ++ (replicate (size % 2) 0 ++ drop (size + size % 2) body) = sym (take-append-drop size body) ∙ ap (λ (t : List ℕ). take size body ++ t) pad in
    subst (λ (y : Chunk × List ℕ). TakesSized id size body y.0 y.1) {x = made} (ok_is made x h.1) (record {
      id_is = refl;
      size_is = size_is;
      contents = refl;
      parts = rw size_is parts;
      rest_is = refl;
      header = λ same. size_is ∙ unheaded id size h.0 same;
    })

four : (a b c d rest : List ℕ) → a ++ (b ++ (c ++ (d ++ rest))) ≡ (a ++ b ++ c ++ d) ++ rest
four a b c d rest = simp append_assoc

pub record TakesChunk (bytes : List ℕ) (c : Chunk) (rest : List ℕ) : Type 0 where
  pub takes : Takes bytes (chunk_bytes c) rest
  pub is : IsChunk c
  pub fits : IsBytes c.contents

chunk_takes : (bytes : List ℕ) (x : Chunk × List ℕ) → IsBytes bytes → chunk_at bytes ≡ Ok x → TakesChunk bytes x.0 x.1
unfolding chunk_at
chunk_takes bytes x fits e =
    let a = need_ok (nat_le 8 (length bytes)) _ _ _ e in
    let long : 8 ≤ length bytes = leb-true _ _ a.0 in
    let id = big_number 4 bytes in
    let size = big_number 4 (drop 4 bytes) in
    let t = sized_takes id size (drop 8 bytes) x a.1 in
    let c = x.0 in
    let rest = x.1 in
    let first : bytes ≡ big_bytes 4 id ++ drop 4 bytes = front_4 bytes (omega (arith, long)) fits in
    let second : drop 4 bytes ≡ big_bytes 4 size ++ drop 4 (drop 4 bytes) = front_4 (drop 4 bytes) (omega (arith, long, length-drop 4 bytes)) (IsBytes-drop 4 bytes fits) in
    let behind : drop 4 (drop 4 bytes) ≡ drop 8 bytes = drop-drop 4 4 bytes in
    let pad : List ℕ = replicate (length c.contents % 2) 0 in
    let whole : bytes ≡ big_bytes 4 id ++ (big_bytes 4 size ++ (c.contents ++ (pad ++ rest))) =
    first ∙ ap (λ (t : List ℕ). big_bytes 4 id ++ t) (second ∙ ap (λ (t : List ℕ). big_bytes 4 size ++ t) (behind ∙ t.parts))
    in
    let same : bytes ≡ big_bytes 4 c.id ++ (big_bytes 4 (length c.contents) ++ (c.contents ++ (pad ++ rest))) =
    whole ∙ ap (λ (i : ℕ). big_bytes 4 i ++ (big_bytes 4 size ++ (c.contents ++ (pad ++ rest)))) (sym t.id_is) ∙ ap (λ (n : ℕ). big_bytes 4 c.id ++ (big_bytes 4 n ++ (c.contents ++ (pad ++ rest)))) (sym t.size_is)
    in
    record {
      takes = record { parts = same ∙ four (big_bytes 4 c.id) (big_bytes 4 (length c.contents)) c.contents pad rest; rest_fits = rw t.rest_is (IsBytes-drop (size + size % 2) (drop 8 bytes) (IsBytes-drop 8 bytes fits)) };
      is = record { id = rw t.id_is (number_fits 4 bytes fits); size = rw t.size_is (number_fits 4 (drop 4 bytes) (IsBytes-drop 4 bytes fits)); header = t.header };
      fits = rw t.contents (IsBytes-take size (drop 8 bytes) (IsBytes-drop 8 bytes fits));
    }

pub record TakesChunks (bytes : List ℕ) (cs : List Chunk) : Type 0 where
  pub parts : bytes ≡ flat_map chunk_bytes cs
  pub each : AllByRecursion IsChunk cs
  pub fits : AllByRecursion (λ (c : Chunk). IsBytes c.contents) cs

pub chunks_take : (n : ℕ) (bytes : List ℕ) (cs : List Chunk) → IsBytes bytes → chunks_within n bytes ≡ Ok cs → TakesChunks bytes cs
unfolding chunks_within
chunks_take zero [] cs fits e = subst (λ (x : List Chunk). TakesChunks [] x) {x = []} (ok_is [] cs e) (record { parts = refl; each = tt; fits = tt })
chunks_take (suc n) [] cs fits e = subst (λ (x : List Chunk). TakesChunks [] x) {x = []} (ok_is [] cs e) (record { parts = refl; each = tt; fits = tt })
chunks_take zero (b ∷ bytes) cs fits e = absurd cc
chunks_take (suc n) (b ∷ bytes) cs fits e =
    let a = bind_ok (chunk_at (b ∷ bytes)) _ _ e in
    let d = bind_ok (chunks_within n a.0.1) _ _ a.2 in
    let first = chunk_takes (b ∷ bytes) a.0 fits a.1 in
    let others = chunks_take n a.0.1 d.0 first.takes.rest_fits d.1 in
    let made : List Chunk = a.0.0 ∷ d.0 in
    subst (λ (x : List Chunk). TakesChunks (b ∷ bytes) x) {x = made} (ok_is made cs d.2) (record {
      parts = first.takes.parts ∙ ap (λ (t : List ℕ). chunk_bytes a.0.0 ++ t) others.parts;
      each = (first.is, others.each);
      fits = (first.fits, others.fits);
    })

pub record TakesBody (bytes body : List ℕ) : Type 0 where
  pub parts : bytes ≡ big_bytes 4 FORM ++ big_bytes 4 (4 + length body) ++ big_bytes 4 IFZS ++ body
  pub short : length bytes < 2 ^ 32 + 8
  pub fits : IsBytes body

three : (a b c rest : List ℕ) → a ++ (b ++ (c ++ rest)) ≡ a ++ b ++ c ++ rest
three a b c rest = simp append_assoc

pub body_takes : (bytes body : List ℕ) → IsBytes bytes → body_of bytes ≡ Ok body → TakesBody bytes body
unfolding body_of
body_takes bytes body fits e =
    let a = need_ok (nat_le 12 (length bytes) && (big_number 4 bytes == FORM) && (big_number 4 (drop 8 bytes) == IFZS)) _ _ _ e in
    let b = need_ok (big_number 4 (drop 4 bytes) + 8 == length bytes) _ _ _ a.1 in
    let o = both_true _ _ a.0 in
    let p = both_true _ _ o.0 in
    let long : 12 ≤ length bytes = leb-true _ _ p.0 in
    let form : big_number 4 bytes ≡ FORM = eqb-true (big_number 4 bytes) FORM p.1 in
    let kind : big_number 4 (drop 8 bytes) ≡ IFZS = eqb-true (big_number 4 (drop 8 bytes)) IFZS o.1 in
    let size : big_number 4 (drop 4 bytes) + 8 ≡ length bytes = eqb-true (big_number 4 (drop 4 bytes) + 8) (length bytes) b.0 in
    let first : bytes ≡ big_bytes 4 (big_number 4 bytes) ++ drop 4 bytes = front_4 bytes (omega (arith, long)) fits in
    let second : drop 4 bytes ≡ big_bytes 4 (big_number 4 (drop 4 bytes)) ++ drop 4 (drop 4 bytes) = front_4 (drop 4 bytes) (omega (arith, long, length-drop 4 bytes)) (IsBytes-drop 4 bytes fits) in
    let third : drop 8 bytes ≡ big_bytes 4 (big_number 4 (drop 8 bytes)) ++ drop 4 (drop 8 bytes) = front_4 (drop 8 bytes) (omega (arith, long, length-drop 8 bytes)) (IsBytes-drop 8 bytes fits) in
    let rest = drop 12 bytes in
    let count : big_number 4 (drop 4 bytes) ≡ 4 + length rest = omega (arith, size, long, length-drop 12 bytes) in
    let at_8 : drop 4 (drop 4 bytes) ≡ drop 8 bytes = drop-drop 4 4 bytes in
    let at_12 : drop 4 (drop 8 bytes) ≡ rest = drop-drop 4 8 bytes in
    let behind : drop 8 bytes ≡ big_bytes 4 IFZS ++ rest = third ∙ ap (λ (i : ℕ). big_bytes 4 i ++ drop 4 (drop 8 bytes)) kind ∙ ap (λ (t : List ℕ). big_bytes 4 IFZS ++ t) at_12 in
    let middle : drop 4 bytes ≡ big_bytes 4 (4 + length rest) ++ (big_bytes 4 IFZS ++ rest) = second ∙ ap (λ (i : ℕ). big_bytes 4 i ++ drop 4 (drop 4 bytes)) count ∙ ap (λ (t : List ℕ). big_bytes 4 (4 + length rest) ++ t) (at_8 ∙ behind) in
    let whole : bytes ≡ big_bytes 4 FORM ++ (big_bytes 4 (4 + length rest) ++ (big_bytes 4 IFZS ++ rest)) = first ∙ ap (λ (i : ℕ). big_bytes 4 i ++ drop 4 bytes) form ∙ ap (λ (t : List ℕ). big_bytes 4 FORM ++ t) middle in
    let below : big_number 4 (drop 4 bytes) < 2 ^ 32 = number_fits 4 (drop 4 bytes) (IsBytes-drop 4 bytes fits) in
    subst (λ (x : List ℕ). TakesBody bytes x) {x = rest} (ok_is rest body b.1) (record {
      parts = whole ∙ three (big_bytes 4 FORM) (big_bytes 4 (4 + length rest)) (big_bytes 4 IFZS) rest;
      short = omega (arith, below, size);
      fits = IsBytes-drop 12 bytes fits;
    })

-- ---- frames

mask_takes : (mask supplied : ℕ) → supplied_by mask ≡ Ok supplied → (supplied ≤ 3) × (2 ^ supplied - 1 ≡ mask)
mask_takes mask supplied e =
    elim (cases_Bool (mask == 0)) [
      | inl a ↦ told mask 0 supplied (omega arith) (let s = eqb-true mask 0 a in omega (arith, s)) (ok_is 0 supplied (rw a at e))
      | inr a ↦ elim (cases_Bool (mask == 1)) [
        | inl b ↦ told mask 1 supplied (omega arith) (let s = eqb-true mask 1 b in omega (arith, s)) (ok_is 1 supplied (rw (a, b) at e))
        | inr b ↦ elim (cases_Bool (mask == 3)) [
          | inl d ↦ told mask 2 supplied (omega arith) (let s = eqb-true mask 3 d in omega (arith, s)) (ok_is 2 supplied (rw (a, b, d) at e))
          | inr d ↦ elim (cases_Bool (mask == 7)) [
            | inl f ↦ told mask 3 supplied (omega arith) (let s = eqb-true mask 7 f in omega (arith, s)) (ok_is 3 supplied (rw (a, b, d, f) at e))
            | inr f ↦ absurd (let g : Err errors.Frames ≡ Ok supplied = rw (a, b, d, f) at e in cc)
          ]
        ]
      ]
    ]
  where
    told : (mask n supplied : ℕ) → n ≤ 3 → 2 ^ n - 1 ≡ mask → n ≡ supplied → (supplied ≤ 3) × (2 ^ supplied - 1 ≡ mask)
    told mask n supplied few e same = subst (λ (x : ℕ). (x ≤ 3) × (2 ^ x - 1 ≡ mask)) same (few, e)

pub record TakesFrame (bytes : List ℕ) (f : Frame) (rest : List ℕ) : Type 0 where
  pub takes : Takes bytes (frame_bytes f) rest
  pub is : IsFrame f

-- what the words of a frame are
pub record TakesFramed (head : List ℕ) (supplied locals stack : ℕ) (body : List ℕ) (f : Frame) (rest : List ℕ) : Type 0 where
  pub return_place : f.return_place ≡ big_number 3 head
  pub result : f.result ≡ get_or head 4 0
  pub supplied_is : f.supplied ≡ supplied
  pub locals_are : length f.locals ≡ locals
  pub local_words : AllByRecursion IsWord f.locals
  pub stack_is : length f.stack ≡ stack
  pub stack_words : AllByRecursion IsWord f.stack
  pub parts : body ≡ words_bytes f.locals ++ (words_bytes f.stack ++ rest)
  pub rest_is : rest ≡ drop (2 * stack) (drop (2 * locals) body)

halved : (n k : ℕ) → n ≡ 2 * k → (n % 2 ≡ 0) × (n / 2 ≡ k)
halved n k e = (omega (arith, e), omega (arith, e))

framed_takes : (head : List ℕ) (supplied locals stack : ℕ) (body : List ℕ) (x : Frame × List ℕ) → IsBytes body → framed head supplied locals stack body ≡ Ok x → TakesFramed head supplied locals stack body x.0 x.1
unfolding framed
framed_takes head supplied locals stack body x fits e =
    let a = need_ok (nat_le (2 * locals + 2 * stack) (length body)) _ _ _ e in
    let long : 2 * locals + 2 * stack ≤ length body = leb-true _ _ a.0 in
    let ls = take (2 * locals) body in
    let behind = drop (2 * locals) body in
    let ss = take (2 * stack) behind in
    let rest = drop (2 * stack) behind in
    let l : length ls ≡ 2 * locals = omega (arith, length-take (2 * locals) body, long) in
    let s : length ss ≡ 2 * stack = omega (arith, length-take (2 * stack) behind, length-drop (2 * locals) body, long) in
    let l2 = halved (length ls) locals l in
    let s2 = halved (length ss) stack s in
    let behind_fits = IsBytes-drop (2 * locals) body fits in
    let ls_fits = IsBytes-take (2 * locals) body fits in
    let ss_fits = IsBytes-take (2 * stack) behind behind_fits in
    let lw : words_bytes (words_of ls) ≡ ls = words_taken ls ls_fits l2.0 in
    let sw : words_bytes (words_of ss) ≡ ss = words_taken ss ss_fits s2.0 in
    let whole : body ≡ ls ++ (ss ++ rest) = sym (take-append-drop (2 * locals) body) ∙ ap (λ (t : List ℕ). ls ++ t) (sym (take-append-drop (2 * stack) behind)) in
    let made : Frame × List ℕ = (record { return_place = big_number 3 head; result = get_or head 4 0; supplied = supplied; locals = words_of ls; stack = words_of ss }, rest) in
    subst (λ (y : Frame × List ℕ). TakesFramed head supplied locals stack body y.0 y.1) {x = made} (ok_is made x a.1) (record {
      return_place = refl;
      result = refl;
      supplied_is = refl;
      locals_are = length-words_of ls ∙ l2.1;
      local_words = words_fit ls ls_fits;
      stack_is = length-words_of ss ∙ s2.1;
      stack_words = words_fit ss ss_fits;
      parts = whole ∙ ap (λ (t : List ℕ). t ++ (ss ++ rest)) (sym lw) ∙ ap (λ (t : List ℕ). words_bytes (words_of ls) ++ (t ++ rest)) (sym sw);
      rest_is = refl;
    })

-- the head of a frame
abbrev headed : ℕ → ℕ → ℕ → ℕ → ℕ → List ℕ
headed place locals result mask stack = big_bytes 3 place ++ locals ∷ result ∷ mask ∷ [] ++ big_bytes 2 stack

head_is : (bytes : List ℕ) → 8 ≤ length bytes → IsBytes bytes → bytes ≡ headed (big_number 3 bytes) (get_or bytes 3 0) (get_or bytes 4 0) (get_or bytes 5 0) (big_number 2 (drop 6 bytes)) ++ drop 8 bytes
head_is (a ∷ b ∷ c ∷ d ∷ e ∷ f ∷ g ∷ h ∷ rest) long fits =
    let bytes : List ℕ = a ∷ b ∷ c ∷ d ∷ e ∷ f ∷ g ∷ h ∷ rest in
    let first : big_bytes 3 (big_number 3 bytes) ≡ a ∷ b ∷ c ∷ [] = taken_3 bytes (omega arith) fits in
    let last : big_bytes 2 (big_number 2 (g ∷ h ∷ rest)) ≡ g ∷ h ∷ [] = taken_2 (g ∷ h ∷ rest) (omega arith) (IsBytes-drop 6 bytes fits) in
    sym (ap (λ (t : List ℕ). (t ++ d ∷ e ∷ f ∷ [] ++ big_bytes 2 (big_number 2 (g ∷ h ∷ rest))) ++ rest) first ∙ ap (λ (t : List ℕ). (a ∷ b ∷ c ∷ d ∷ e ∷ f ∷ [] ++ t) ++ rest) last)
head_is bytes long fits = absurd (omega (arith, long))

regrouped : (head ls ss rest : List ℕ) → head ++ (ls ++ (ss ++ rest)) ≡ (head ++ ls ++ ss) ++ rest
regrouped head ls ss rest = simp append_assoc

frame_takes : (bytes : List ℕ) (x : Frame × List ℕ) → IsBytes bytes → frame_at bytes ≡ Ok x → TakesFrame bytes x.0 x.1
unfolding frame_at
frame_takes bytes x fits e =
    let a = need_ok (nat_le 8 (length bytes)) _ _ _ e in
    let b = need_ok (nat_le (get_or bytes 3 0) 15) _ _ _ a.1 in
    let d = bind_ok (supplied_by (get_or bytes 5 0)) _ _ b.1 in
    let long : 8 ≤ length bytes = leb-true _ _ a.0 in
    let few : get_or bytes 3 0 ≤ 15 = leb-true _ _ b.0 in
    let stack = big_number 2 (drop 6 bytes) in
    let t = framed_takes bytes d.0 (get_or bytes 3 0) stack (drop 8 bytes) x (IsBytes-drop 8 bytes fits) d.2 in
    let mask = mask_takes (get_or bytes 5 0) d.0 d.1 in
    let f = x.0 in
    let rest = x.1 in
    let behind : List ℕ = words_bytes f.locals ++ (words_bytes f.stack ++ rest) in
    let whole : bytes ≡ headed (big_number 3 bytes) (get_or bytes 3 0) (get_or bytes 4 0) (get_or bytes 5 0) stack ++ behind = head_is bytes long fits ∙ ap (λ (r : List ℕ). headed (big_number 3 bytes) (get_or bytes 3 0) (get_or bytes 4 0) (get_or bytes 5 0) stack ++ r) t.parts in
    let mask_is : get_or bytes 5 0 ≡ 2 ^ f.supplied - 1 = sym mask.1 ∙ ap (λ (n : ℕ). 2 ^ n - 1) (sym t.supplied_is) in
    let same : bytes ≡ frame_head f ++ behind =
    whole
    ∙ ap (λ (n : ℕ). headed n (get_or bytes 3 0) (get_or bytes 4 0) (get_or bytes 5 0) stack ++ behind) (sym t.return_place)
    ∙ ap (λ (n : ℕ). headed f.return_place n (get_or bytes 4 0) (get_or bytes 5 0) stack ++ behind) (sym t.locals_are)
    ∙ ap (λ (n : ℕ). headed f.return_place (length f.locals) n (get_or bytes 5 0) stack ++ behind) (sym t.result)
    ∙ ap (λ (n : ℕ). headed f.return_place (length f.locals) f.result n stack ++ behind) mask_is
    ∙ ap (λ (n : ℕ). headed f.return_place (length f.locals) f.result (2 ^ f.supplied - 1) n ++ behind) (sym t.stack_is)
    in
    record {
      takes = record { parts = same ∙ regrouped (frame_head f) (words_bytes f.locals) (words_bytes f.stack) rest; rest_fits = rw t.rest_is (IsBytes-drop (2 * stack) _ (IsBytes-drop (2 * get_or bytes 3 0) (drop 8 bytes) (IsBytes-drop 8 bytes fits))) };
      is = record {
        return_place = rw t.return_place (number_fits 3 bytes fits);
        result = rw t.result (fits 4);
        supplied = rw t.supplied_is mask.0;
        locals = rw t.locals_are few;
        local_words = t.local_words;
        stack = rw t.stack_is (number_fits 2 (drop 6 bytes) (IsBytes-drop 6 bytes fits));
        stack_words = t.stack_words;
      };
    }

pub record TakesFrames (n : ℕ) (bytes : List ℕ) (fs : List Frame) : Type 0 where
  pub parts : bytes ≡ frames_bytes fs
  pub each : AllByRecursion IsFrame fs
  pub few : length fs ≤ n

pub frames_take : (n : ℕ) (bytes : List ℕ) (fs : List Frame) → IsBytes bytes → frames_within n bytes ≡ Ok fs → TakesFrames n bytes fs
unfolding frames_within
frames_take zero [] fs fits e = subst (λ (x : List Frame). TakesFrames 0 [] x) {x = []} (ok_is [] fs e) (record { parts = refl; each = tt; few = omega arith })
frames_take (suc n) [] fs fits e = subst (λ (x : List Frame). TakesFrames (suc n) [] x) {x = []} (ok_is [] fs e) (record { parts = refl; each = tt; few = omega arith })
frames_take zero (b ∷ bytes) fs fits e = absurd cc
frames_take (suc n) (b ∷ bytes) fs fits e =
    let a = bind_ok (frame_at (b ∷ bytes)) _ _ e in
    let d = bind_ok (frames_within n a.0.1) _ _ a.2 in
    let first = frame_takes (b ∷ bytes) a.0 fits a.1 in
    let others = frames_take n a.0.1 d.0 first.takes.rest_fits d.1 in
    let made : List Frame = a.0.0 ∷ d.0 in
    subst (λ (x : List Frame). TakesFrames (suc n) (b ∷ bytes) x) {x = made} (ok_is made fs d.2) (record {
      parts = first.takes.parts ∙ ap (λ (t : List ℕ). frame_bytes a.0.0 ++ t) others.parts;
      each = (first.is, others.each);
      few = omega (arith, others.few);
    })

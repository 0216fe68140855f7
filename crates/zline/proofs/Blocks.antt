-- What is said of words is put down word by word.
use Rattle.std.proofs.Common.{◌≡◌, ◌∙◌, ℕ, zero, suc, ◌+◌, ◌-◌, ◌*◌, ◌<◌, List, [], ◌∷◌, length, take, refl, sym, ap, subst, arith}
use Rattle.zdict.specs.Parts.{AreParts, IsPart}
use Rattle.zdict.specs.Tokens.{Span, tokens}
use Rattle.zdict.proofs.Parts.{parts_of_line}
use Rattle.zline.specs.Storing.{block, with_blocks, with_bytes}

pub take_none : (n : ℕ) (words : List Span) → words ≡ [] → take n words ≡ []
take_none zero words e = refl
take_none (suc n) [] e = refl
take_none (suc n) (word ∷ words) e = absurd cc

-- of the words that are left, one is the next
pub take_next : {A : Type 0} (limit count : ℕ) (x : A) (xs left : List A) → count < limit → left ≡ x ∷ xs → take (limit - count) left ≡ x ∷ take (limit - (count + 1)) xs
take_next limit count x xs left more e =
    let next : limit - count ≡ suc (limit - (count + 1)) = omega (arith, more) in
    rw (e, next) refl

pub one_more : {A : Type 0} (limit count size : ℕ) (x : A) (xs left : List A) → count < limit → left ≡ x ∷ xs → size ≡ count + length (take (limit - count) left) → size ≡ count + 1 + length (take (limit - (count + 1)) xs)
one_more limit count size x xs left more e all = let next = ap length (take_next limit count x xs left more e) in omega (arith, all, next)

pub blocks_on : (story : List ℕ) (place limit count : ℕ) (word : Span) (rest left : List Span) (memory whole : List ℕ) → count < limit → left ≡ word ∷ rest → whole ≡ with_blocks story (place + 4 * count) (take (limit - count) left) memory → whole ≡ with_blocks story (place + 4 * (count + 1)) (take (limit - (count + 1)) rest) (with_bytes (place + 4 * count) (block story word) memory)
unfolding with_blocks
blocks_on story place limit count word rest left memory whole more e all =
    let on : place + 4 * count + 4 ≡ place + 4 * (count + 1) = omega arith in
    all ∙ ap (λ (words : List Span). with_blocks story (place + 4 * count) words memory) (take_next limit count word rest left more e) ∙ ap (λ (p : ℕ). with_blocks story p (take (limit - (count + 1)) rest) (with_bytes (place + 4 * count) (block story word) memory)) on

pub blocks_end : (story : List ℕ) (place : ℕ) (words : List Span) (memory whole : List ℕ) → words ≡ [] → whole ≡ with_blocks story place words memory → memory ≡ whole
unfolding with_blocks
blocks_end story place words memory whole e all = sym (all ∙ ap (λ (ws : List Span). with_blocks story place ws memory) e)

-- at the start all words are left
pub all_left : (limit : ℕ) (left words : List Span) → words ≡ take limit left → length words ≡ 0 + length (take (limit - 0) left)
all_left limit left words e = let none : limit - 0 ≡ limit = omega arith in rw none (omega (arith, ap length e))

pub blocks_begin : (story : List ℕ) (place limit : ℕ) (words left : List Span) (memory : List ℕ) → words ≡ take limit left → with_blocks story place words memory ≡ with_blocks story (place + 0) (take (limit - 0) left) memory
blocks_begin story place limit words left memory e = let none : limit - 0 ≡ limit = omega arith in let here : place + 0 ≡ place = omega arith in rw (none, here, e) refl

pub parts_begin : (listed text : List ℕ) (left : List Span) → left ≡ tokens listed text → (from : ℕ) × AreParts text from left
parts_begin listed text left e = (0, subst (AreParts text 0) (sym e) (parts_of_line listed text))

pub part_next : (text : List ℕ) (word : Span) (rest left : List Span) → left ≡ word ∷ rest → (from : ℕ) × AreParts text from left → IsPart text word × ((from : ℕ) × AreParts text from rest)
part_next text word rest left e h = let parts : AreParts text h.0 (word ∷ rest) = subst (AreParts text h.0) e h.1 in (parts.1, (word.place + length word.bytes, parts.2))

pub put_at : (place from count : ℕ) (bytes told memory new : List ℕ) → from ≡ count → bytes ≡ told → new ≡ with_bytes (place + 4 * from) bytes memory → new ≡ with_bytes (place + 4 * count) told memory
put_at place from count bytes told memory new at is e = rw (← at, ← is) e

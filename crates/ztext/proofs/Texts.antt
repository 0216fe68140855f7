-- The text at the front of bytes, and its length.
use Rattle.std.proofs.Common.{◌≡◌, ℕ, ◌+◌, ◌<◌, ◌≤◌, Bool, true, false, cond, nat_lt, List, [], ◌∷◌, ◌++◌, length, take, drop, Option, Some, None, option_map, refl, sym, ap, ◌∙◌}
use Rattle.std.proofs.Math.Seq.{take-append_seam, drop-append_seam}
use Rattle.std.proofs.lemmas.List.{drop-drop}
use Rattle.std.proofs.lemmas.Bool.{ltb-true, ltb-false, lt-ltb, le-ltb}
use Rattle.ztext.specs.Words.{IsText, after_text, front_text, text_at, length_at}

-- the length of the text at the front, behind so many bytes
abbrev pub size_after : ℕ → List ℕ → Option ℕ
size_after size bytes = option_map (λ n. size + n) (option_map length (front_text bytes))

-- the bytes are one text and what follows it
pub record IsCut (bytes text rest : List ℕ) : Type 0 where
  pub joined : bytes ≡ text ++ rest
  pub text_is : IsText text
  pub after : after_text bytes ≡ Some rest

IsText-more : (h l : ℕ) (text : List ℕ) → h < 128 → IsText text → IsText (h ∷ l ∷ text)
IsText-more h l [] below t = absurd t
IsText-more h l (b ∷ text) below t = (below, t)

-- a text whose first word isn't its last
IsCut-more : (h l : ℕ) (bytes text rest : List ℕ) → h < 128 → IsCut bytes text rest → IsCut (h ∷ l ∷ bytes) (h ∷ l ∷ text) rest
IsCut-more h l bytes text rest below cut = record {
  joined = ap (λ (xs : List ℕ). h ∷ l ∷ xs) cut.joined;
  text_is = IsText-more h l text below cut.text_is;
  after = rw (lt-ltb h 128 below) cut.after;
}

-- a text of one word
IsCut-end : (h l : ℕ) (bytes : List ℕ) → 128 ≤ h → IsCut (h ∷ l ∷ bytes) (h ∷ l ∷ []) bytes
IsCut-end h l bytes above = record {
  joined = refl;
  text_is = above;
  after = rw (le-ltb h 128 above) refl;
}

from_rest : (h l : ℕ) (bytes text : List ℕ) (front : Option (List ℕ)) → h < 128 → ((t : List ℕ) → front ≡ Some t → (rest : List ℕ) × IsCut bytes t rest) → option_map (λ t. h ∷ l ∷ t) front ≡ Some text → (rest : List ℕ) × IsCut (h ∷ l ∷ bytes) text rest
from_rest h l bytes text None below cut e = absurd cc
from_rest h l bytes text (Some t) below cut e =
    let p = cut t refl in
    let same : h ∷ l ∷ t ≡ text = cc in
    (p.0, rw (← same) (IsCut-more h l bytes t p.0 below p.1))

from_first : (h l : ℕ) (bytes text : List ℕ) (below : Bool) → nat_lt h 128 ≡ below → ((t : List ℕ) → front_text bytes ≡ Some t → (rest : List ℕ) × IsCut bytes t rest) → cond below (option_map (λ t. h ∷ l ∷ t) (front_text bytes)) (Some (h ∷ l ∷ [])) ≡ Some text
    → (rest : List ℕ) × IsCut (h ∷ l ∷ bytes) text rest
from_first h l bytes text true t cut e = from_rest h l bytes text (front_text bytes) (ltb-true h 128 t) cut e
from_first h l bytes text false t cut e = let same : h ∷ l ∷ [] ≡ text = cc in (bytes, rw (← same) (IsCut-end h l bytes (ltb-false h 128 t)))

-- what front_text finds is a text, and what follows it is after_text
pub IsCut-from_front : (bytes text : List ℕ) → front_text bytes ≡ Some text → (rest : List ℕ) × IsCut bytes text rest
IsCut-from_front [] text e = absurd cc
IsCut-from_front (h ∷ []) text e = absurd cc
IsCut-from_front (h ∷ l ∷ bytes) text e = from_first h l bytes text (nat_lt h 128) refl (λ t f. IsCut-from_front bytes t f) e

-- what is cut into a text and a rest has that text at its front
pub front_text-cut : (text rest : List ℕ) → IsText text → front_text (text ++ rest) ≡ Some text
front_text-cut [] rest t = absurd t
front_text-cut (h ∷ []) rest t = absurd t
front_text-cut (h ∷ l ∷ []) rest t = rw (le-ltb h 128 t) refl
front_text-cut (h ∷ l ∷ b ∷ text) rest t = rw (lt-ltb h 128 t.0) (rw (front_text-cut (b ∷ text) rest t.1) refl)

pub after_text-cut : (text rest : List ℕ) → IsText text → after_text (text ++ rest) ≡ Some rest
after_text-cut [] rest t = absurd t
after_text-cut (h ∷ []) rest t = absurd t
after_text-cut (h ∷ l ∷ []) rest t = rw (le-ltb h 128 t) refl
after_text-cut (h ∷ l ∷ b ∷ text) rest t = rw (lt-ltb h 128 t.0) (after_text-cut (b ∷ text) rest t.1)

-- where no text is found at the front, nothing follows it
pub after_text-none : (bytes : List ℕ) → front_text bytes ≡ None → after_text bytes ≡ None
after_text-none [] e = refl
after_text-none (h ∷ []) e = refl
after_text-none (h ∷ l ∷ bytes) e = first (nat_lt h 128) (front_text bytes) refl (λ f. after_text-none bytes f) e
  where
    first : (below : Bool) (front : Option (List ℕ)) → front_text bytes ≡ front → (front ≡ None → after_text bytes ≡ None) → cond below (option_map (λ t. h ∷ l ∷ t) front) (Some (h ∷ l ∷ [])) ≡ None → cond below (after_text bytes) (Some bytes) ≡ None
    first true None f more e = more refl
    first true (Some t) f more e = absurd cc
    first false front f more e = absurd cc

front_text_taken : (bytes : List ℕ) (size : ℕ) (front : Option (List ℕ)) → front_text bytes ≡ front → option_map length front ≡ Some size → front_text bytes ≡ Some (take size bytes)
front_text_taken bytes size None e s = absurd cc
front_text_taken bytes size (Some text) e s =
    let p = IsCut-from_front bytes text e in
    let same : length text ≡ size = cc in
    let taken : take size bytes ≡ text = rw (← same, p.1.joined) (take-append_seam text p.0) in
    rw taken e

-- the text of a length is that many bytes from its place on
pub text_at_taken : (memory : List ℕ) (at size : ℕ) → length_at memory at ≡ Some size → text_at memory at ≡ Some (take size (drop at memory))
text_at_taken memory at size e = front_text_taken (drop at memory) size (front_text (drop at memory)) refl e

-- the text at the front is cut off there
IsCut-at_front : (bytes text : List ℕ) → front_text bytes ≡ Some text → IsCut bytes text (drop (length text) bytes)
IsCut-at_front bytes text e =
    let p = IsCut-from_front bytes text e in
    let rest : p.0 ≡ drop (length text) bytes = sym (ap (drop (length text)) p.1.joined ∙ drop-append_seam text p.0) in
    rw rest at p.1

-- the text at a place is cut out of memory there
pub IsCut-from_text_at : (memory : List ℕ) (at : ℕ) (text : List ℕ) → text_at memory at ≡ Some text → IsCut (drop at memory) text (drop (length text) (drop at memory))
IsCut-from_text_at memory at text e = IsCut-at_front (drop at memory) text e

after_front : (bytes : List ℕ) (size : ℕ) (front : Option (List ℕ)) → front_text bytes ≡ front → option_map length front ≡ Some size → after_text bytes ≡ Some (drop size bytes)
after_front bytes size None e s = absurd cc
after_front bytes size (Some text) e s = let same : length text ≡ size = cc in rw same at (IsCut-at_front bytes text e).after

-- what follows a text of a length
pub after_text-some : (memory : List ℕ) (at size : ℕ) → length_at memory at ≡ Some size → after_text (drop at memory) ≡ Some (drop (at + size) memory)
after_text-some memory at size e =
    after_front (drop at memory) size (front_text (drop at memory)) refl e ∙ ap (λ (xs : List ℕ). Some xs) (drop-drop size at memory)

after_no_front : (bytes : List ℕ) (front : Option (List ℕ)) → front_text bytes ≡ front → option_map length front ≡ None → after_text bytes ≡ None
after_no_front bytes None e s = after_text-none bytes e
after_no_front bytes (Some text) e s = absurd cc

-- and where there is no text
pub after_text-no_text : (memory : List ℕ) (at : ℕ) → length_at memory at ≡ None → after_text (drop at memory) ≡ None
after_text-no_text memory at e = after_no_front (drop at memory) (front_text (drop at memory)) refl e

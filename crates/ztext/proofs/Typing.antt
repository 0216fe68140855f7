-- Z-characters that come one after another, of which six are kept.
use Rattle.std.proofs.Common.{◌≡◌, ◌∙◌, ℕ, zero, suc, ◌+◌, ◌<◌, List, [], ◌∷◌, ◌++◌, ◌/◌, ◌%◌, Some, None, take, drop, map, length, get_or, refl, sym, ap}
use Rattle.std.specs.Prelude.{Option, flat_map}
use Rattle.std.proofs.lemmas.List.{append_assoc, map_more}
use Rattle.std.proofs.lemmas.Grind.{flat_map-append}
use Rattle.std.proofs.lemmas.List.{append-nil}
use Rattle.ztext.specs.Alphabets.{marks}
use Rattle.ztext.specs.Typed.{character_in, marked}

-- to cut before more is put behind changes nothing
pub cut_again : (n : ℕ) (xs ys : List ℕ) → take n (take n xs ++ ys) ≡ take n (xs ++ ys)
cut_again zero xs ys = refl
cut_again (suc n) [] ys = refl
cut_again (suc n) (x ∷ xs) ys = ap (λ (rest : List ℕ). x ∷ rest) (cut_again n xs ys)

pub two_pushed : (xs ys : List ℕ) (a : ℕ) → take 6 (take 6 (xs ++ a ∷ []) ++ ys) ≡ take 6 (xs ++ a ∷ ys)
two_pushed xs ys a = cut_again 6 (xs ++ a ∷ []) ys ∙ ap (λ (all : List ℕ). take 6 all) (append_assoc xs (a ∷ []) ys)

three_pushed : (xs : List ℕ) (a b c : ℕ) → take 6 (take 6 (take 6 (xs ++ a ∷ []) ++ b ∷ []) ++ c ∷ []) ≡ take 6 (xs ++ a ∷ b ∷ c ∷ [])
three_pushed xs a b c =
    ap (λ (front : List ℕ). take 6 (front ++ c ∷ [])) (two_pushed xs (b ∷ []) a)
    ∙ cut_again 6 (xs ++ a ∷ b ∷ []) (c ∷ [])
    ∙ ap (λ (all : List ℕ). take 6 all) (append_assoc xs (a ∷ b ∷ []) (c ∷ []))

-- of a code that is no mark, an escape
pub escape_pushed : (xs : List ℕ) (code : ℕ) → None ≡ character_in 8 (drop 2 marks) code → take 6 (take 6 (take 6 (xs ++ 6 ∷ []) ++ code / 32 ∷ []) ++ code % 32 ∷ []) ≡ take 6 (xs ++ marked code)
escape_pushed xs code none =
    three_pushed xs 6 (code / 32) (code % 32)
    ∙ ap (λ (found : Option ℕ). take 6 (xs ++ (elim found [ None ↦ 6 ∷ code / 32 ∷ code % 32 ∷ [] | Some z ↦ z ∷ [] ]))) none

-- what the elements of one more place come to, behind those of all before it
pub code_pushed : (f : ℕ → List ℕ) (g : ℕ → ℕ) (text : List ℕ) (i : ℕ) → i < length text → take 6 (take 6 (flat_map f (map g (take i text))) ++ f (g (get_or text i 0))) ≡ take 6 (flat_map f (map g (take (i + 1) text)))
code_pushed f g text i here =
    let front = flat_map f (map g (take i text)) in
    let code = g (get_or text i 0) in
    let one : flat_map f (code ∷ []) ≡ f code = append-nil (f code) in
    let more : flat_map f (map g (take (i + 1) text)) ≡ front ++ f code = ap (flat_map f) (map_more g text i 0 here) ∙ flat_map-append f (map g (take i text)) (code ∷ []) ∙ ap (λ (last : List ℕ). front ++ last) one in
    cut_again 6 front (f code) ∙ ap (λ (all : List ℕ). take 6 all) (sym more)

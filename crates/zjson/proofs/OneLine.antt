-- No line ends within an object.
use Rattle.std.proofs.Common.{◌≡◌, ◌≢◌, ◌+◌, ◌%◌, ◌<◌, ◌≤◌, ◌^◌, ◌==◌, ◌&&◌, ℕ, zero, suc, Bool, true, false, cond, ◌⊎◌, inl, inr, List, [], ◌∷◌, ◌++◌, refl, sym, ap, ◌∙◌, subst, arith, length, slice_index_or}
use Rattle.std.specs.Prelude.{All, not, decimal}
use Rattle.std.specs.List.{list_all}
use Rattle.std.proofs.lemmas.Bool.{agree_below, agree_below_at, and_from, and_parts, cases_lt, eq-eqb, ne_eqb, true≢false}
use Rattle.std.proofs.lemmas.Fmt.{decimal_by_steps}
use Rattle.std.proofs.lemmas.List.Folds.{list_all-append}
use Rattle.json.specs.Token.{Token}
use Rattle.json.specs.Token as token
use Rattle.json.specs.Json.{Json}
use Rattle.json.specs.Json as json
use Rattle.json.specs.Print.{begins, ends, escape, escape_byte, print_from, separator, token_text}
use Rattle.json.specs.Tree.{json_tokens, members_tokens}
use Rattle.json.proofs.Printed.Strings.{escape_byte_plain}
use Rattle.zjson.specs.Objects.{ArePlain, IsPlain, Pair, members_of, object_of, object_text}

-- whether no byte ends a line
abbrev is_clean : List ℕ → Bool
is_clean = list_all (λ byte. not (byte == 10))

joined : (xs ys : List ℕ) → is_clean xs ≡ true → is_clean ys ≡ true → is_clean (xs ++ ys) ≡ true
joined xs ys x y = list_all-append (λ byte. not (byte == 10)) xs ys ∙ and_from (is_clean xs) (is_clean ys) x y

low : agree_below (λ x. is_clean (escape_byte x)) (λ x. true) 93 ≡ true
unfolding escape_byte
low = refl

escaped_byte : (x : ℕ) → is_clean (escape_byte x) ≡ true
escaped_byte x = go (cases_lt x 93)
  where
    go : (x < 93) ⊎ (93 ≤ x) → is_clean (escape_byte x) ≡ true
    go (inl below) = agree_below_at (λ x. is_clean (escape_byte x)) (λ x. true) 93 x low below
    go (inr above) =
        ap is_clean (escape_byte_plain x (λ e. omega (arith, e)) (λ e. omega (arith, e)) (omega arith))
        ∙ ap (λ b. not b && true) (ne_eqb x 10 (λ e. omega (arith, e)))

escaped : (text : List ℕ) → is_clean (escape text) ≡ true
escaped [] = refl
escaped (x ∷ xs) = joined (escape_byte x) (escape xs) (escaped_byte x) (escaped xs)

numeral : (n : ℕ) → n < 2 ^ 64 → is_clean (decimal n) ≡ true
numeral = decimal_by_steps (λ m digits. is_clean digits ≡ true) (λ m small. ap (λ b. not b && true) (ne_eqb (48 + m) 10 (λ e. omega (arith, e))))
    (λ m digits small clean. joined digits ((48 + m % 10) ∷ []) clean (ap (λ b. not b && true) (ne_eqb (48 + m % 10) 10 (λ e. omega (arith, e)))))

-- the text of a token that ends no line
abbrev IsFine : Token → Type 0
IsFine t = is_clean (token_text t) ≡ true

quotation : (text : List ℕ) → IsFine (token.string text)
quotation text = joined (escape text) (34 ∷ []) (escaped text) refl

name : (text : List ℕ) → IsFine (token.key text)
name text = joined (escape text ++ 34 ∷ []) (58 ∷ []) (quotation text) refl

separated : (after : Bool) (t : Token) → is_clean (separator after t) ≡ true
separated after t = go (after && begins t)
  where
    go : (b : Bool) → is_clean (cond b (44 ∷ []) []) ≡ true
    go true = refl
    go false = refl

-- each is
Each : List Token → Type 0
Each [] = Unit {0}
Each (t ∷ ts) = IsFine t × Each ts

printed : (after : Bool) (ts : List Token) → Each ts → is_clean (print_from after ts) ≡ true
unfolding print_from Each
printed after [] fine = refl
printed after (t ∷ ts) fine = joined (separator after t) (token_text t ++ print_from (ends t) ts) (separated after t) (joined (token_text t) (print_from (ends t) ts) fine.0 (printed (ends t) ts fine.1))

flag_text : (b : Bool) → IsFine (token.boolean b)
flag_text true = refl
flag_text false = refl

-- one value before others
before : (j : Json) → IsPlain j → (ts : List Token) → Each ts → Each (json_tokens j ++ ts)
unfolding Each
before (json.string text) plain ts fine = (quotation text, fine)
before (json.number text) plain ts fine = (subst (λ t. is_clean t ≡ true) (sym plain.2) (numeral plain.0 plain.1), fine)
before (json.boolean flag) plain ts fine = (flag_text flag, fine)
before json.null plain ts fine = (refl, fine)
before (json.array _) plain ts fine = absurd plain
before (json.object _) plain ts fine = absurd plain

members : (ps : List Pair) → ArePlain ps → Each (members_tokens (members_of ps))
unfolding Each
members [] plain = (refl, tt)
members (p ∷ ps) plain = (name p.0, before p.1 plain.0 (members_tokens (members_of ps)) (members ps plain.1))

other : (bytes : List ℕ) → is_clean bytes ≡ true → (k d : ℕ) → k < length bytes → slice_index_or bytes k d ≡ 10 → ⊥
other [] clean k d within e = omega (arith, within)
other (x ∷ xs) clean zero d within e = true≢false (sym (and_parts (not (x == 10)) (is_clean xs) clean).0 ∙ ap not (eq-eqb x 10 e))
other (x ∷ xs) clean (suc k) d within e = other xs (and_parts (not (x == 10)) (is_clean xs) clean).1 k d (omega (arith, within)) e

pub has_no_end : (ps : List Pair) → ArePlain ps → All (λ byte. byte ≢ 10) (object_text ps)
unfolding Each
has_no_end ps plain = other (object_text ps) (printed false (json_tokens (object_of ps)) (refl, members ps plain))

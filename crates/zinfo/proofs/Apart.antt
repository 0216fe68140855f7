-- Bytes are told by what is shown of them.
use Rattle.std.proofs.Common.{◌≡◌, ◌/◌, ◌%◌, ◌<◌, ◌==◌, ◌&&◌, ℕ, suc, Bool, true, false, List, [], ◌∷◌, ◌++◌, refl, sym, ap, ◌∙◌, arith, length}
use Rattle.std.specs.Prelude.{if◌then◌else◌, nat_le, not}
use Rattle.std.specs.Char.{digit_value}
use Rattle.std.proofs.lemmas.Bool.{agree_below_at, and_parts, eq-eqb, eqb-true, true≢false}
use Rattle.zstory.specs.Bytes.{AreBytes}
use Rattle.zinfo.specs.Shown.{hex_digit, is_plain, shown}

value_back : (d : ℕ) → d < 16 → digit_value (hex_digit d) ≡ d
value_back d below = eqb-true (digit_value (hex_digit d)) d (agree_below_at (λ d. digit_value (hex_digit d) == d) (λ d. true) 16 d refl below)

one_digit : (d e : ℕ) → d < 16 → e < 16 → hex_digit d ≡ hex_digit e → d ≡ e
one_digit d e below other same = sym (value_back d below) ∙ ap digit_value same ∙ value_back e other

head_of : List ℕ → ℕ
head_of [] = 0
head_of (x ∷ xs) = x

tail_of : List ℕ → List ℕ
tail_of [] = []
tail_of (x ∷ xs) = xs

first : {x y : ℕ} {xs ys : List ℕ} → x ∷ xs ≡ y ∷ ys → x ≡ y
unfolding head_of
first same = ap head_of same

others : {x y : ℕ} {xs ys : List ℕ} → x ∷ xs ≡ y ∷ ys → xs ≡ ys
unfolding tail_of
others same = ap tail_of same

no_backslash : (x : ℕ) → is_plain x ≡ true → x ≡ 92 → ⊥
no_backslash x plain is = true≢false (sym (and_parts (nat_le 32 x && nat_le x 126) (not (x == 92)) plain).1 ∙ ap not (eq-eqb x 92 is))

abbrev shown_as : Bool → ℕ → List ℕ
shown_as b x = if b then x ∷ [] else 92 ∷ 120 ∷ hex_digit (x / 16) ∷ hex_digit (x % 16) ∷ []

-- the first bytes are the same, and what is shown behind them
pair_apart : (b c : Bool) (x y : ℕ) (xs ys : List ℕ) → x < 256 → y < 256 → is_plain x ≡ b → is_plain y ≡ c → shown_as b x ++ xs ≡ shown_as c y ++ ys → (x ≡ y) × (xs ≡ ys)
pair_apart true true x y xs ys small little one other same = (first same, others same)
pair_apart true false x y xs ys small little one other same = absurd (no_backslash x one (first same))
pair_apart false true x y xs ys small little one other same = absurd (no_backslash y other (sym (first same)))
pair_apart false false x y xs ys small little one other same =
    let digits = others (others same) in
    let high = one_digit (x / 16) (y / 16) (omega arith) (omega arith) (first digits) in
    let low = one_digit (x % 16) (y % 16) (omega arith) (omega arith) (first (others digits)) in
    (omega (arith, high, low), others (others digits))

-- something is shown of a byte
never_empty : (b : Bool) (x : ℕ) (xs : List ℕ) → shown_as b x ++ xs ≡ [] → ⊥
never_empty true x xs same = omega (arith, ap length same)
never_empty false x xs same = omega (arith, ap length same)

behind : (x : ℕ) (xs : List ℕ) → AreBytes (x ∷ xs) → AreBytes xs
behind x xs bytes p = bytes (suc p)

pub apart : (xs ys : List ℕ) → AreBytes xs → AreBytes ys → shown xs ≡ shown ys → xs ≡ ys
apart [] [] one other same = refl
apart [] (y ∷ ys) one other same = absurd (never_empty (is_plain y) y (shown ys) (sym same))
apart (x ∷ xs) [] one other same = absurd (never_empty (is_plain x) x (shown xs) same)
apart (x ∷ xs) (y ∷ ys) one other same =
    let both = pair_apart (is_plain x) (is_plain y) x y (shown xs) (shown ys) (one 0) (other 0) refl refl same in
    ap (λ z. z ∷ xs) both.0 ∙ ap (λ zs. y ∷ zs) (apart xs ys (behind x xs one) (behind y ys other) both.1)

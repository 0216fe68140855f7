-- What an operation makes of one word and one is one word.
use Rattle.std.proofs.Common.{◌≡◌, ℕ, ◌<◌, true, Some, List, [], ◌∷◌, length, get_or, min, max, arith, refl, ap, ◌∙◌}
use Rattle.std.specs.Prelude.{unwrap_or}
use Rattle.zword.specs.Binary.{apply, is_defined}
use Rattle.zword.specs.declared.binary.BinaryOp.{BinaryOp}
use Rattle.zdomain.specs.declared.interval.Interval.{Interval}
use Rattle.zdomain.specs.declared.values.Values.TheVariants.{Run}
use Rattle.zdomain.specs.Few.{turned, place_in, with_words, is_scattered, gathered}
use Rattle.zdomain.specs.Interval.{point, all_words}
use Rattle.zdomain.specs.Values.{between, list_or, packed, rows}
use Rattle.zdomain.proofs.Ends.{from_ends}

least_back : (word : ℕ) → word < 65536 → turned (min 65535 (turned word)) ≡ word
least_back word small = grind (arith)

greatest_back : (word : ℕ) → word < 65536 → turned (max 0 (turned word)) ≡ word
greatest_back word small = grind (arith)

between_same : (word : ℕ) → between word word ≡ point word
between_same word = ap (λ found. unwrap_or found all_words) (from_ends (point word))

one_listed : (other : Interval) (word : ℕ) → list_or other (Some (word ∷ [])) ≡ Run other
unfolding is_scattered
one_listed other word = refl

packed_one : (word : ℕ) → word < 65536 → packed (gathered (word ∷ [])) ≡ Run (point word)
unfolding with_words place_in
packed_one word small =
    let least = min 65535 (turned word) in
    let greatest = max 0 (turned word) in
    one_listed (between (turned least) (turned greatest)) word
    ∙ ap (λ low. Run (between low (turned greatest))) (least_back word small)
    ∙ ap (λ high. Run (between word high)) (greatest_back word small)
    ∙ ap Run (between_same word)

one_row : (op : BinaryOp) (x y : ℕ) → is_defined op y ≡ true → rows op (x ∷ []) (y ∷ []) ≡ apply op x y ∷ []
unfolding rows
one_row op x y defined = rw defined refl

one_result : (op : BinaryOp) (x y : ℕ) → is_defined op y ≡ true → apply op x y < 65536 → packed (gathered (rows op (x ∷ []) (y ∷ []))) ≡ Run (point (apply op x y))
one_result op x y defined small = ap (λ words. packed (gathered words)) (one_row op x y defined) ∙ packed_one (apply op x y) small

-- of lists of one word each
pub one_of_each : (op : BinaryOp) (xs ys : List ℕ) → length xs ≡ 1 → length ys ≡ 1 → is_defined op (get_or ys 0 0) ≡ true → apply op (get_or xs 0 0) (get_or ys 0 0) < 65536 → packed (gathered (rows op xs ys)) ≡ Run (point (apply op (get_or xs 0 0) (get_or ys 0 0)))
one_of_each op [] ys one another defined small = absurd (omega (arith, one))
one_of_each op (x ∷ x2 ∷ xs) ys one another defined small = absurd (omega (arith, one))
one_of_each op (x ∷ []) [] one another defined small = absurd (omega (arith, another))
one_of_each op (x ∷ []) (y ∷ y2 ∷ ys) one another defined small = absurd (omega (arith, another))
one_of_each op (x ∷ []) (y ∷ []) one another defined small = one_result op x y defined small

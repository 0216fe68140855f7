-- Words that are gathered one list behind the other.
use Rattle.std.proofs.Common.{◌≡◌, ℕ, ◌-◌, ◌≤◌, List, [], ◌∷◌, ◌++◌, length, take, drop, get_or, refl, sym, ap, ◌∙◌, arith}
use Rattle.std.proofs.Math.Seq.{take-length}
use Rattle.zword.specs.declared.binary.BinaryOp.{BinaryOp}
use Rattle.zdomain.specs.Values.{row, rows}
use Rattle.zdomain.specs.Few.{Gathering, with_word, with_words}

pub one_by_one : (xs ys : List ℕ) (g : Gathering) → with_words (xs ++ ys) g ≡ with_words ys (with_words xs g)
unfolding with_words
one_by_one [] ys g = refl
one_by_one (x ∷ xs) ys g = one_by_one xs ys (with_word x g)

less_one : (x : ℕ) (xs : List ℕ) → length (x ∷ xs) - 1 ≡ length xs
less_one x xs = omega arith

-- the first row, and then the others
pub row_by_row : (op : BinaryOp) (words others : List ℕ) (g : Gathering) → 1 ≤ length words → with_words (rows op (take (length words - 1) (drop 1 words)) others) (with_words (row op (get_or words 0 0) others) g) ≡ with_words (rows op words others) g
unfolding rows
row_by_row op [] others g some = absurd (omega (arith, some))
row_by_row op (x ∷ xs) others g some =
    let whole : take (length (x ∷ xs) - 1) xs ≡ xs = ap (λ (n : ℕ). take n xs) (less_one x xs) ∙ take-length xs in
    ap (λ (ys : List ℕ). with_words (rows op ys others) (with_words (row op x others) g)) whole
    ∙ sym (one_by_one (row op x others) (rows op xs others) g)

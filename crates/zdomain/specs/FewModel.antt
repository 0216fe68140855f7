-- How a few words are kept: zeros behind them fill their room.
use Rattle.std.specs.Prelude.{◌≡◌, ℕ, ◌≤◌, ◌-◌, ◌++◌, List, length, take, drop, replicate}
use Rattle.std.proofs.Common.{arith, refl, take-append-drop, length-take-le, length-append}
use Rattle.std.proofs.lemmas.List.{drop-replicate, length-replicate}
use Rattle.std.proofs.Math.Seq.{drop-append_seam, take-append_seam}

abbrev pub padded : List ℕ → List ℕ
padded xs = xs ++ replicate (64 - length xs) 0

pub few_count : (words : List ℕ) (count : ℕ) → count ≤ 64 → length words ≡ 64 → length (take count words) ≡ count
few_count words count few whole = length-take-le count words (omega (arith, few, whole))

pub padded_again : (words : List ℕ) (count : ℕ) → count ≤ 64 → length words ≡ 64 → drop count words ≡ replicate (64 - count) 0 → padded (take count words) ≡ words
padded_again words count few whole zeros = rw (few_count words count few whole) (rw (← zeros) (take-append-drop count words))

pub padded_is : (new words : List ℕ) → length words ≤ 64 → new ≡ words → new ++ drop (length words) (replicate 64 0) ≡ padded words
padded_is new words few same = rw (same, drop-replicate {X = ℕ} (length words) 64 0) refl

pub padded_fits : (words : List ℕ) → length words ≤ 64 → (length words ≤ 64) × (length (padded words) ≡ 64) × (drop (length words) (padded words) ≡ replicate (64 - length words) 0)
padded_fits words few = (few, rw (length-append words (replicate (64 - length words) 0), length-replicate {A = ℕ} (64 - length words) 0) (omega (arith, few)), drop-append_seam words (replicate (64 - length words) 0))

pub padded_front : (words : List ℕ) → take (length words) (padded words) ≡ words
padded_front words = take-append_seam words (replicate (64 - length words) 0)

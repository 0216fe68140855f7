-- The table has what prints at once.
use Rattle.std.proofs.Common.{◌≡◌, ℕ, ◌+◌, ◌<◌, ◌≤◌, ◌%◌, nat_eq, nat_lt, ◌==◌, ◌-◌, Bool, true, false, Option, Some, None, refl, ap, arith, slice_index_or, if◌then◌else◌}
use Rattle.std.proofs.lemmas.Bool.{cond_both, eqb-true, eqb-false, ltb-true, ltb-false, false≢true, agree_below, agree_below_at}
use Rattle.ztext.specs.declared.state.TheConstants.{AT_ONCE}
use Rattle.ztext.specs.declared.pieces.Alphabet.TheVariants.{Small, Capital, Mark}
use Rattle.ztext.specs.declared.pieces.Begun.{Begun}
use Rattle.ztext.specs.declared.pieces.Begun.TheVariants.{Letter, Escape}
use Rattle.ztext.specs.Alphabets.{small_letters, capital_letters, marks}
use Rattle.ztext.specs.States.{begun_at, IsPlace, byte_at_once}

same : Option ℕ → Option ℕ → Bool
same None None = true
same None (Some b) = false
same (Some a) None = false
same (Some a) (Some b) = nat_eq a b

same-is : (a b : Option ℕ) → same a b ≡ true → a ≡ b
unfolding same
same-is None None e = refl
same-is None (Some b) e = absurd (false≢true e)
same-is (Some a) None e = absurd (false≢true e)
same-is (Some a) (Some b) e = ap (λ (x : ℕ). Some x) (eqb-true a b e)

-- what the table says at a place
abbrev entry : ℕ → Option ℕ
entry k = let byte = slice_index_or AT_ONCE k 0 in (if byte == 0 then None else Some byte)

-- the entries of each alphabet, and those behind them
agrees : ℕ → Begun → ℕ → Bool
agrees from begun z = same (entry (from + z)) (byte_at_once begun z)

small_agrees : agree_below (agrees 0 (Letter Small)) (λ z. true) 32 ≡ true
unfolding same agrees small_letters
small_agrees = refl

capital_agrees : agree_below (agrees 32 (Letter Capital)) (λ z. true) 32 ≡ true
unfolding same agrees capital_letters
capital_agrees = refl

mark_agrees : agree_below (agrees 64 (Letter Mark)) (λ z. true) 32 ≡ true
unfolding same agrees marks
mark_agrees = refl

others_agree : agree_below (agrees 96 Escape) (λ z. true) 192 ≡ true
unfolding same agrees
others_agree = refl

at_small : (z : ℕ) → z < 32 → entry (0 + z) ≡ byte_at_once (Letter Small) z
unfolding agrees
at_small z below = same-is _ _ (agree_below_at (agrees 0 (Letter Small)) (λ z. true) 32 z small_agrees below)

at_capital : (z : ℕ) → z < 32 → entry (32 + z) ≡ byte_at_once (Letter Capital) z
unfolding agrees
at_capital z below = same-is _ _ (agree_below_at (agrees 32 (Letter Capital)) (λ z. true) 32 z capital_agrees below)

at_mark : (z : ℕ) → z < 32 → entry (64 + z) ≡ byte_at_once (Letter Mark) z
unfolding agrees
at_mark z below = same-is _ _ (agree_below_at (agrees 64 (Letter Mark)) (λ z. true) 32 z mark_agrees below)

behind : (k : ℕ) → 96 ≤ k → k < 288 → entry k ≡ None
unfolding agrees
behind k above below =
    let place : 96 + (k - 96) ≡ k = omega arith in
    rw place at (same-is _ _ (agree_below_at (agrees 96 Escape) (λ z. true) 192 (k - 96) others_agree (omega arith)))

-- the table says of each place and each Z-character what is printed at once
pub at_once : (place z : ℕ) → IsPlace place → z < 32 → entry (place + z) ≡ byte_at_once (begun_at place) z
at_once place z is_place below =
    cond_both (nat_eq place 0) _ _ (λ begun. entry (place + z) ≡ byte_at_once begun z) (λ e. rw (eqb-true place 0 e) (at_small z below)) (λ not_0.
    cond_both (nat_eq place 32) _ _ (λ begun. entry (place + z) ≡ byte_at_once begun z) (λ e. rw (eqb-true place 32 e) (at_capital z below)) (λ not_32.
    cond_both (nat_eq place 64) _ _ (λ begun. entry (place + z) ≡ byte_at_once begun z) (λ e. rw (eqb-true place 64 e) (at_mark z below)) (λ not_64.
    let none : entry (place + z) ≡ None = behind (place + z) (above (eqb-false place 0 not_0) (eqb-false place 32 not_32) (eqb-false place 64 not_64)) (omega (arith, is_place.0)) in
    cond_both (nat_lt place 192) _ _ (λ begun. entry (place + z) ≡ byte_at_once begun z) (λ _. none) (λ _.
    cond_both (nat_eq place 192) _ _ (λ begun. entry (place + z) ≡ byte_at_once begun z) (λ _. none) (λ _. none)))))
  where
    decided : (less : Bool) → nat_lt place 96 ≡ less → (place ≡ 0 → ⊥) → (place ≡ 32 → ⊥) → (place ≡ 64 → ⊥) → 96 ≤ place + z
    decided true e a b c =
        let less : place < 96 = ltb-true place 96 e in
        let turn : place % 32 ≡ 0 = is_place.1 (omega arith) in
        absurd (omega arith)
    decided false e a b c = let more : 96 ≤ place = ltb-false place 96 e in omega arith

    above : (place ≡ 0 → ⊥) → (place ≡ 32 → ⊥) → (place ≡ 64 → ⊥) → 96 ≤ place + z
    above a b c = decided (nat_lt place 96) refl a b c

-- and so does a byte that was read there
pub at_once-some : (place k z : ℕ) (begun : Begun) → begun_at place ≡ begun → IsPlace place → k ≡ z → z < 32 → (slice_index_or AT_ONCE (place + k) 0 ≡ 0 → ⊥) → Some (slice_index_or AT_ONCE (place + k) 0) ≡ byte_at_once begun z
at_once-some place k z begun is is_place same below some =
    rw (← is, same) (shown (slice_index_or AT_ONCE (place + z) 0) (nat_eq (slice_index_or AT_ONCE (place + z) 0) 0) refl (rw same at some) (at_once place z is_place below))
  where
    shown : (byte : ℕ) (none : Bool) → nat_eq byte 0 ≡ none → (byte ≡ 0 → ⊥) → (if byte == 0 then None else Some byte) ≡ byte_at_once (begun_at place) z → Some byte ≡ byte_at_once (begun_at place) z
    shown byte true is_0 not_0 e = absurd (not_0 (eqb-true byte 0 is_0))
    shown byte false is_0 not_0 e = rw is_0 at e

-- Values of the definitions, computed.
use Rattle.std.proofs.Common.{◌≡◌, ℕ, ◌⊎◌, true, false, inl, inr, List, Some, [], ◌∷◌, ◌++◌, refl, arith}
use Rattle.std.specs.Prelude.{codes}
use Rattle.zfront.specs.Wrapping.{Wrapping, coming, column_behind, ends_word, goes_past, IsHeld, settled, shown, word_length, wrapped}
use Rattle.std.specs.Io.KnownBytes.{Appends}
use Rattle.zfault.specs.Devices.{waits_after}
use Rattle.zfront.specs.Owed.{at_beginning, bytes_owed, Finishes, GivesOut, GivesSome, nothing_owed, Owed, owed_then}
use Rattle.zfront.specs.WrappedText.{BrokenWhereFull, first_line, Fits, LaterLinesFit, SameButSpaces}

-- ---- bytes

ends : (ends_word 32 ≡ true) × (ends_word 10 ≡ true) × (ends_word 33 ≡ false) × (ends_word 31 ≡ false) × (ends_word 9 ≡ false) × (ends_word 11 ≡ false)
ends = (refl, refl, refl, refl, refl, refl)

words : (word_length (codes "abc de") ≡ 3) × (word_length (codes "abc\nde") ≡ 3) × (word_length (codes "abcde") ≡ 5) × (word_length (codes " abc") ≡ 0) × (word_length [] ≡ 0)
words = (refl, refl, refl, refl, refl)

-- at column 2 a space and a word of 3 take columns 2 to 5, of a width of 6
past : (goes_past 6 2 3 ≡ false) × (goes_past 5 2 3 ≡ true) × (goes_past 1 0 0 ≡ false) × (goes_past 1 1 0 ≡ true) × (goes_past 0 7 7 ≡ false)
past = (refl, refl, refl, refl, refl)

bytes : (shown 5 2 32 (codes "abc d") ≡ 10) × (shown 6 2 32 (codes "abc d") ≡ 32) × (shown 5 2 33 (codes "abc d") ≡ 33) × (shown 5 2 10 (codes "abc d") ≡ 10)
bytes = (refl, refl, refl, refl)

columns : (column_behind 4 10 ≡ 0) × (column_behind 4 32 ≡ 5) × (column_behind 4 97 ≡ 5)
columns = (refl, refl, refl)

-- ---- texts

plain : (wrapped 8 0 (codes "the lamp is on") ≡ codes "the lamp\nis on") × (wrapped 7 0 (codes "the lamp is on") ≡ codes "the\nlamp is\non") × (wrapped 14 0 (codes "the lamp is on") ≡ codes "the lamp is on") × (wrapped 0 0 (codes "the lamp is on") ≡ codes "the lamp is on")
plain = (refl, refl, refl, refl)

-- the line has two columns already, or more than there are
begun : (wrapped 8 2 (codes "the lamp") ≡ codes "the\nlamp") × (wrapped 10 2 (codes "the lamp") ≡ codes "the lamp") × (wrapped 8 20 (codes "the lamp") ≡ codes "the\nlamp") × (wrapped 8 8 (codes " a") ≡ codes "\na")
begun = (refl, refl, refl, refl)

-- words as long as the width, and longer
long : (wrapped 4 0 (codes "lamp lamp") ≡ codes "lamp\nlamp") × (wrapped 4 0 (codes "a lantern is") ≡ codes "a\nlantern\nis") × (wrapped 4 0 (codes "lantern") ≡ codes "lantern") × (wrapped 4 0 (codes " lamp") ≡ codes "\nlamp") × (wrapped 1 0 (codes "a b") ≡ codes "a\nb")
long = (refl, refl, refl, refl, refl)

-- runs of spaces stay, but where a line is full
runs : (wrapped 6 0 (codes "a  b  c") ≡ codes "a  b \nc") × (wrapped 4 0 (codes "lamp   on") ≡ codes "lamp\n  on") × (wrapped 3 0 (codes "     ") ≡ codes "   \n ") × (wrapped 5 0 (codes "a   bcd") ≡ codes "a  \nbcd")
runs = (refl, refl, refl, refl)

-- spaces at the end of a line, and empty lines
ends_of_lines : (wrapped 4 0 (codes "on \nlamp \nis") ≡ codes "on \nlamp\n\nis") × (wrapped 4 0 (codes "\n\nlamp\n") ≡ codes "\n\nlamp\n") × (wrapped 4 3 (codes "\nlamp") ≡ codes "\nlamp") × (wrapped 4 0 [] ≡ [])
ends_of_lines = (refl, refl, refl, refl)

-- ---- what is held

held : IsHeld 6 2 [] × IsHeld 6 2 (codes " abc") × (IsHeld 5 2 (codes " abc") → ⊥) × (IsHeld 6 2 (codes "abc") → ⊥) × (IsHeld 9 2 (codes " ab ") → ⊥)
held = (tt, (refl, refl, omega arith), λ is. omega (arith, is.2), λ is. omega (arith, is.0), λ is. omega (arith, is.1))

wrapping : Wrapping
wrapping = record { width = 8; column = 3; held = codes " la" }

-- a space is decided by what comes
decided : (coming wrapping (codes "mp is") ≡ codes " lamp\nis") × (coming wrapping (codes "ntern") ≡ codes "\nlantern") × (coming wrapping [] ≡ codes " la") × (settled wrapping ≡ record { width = 8; column = 6; held = [] })
unfolding wrapping
decided = (refl, refl, refl, refl)

-- ---- the laws

differs : (byte seen : ℕ) → (seen ≡ byte → ⊥) → (byte ≡ 32 → seen ≡ 10 → ⊥) → (seen ≡ byte) ⊎ ((byte ≡ 32) × (seen ≡ 10)) → ⊥
differs byte seen other kept (inl e) = other e
differs byte seen other kept (inr e) = kept e.0 e.1

same : SameButSpaces (codes "a b") (codes "a\nb") × SameButSpaces (codes "a b") (codes "a b") × (SameButSpaces (codes "a b") (codes "a") → ⊥) × (SameButSpaces (codes "a") (codes "b") → ⊥) × (SameButSpaces (codes "a") (codes "\n") → ⊥) × (SameButSpaces (codes "\n") (codes " ") → ⊥)
same = (
  (inl refl, (inr (refl, refl), (inl refl, tt))),
  (inl refl, (inl refl, (inl refl, tt))),
  λ s. s.1,
  λ s. differs 97 98 (λ e. omega (arith, e)) (λ e f. omega (arith, e)) s.0,
  λ s. differs 97 10 (λ e. omega (arith, e)) (λ e f. omega (arith, e)) s.0,
  λ s. differs 10 32 (λ e. omega (arith, e)) (λ e f. omega (arith, e)) s.0,
)

lines : (first_line (codes "ab c\nd") ≡ codes "ab c") × (first_line (codes "\nd") ≡ []) × (first_line (codes "d") ≡ codes "d")
lines = (refl, refl, refl)

-- four columns behind the second, in six and in five; one word goes past any width
fits : Fits 6 2 (codes "ab c") × Fits 3 2 (codes "lamp") × (Fits 5 2 (codes "ab c") → ⊥)
fits = (inl (omega arith), inr refl, not)
  where
    not : Fits 5 2 (codes "ab c") → ⊥
    not (inl within) = omega (arith, within)
    not (inr word) = omega (arith, word)

-- a broken line is told by what would have gone past the width: of a width of 3 the word of 1 behind a space at column 2, and not at column 1
where_full : BrokenWhereFull 3 2 (codes " b") (codes "\nb") × (BrokenWhereFull 3 1 (codes " b") (codes "\nb") → ⊥) × BrokenWhereFull 3 1 (codes " b") (codes " b")
where_full = ((λ space newline. omega arith, (λ space newline. absurd (omega (arith, space)), tt)), λ w. omega (arith, w.0 refl refl), (λ space newline. absurd (omega (arith, newline)), (λ space newline. absurd (omega (arith, space)), tt)))

later : LaterLinesFit 2 (codes "abc\nab") × LaterLinesFit 2 (codes "a\nabc") × (LaterLinesFit 2 (codes "a\na b") → ⊥)
later = (
  (λ e. absurd (omega (arith, e)), (λ e. absurd (omega (arith, e)), (λ e. absurd (omega (arith, e)), (λ e. inl (omega arith), (λ e. absurd (omega (arith, e)), (λ e. absurd (omega (arith, e)), tt)))))),
  (λ e. absurd (omega (arith, e)), (λ e. inr refl, (λ e. absurd (omega (arith, e)), (λ e. absurd (omega (arith, e)), (λ e. absurd (omega (arith, e)), tt))))),
  λ l. not (l.1.0 refl),
)
  where
    not : Fits 2 0 (codes "a b") → ⊥
    not (inl within) = omega (arith, within)
    not (inr word) = omega (arith, word)

-- ---- a sink

owing : Owed
owing = record { decided = codes "the\n"; wrapping = record { width = 8; column = 3; held = codes " la" } }

-- what is decided stays, and what is held is decided by what comes
owes : (bytes_owed owing ≡ codes "the\n la") × (owed_then owing (codes "mp is") ≡ codes "the\n lamp\nis") × (owed_then owing (codes "ntern") ≡ codes "the\n\nlantern") × (bytes_owed (nothing_owed 8) ≡ []) × (owed_then (nothing_owed 8) (codes "the lamp is on") ≡ codes "the lamp\nis on")
unfolding owing
owes = (refl, refl, refl, refl, refl)

-- at the beginning of a line the word fits that didn't behind three columns
at_line : (owed_then (at_beginning owing) (codes "ntern") ≡ codes "the\n lantern") × (bytes_owed (at_beginning owing) ≡ codes "the\n la")
unfolding owing
at_line = (refl, refl)

-- three of four bytes, behind one that was there, wait; a byte that was given out does so
gives : GivesOut (Some (codes "a")) (Some (codes "athe")) false true (codes "the\n") (codes "\n") × GivesOut (Some []) (Some []) false false (116 ∷ []) (116 ∷ []) × (GivesOut (Some []) (Some (116 ∷ [])) false false (116 ∷ []) [] → ⊥) × (GivesOut (Some []) (Some []) false false (116 ∷ []) [] → ⊥)
gives = (
  record { given = codes "the"; whole = refl; grown = refl; waits = refl },
  record { given = []; whole = refl; grown = refl; waits = refl },
  λ g. unseen g.given g.grown g.waits,
  λ g. lost g.given g.whole g.grown,
)
  where
    unseen : (given : List ℕ) → Appends (Some []) (Some (116 ∷ [])) given → false ≡ waits_after false given → ⊥
    unseen [] e waits = absurd cc
    unseen (byte ∷ rest) e waits = absurd cc

    lost : (given : List ℕ) → ◌≡◌ {A = List ℕ} (116 ∷ []) (given ++ []) → Appends (Some []) (Some []) given → ⊥
    lost [] e grown = absurd cc
    lost (byte ∷ rest) e grown = absurd cc

-- before a flush what is held is decided, and the column is behind it; before an error a beginning was given out
finished : Finishes (Some []) (Some (codes "the")) owing (record { decided = codes "\n la"; wrapping = record { width = 8; column = 6; held = [] } }) × GivesSome (Some []) (Some (codes "the")) owing (record { decided = codes "\n"; wrapping = record { width = 8; column = 3; held = codes " la" } })
unfolding owing
finished = (record { given = codes "the"; grown = refl; whole = refl; finished = refl }, record { given = codes "the"; grown = refl; whole = refl; kept = refl })

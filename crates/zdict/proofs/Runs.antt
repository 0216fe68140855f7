-- Lines by their runs.
use Rattle.std.proofs.Common.{◌≡◌, ◌∙◌, ℕ, suc, ◌+◌, Bool, true, false, inl, inr, List, [], ◌∷◌, take, drop, refl, sym, arith}
use Rattle.std.proofs.lemmas.Bool.{cases_Bool}
use Rattle.std.proofs.lemmas.List.{drop-drop}
use Rattle.std.specs.List.{prefix_len}
use Rattle.zdict.specs.Tokens.{is_space, is_listed, is_letter, token_length, token_at, tokens_from}

drop_more : (n byte : ℕ) (rest : List ℕ) → drop (1 + n) (byte ∷ rest) ≡ drop n rest
drop_more n byte rest = let e : 1 + n ≡ suc n = omega arith in rw e refl

-- spaces at the front are dropped
pub spaces_dropped : (listed line : List ℕ) (place : ℕ) → tokens_from listed false place line ≡ tokens_from listed false (place + prefix_len is_space line) (drop (prefix_len is_space line) line)
spaces_dropped listed [] place = refl
spaces_dropped listed (byte ∷ rest) place =
    let further : place + (1 + prefix_len is_space rest) ≡ place + 1 + prefix_len is_space rest = omega arith in
    let here : place + 0 ≡ place = omega arith in
    elim (cases_Bool (is_space byte)) [
      | inl is ↦ rw (is, drop_more (prefix_len is_space rest) byte rest, further) (spaces_dropped listed rest (place + 1))
      | inr is_none ↦ rw (is_none, is_none, here) refl
    ]

-- behind a letter, nothing begins before the run ends
pub run_ended : (listed line : List ℕ) (place : ℕ) → tokens_from listed true place line ≡ tokens_from listed false (place + prefix_len (is_letter listed) line) (drop (prefix_len (is_letter listed) line) line)
run_ended listed [] place = refl
run_ended listed (byte ∷ rest) place =
    let run = prefix_len (is_letter listed) rest in
    let further : place + (1 + run) ≡ place + 1 + run = omega arith in
    let here : place + 0 ≡ place = omega arith in
    elim (cases_Bool (is_space byte)) [
      | inl is ↦ rw (is, is, here) refl
      | inr is_none ↦ elim (cases_Bool (is_listed listed byte)) [
        | inl divides ↦ rw (is_none, divides, is_none, divides, here) refl
        | inr lies ↦ rw (is_none, lies, drop_more run byte rest, further) (run_ended listed rest (place + 1))
      ]
    ]

-- the first element, where there is one, fails the test
abbrev pub HeadFails : (ℕ → Bool) → List ℕ → Type 0
HeadFails test [] = Unit
HeadFails test (byte ∷ rest) = test byte ≡ false

pub prefix_ends : (test : ℕ → Bool) (line : List ℕ) → HeadFails test (drop (prefix_len test line) line)
prefix_ends test [] = tt
prefix_ends test (byte ∷ rest) =
    elim (cases_Bool (test byte)) [
      | inl passes ↦ rw (passes, drop_more (prefix_len test rest) byte rest) (prefix_ends test rest)
      | inr fails ↦ rw fails fails
    ]

pub none_left : (listed line : List ℕ) → HeadFails is_space line → token_length listed line ≡ 0 → line ≡ []
none_left listed [] fails e = refl
none_left listed (byte ∷ rest) fails e =
    elim (cases_Bool (is_listed listed byte)) [
      | inl divides ↦ absurd (omega (arith, (rw (fails, divides) at e)))
      | inr lies ↦ absurd (omega (arith, (rw (fails, lies) at e)))
    ]

pub first_taken : (listed line : List ℕ) (place : ℕ) → HeadFails is_space line → (token_length listed line ≡ 0 → ⊥) → tokens_from listed false place line ≡ token_at listed place line ∷ tokens_from listed false (place + token_length listed line) (drop (token_length listed line) line)
first_taken listed [] place fails some = absurd (some refl)
first_taken listed (byte ∷ rest) place fails some =
    let run = prefix_len (is_letter listed) rest in
    let further : place + (1 + run) ≡ place + 1 + run = omega arith in
    elim (cases_Bool (is_listed listed byte)) [
      | inl divides ↦ rw (fails, divides) refl
      | inr lies ↦ rw (fails, lies, drop_more run byte rest, further, run_ended listed rest (place + 1)) refl
    ]

rest_begins : (line : List ℕ) (place spaces : ℕ) → spaces ≡ prefix_len is_space (drop place line) → HeadFails is_space (drop (place + spaces) line)
rest_begins line place spaces skipped = rw (← drop-drop spaces place line, skipped) (prefix_ends is_space (drop place line))

rest_kept : (listed line : List ℕ) (place spaces : ℕ) → spaces ≡ prefix_len is_space (drop place line) → tokens_from listed false place (drop place line) ≡ tokens_from listed false (place + spaces) (drop (place + spaces) line)
rest_kept listed line place spaces skipped = rw (← drop-drop spaces place line, skipped) (spaces_dropped listed (drop place line) place)

-- what is left of a line where no token is, and where one is: behind so many spaces one of such a length
pub nothing_given : (listed line : List ℕ) (place spaces size : ℕ) → spaces ≡ prefix_len is_space (drop place line) → size ≡ token_length listed (drop (place + spaces) line) → size ≡ 0 → (tokens_from listed false place (drop place line) ≡ []) × (tokens_from listed false (place + spaces + size) (drop (place + spaces + size) line) ≡ [])
nothing_given listed line place spaces size skipped taken none =
    let empty : drop (place + spaces) line ≡ [] = none_left listed (drop (place + spaces) line) (rest_begins line place spaces skipped) (sym taken ∙ none) in
    let same : place + spaces + size ≡ place + spaces = omega arith in
    (rest_kept listed line place spaces skipped ∙ rw empty refl, rw (same, empty) refl)

pub next_given : (listed line : List ℕ) (place spaces size : ℕ) → spaces ≡ prefix_len is_space (drop place line) → size ≡ token_length listed (drop (place + spaces) line) → (size ≡ 0 → ⊥) → tokens_from listed false place (drop place line) ≡ record { place = place + spaces; bytes = take size (drop (place + spaces) line) } ∷ tokens_from listed false (place + spaces + size) (drop (place + spaces + size) line)
next_given listed line place spaces size skipped taken some =
    let rest = drop (place + spaces) line in
    let given = first_taken listed rest (place + spaces) (rest_begins line place spaces skipped) (λ e. some (taken ∙ e)) in
    rest_kept listed line place spaces skipped ∙ rw (← drop-drop size (place + spaces) line, taken) given

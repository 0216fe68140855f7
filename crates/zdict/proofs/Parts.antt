-- Tokens are parts of their line, one behind another.
use Rattle.std.proofs.Common.{◌≡◌, ◌∙◌, ℕ, ◌+◌, ◌-◌, ◌≤◌, Bool, true, false, cond, inl, inr, List, [], ◌∷◌, length, take, drop, refl, sym, ap, subst, arith}
use Rattle.std.proofs.lemmas.Bool.{cases_Bool}
use Rattle.std.proofs.lemmas.List.{drop-drop, length-drop, length-take}
use Rattle.std.proofs.lemmas.List.Folds.{length-prefix_len}
use Rattle.std.specs.List.{prefix_len}
use Rattle.zdict.specs.Tokens.{is_space, is_listed, is_letter, tokens, tokens_from}
use Rattle.zdict.specs.Parts.{IsPart, AreParts}

module _ (listed : List ℕ) (byte : ℕ) (rest : List ℕ) (place : ℕ) where
  abbrev pub run : ℕ
  run = 1 + prefix_len (is_letter listed) rest

  pub at_space : (behind : Bool) → is_space byte ≡ true → tokens_from listed behind place (byte ∷ rest) ≡ tokens_from listed false (place + 1) rest
  at_space behind is = rw is refl

  pub at_separator : (behind : Bool) → is_space byte ≡ false → is_listed listed byte ≡ true → tokens_from listed behind place (byte ∷ rest) ≡ record { place = place; bytes = byte ∷ [] } ∷ tokens_from listed false (place + 1) rest
  at_separator behind is_none divides = rw (is_none, divides) refl

  pub at_letter : is_space byte ≡ false → is_listed listed byte ≡ false → tokens_from listed false place (byte ∷ rest) ≡ record { place = place; bytes = take run (byte ∷ rest) } ∷ tokens_from listed true (place + 1) rest
  at_letter is_none lies = rw (is_none, lies) refl

  pub in_run : is_space byte ≡ false → is_listed listed byte ≡ false → tokens_from listed true place (byte ∷ rest) ≡ tokens_from listed true (place + 1) rest
  in_run is_none lies = rw (is_none, lies) refl

  pub prefix_of_letter : is_space byte ≡ false → is_listed listed byte ≡ false → prefix_len (is_letter listed) (byte ∷ rest) ≡ run
  prefix_of_letter is_none lies = rw (is_none, lies) refl

pub part_of : (line : List ℕ) (place size : ℕ) (bytes : List ℕ) → 1 ≤ size → length bytes ≡ size → bytes ≡ take size (drop place line) → IsPart line (record { place = place; bytes = bytes })
part_of line place size bytes some long same =
    let width : place + length bytes - place ≡ size = omega arith in
    record { some = omega arith; within = omega (arith, long, ap length same, length-take size (drop place line), length-drop place line); same = rw width same }

pub rest_of : (line rest : List ℕ) (byte place : ℕ) → byte ∷ rest ≡ drop place line → rest ≡ drop (place + 1) line
rest_of line rest byte place e = ap (drop 1) e ∙ drop-drop 1 place line

-- how much of a line lies between a place and the end of a run that the place lies in
left_of_run : List ℕ → Bool → List ℕ → ℕ
left_of_run listed behind rest = cond behind (prefix_len (is_letter listed) rest) 0

parts_from : (listed line rest : List ℕ) (behind : Bool) (place from : ℕ) → rest ≡ drop place line → from ≤ place + left_of_run listed behind rest → AreParts line from (tokens_from listed behind place rest)
unfolding left_of_run
parts_from listed line [] behind place from here h = tt
parts_from listed line (byte ∷ rest) true place from here h =
    let next = rest_of line rest byte place here in
    elim (cases_Bool (is_space byte)) [
      | inl is ↦ subst (AreParts line from) (sym (at_space listed byte rest place true is)) (parts_from listed line rest false (place + 1) from next (omega (arith, (rw is at h))))
      | inr is_none ↦ elim (cases_Bool (is_listed listed byte)) [
        | inl divides ↦ subst (AreParts line from) (sym (at_separator listed byte rest place true is_none divides)) (omega (arith, (rw (is_none, divides) at h)), part_of line place 1 (byte ∷ []) (omega arith) refl (ap (take 1) here), parts_from listed line rest false (place + 1) (place + 1) next (omega arith))
        | inr lies ↦ subst (AreParts line from) (sym (in_run listed byte rest place is_none lies)) (parts_from listed line rest true (place + 1) from next (omega (arith, (rw (is_none, lies) at h))))
      ]
    ]
parts_from listed line (byte ∷ rest) false place from here h =
    let next = rest_of line rest byte place here in
    let run_ends = prefix_len (is_letter listed) rest in
    elim (cases_Bool (is_space byte)) [
      | inl is ↦ subst (AreParts line from) (sym (at_space listed byte rest place false is)) (parts_from listed line rest false (place + 1) from next (omega arith))
      | inr is_none ↦ elim (cases_Bool (is_listed listed byte)) [
        | inl divides ↦ subst (AreParts line from) (sym (at_separator listed byte rest place false is_none divides)) (omega arith, part_of line place 1 (byte ∷ []) (omega arith) refl (ap (take 1) here), parts_from listed line rest false (place + 1) (place + 1) next (omega arith))
        | inr lies ↦
            let whole = prefix_of_letter listed byte rest place is_none lies in
            let long : length (take (1 + run_ends) (byte ∷ rest)) ≡ 1 + run_ends = rw whole at (length-prefix_len (is_letter listed) (byte ∷ rest)) in
            subst (AreParts line from) (sym (at_letter listed byte rest place is_none lies)) (omega arith, part_of line place (1 + run_ends) (take (1 + run_ends) (byte ∷ rest)) (omega arith) long (ap (take (1 + run_ends)) here), parts_from listed line rest true (place + 1) (place + length (take (1 + run_ends) (byte ∷ rest))) next (omega (arith, long)))
      ]
    ]

pub parts_of_line : (listed line : List ℕ) → AreParts line 0 (tokens listed line)
unfolding left_of_run
parts_of_line listed line = parts_from listed line line false 0 0 refl (omega arith)

-- Lines of bytes that were read ahead.
use Rattle.std.proofs.Common.{◌≡◌, ℕ, suc, ◌+◌, ◌<◌, ◌≤◌, Bool, true, false, List, [], ◌∷◌, ◌++◌, length, length-append, take, drop, refl, sym, ap, ◌∙◌, subst, arith}
use Rattle.std.specs.Prelude.{◌==◌, Option, Some, None, cond, if◌then◌else◌, min, not, nat_lt, position}
use Rattle.std.specs.List.{position_or_len}
use Rattle.std.specs.Io.BufRead.{take_through}
use Rattle.std.proofs.Math.Seq.{take-append_seam}
use Rattle.std.proofs.lemmas.Bool.{eqb-false, ltb-true, ltb-false}
use Rattle.std.proofs.lemmas.List.{drop-drop, length-take, nil_from_length, take-append-drop, take-take, take_all}
use Rattle.zfront.specs.ReadAhead.{IsOneLine, line_within}

-- ---- a line

-- the place of its end
abbrev pub end_place : List ℕ → ℕ
end_place bytes = position_or_len (λ byte. byte == 10) bytes

-- how long it is, by the place of its end
pub line_place : (bytes : List ℕ) → (end_place bytes < length bytes → length (take_through 10 bytes) ≡ end_place bytes + 1) × (length bytes ≤ end_place bytes → length (take_through 10 bytes) ≡ length bytes)
line_place [] = (λ within. absurd (omega (arith, within)), λ none. refl)
line_place (byte ∷ rest) = parts (byte == 10) (line_place rest)
  where
    parts : (t : Bool) → (end_place rest < length rest → length (take_through 10 rest) ≡ end_place rest + 1) × (length rest ≤ end_place rest → length (take_through 10 rest) ≡ length rest)
        → (cond (not t) (1 + end_place rest) 0 < suc (length rest) → length (if t then byte ∷ [] else byte ∷ take_through 10 rest) ≡ cond (not t) (1 + end_place rest) 0 + 1)
        × (suc (length rest) ≤ cond (not t) (1 + end_place rest) 0 → length (if t then byte ∷ [] else byte ∷ take_through 10 rest) ≡ suc (length rest))
    parts true more = (λ within. refl, λ none. absurd (omega (arith, none)))
    parts false more = (λ within. omega (arith, more.0 (omega (arith, within))), λ none. omega (arith, more.1 (omega (arith, none))))

pub line_found : (bytes : List ℕ) (at : ℕ) → position (λ byte. byte == 10) bytes ≡ Some at → at + 1 ≡ length (take_through 10 bytes)
line_found bytes at found = parts (nat_lt (end_place bytes) (length bytes)) (ltb-true (end_place bytes) (length bytes)) found
  where
    parts : (t : Bool) → (t ≡ true → end_place bytes < length bytes) → cond t (Some (end_place bytes)) None ≡ Some at → at + 1 ≡ length (take_through 10 bytes)
    parts true within e = sym (ap (λ (n : ℕ). n + 1) (ap (λ (o : Option ℕ). value_of o) e)) ∙ sym ((line_place bytes).0 (within refl))
      where
        value_of : Option ℕ → ℕ
        value_of None = 0
        value_of (Some n) = n
    parts false within e = absurd cc

pub line_unfound : (bytes : List ℕ) → position (λ byte. byte == 10) bytes ≡ None → length bytes ≡ length (take_through 10 bytes)
line_unfound bytes found = parts (nat_lt (end_place bytes) (length bytes)) (ltb-false (end_place bytes) (length bytes)) found
  where
    parts : (t : Bool) → (t ≡ false → length bytes ≤ end_place bytes) → cond t (Some (end_place bytes)) None ≡ None → length bytes ≡ length (take_through 10 bytes)
    parts true none e = absurd cc
    parts false none e = sym ((line_place bytes).1 (none refl))

-- it is a beginning of all
pub line_begins : (bytes : List ℕ) → take (length (take_through 10 bytes)) bytes ≡ take_through 10 bytes
line_begins [] = refl
line_begins (byte ∷ rest) = parts (byte == 10) (line_begins rest)
  where
    parts : (t : Bool) → take (length (take_through 10 rest)) rest ≡ take_through 10 rest
        → take (length (if t then byte ∷ [] else byte ∷ take_through 10 rest)) (byte ∷ rest) ≡ (if t then byte ∷ [] else byte ∷ take_through 10 rest)
    parts true more = refl
    parts false more = ap (λ (l : List ℕ). byte ∷ l) more

pub line_short : (bytes : List ℕ) → length (take_through 10 bytes) ≤ length bytes
line_short bytes = omega (arith, ap length (line_begins bytes), length-take (length (take_through 10 bytes)) bytes)

abbrev head_of : List ℕ → ℕ
head_of [] = 0
head_of (byte ∷ rest) = byte

-- and one line
pub one_line : (bytes : List ℕ) → IsOneLine (take_through 10 bytes)
one_line [] before behind e = absurd (omega (arith, ap length e, length-append before (10 ∷ behind)))
one_line (byte ∷ rest) before behind e = parts (byte == 10) (eqb-false byte 10) before e (one_line rest)
  where
    parts : (t : Bool) → (t ≡ false → byte ≡ 10 → ⊥) → (before : List ℕ) → (if t then byte ∷ [] else byte ∷ take_through 10 rest) ≡ before ++ 10 ∷ behind → IsOneLine (take_through 10 rest) → behind ≡ []
    parts true other before e others = nil_from_length behind (omega (arith, ap length e, length-append before (10 ∷ behind)))
    parts false other [] e others = absurd (other refl (ap head_of e))
    parts false other (first ∷ more) e others = others more behind (ap (drop 1) e)

-- ---- what is given

-- the first n bytes, where a list may have fewer
pub take_room : (bytes : List ℕ) (room n : ℕ) → n ≡ min (length bytes) room → take n bytes ≡ take room bytes
take_room bytes room n least = ap (λ (k : ℕ). take k bytes) least ∙ grind (arith, take_all)

module _ (room : ℕ) (held : List ℕ) where
  pub line_fits : length (line_within room held) ≤ room
  line_fits = omega (arith, line_short (take room held), length-take room held)

  -- it stands in front of what is held
  pub line_front : take (length (line_within room held)) held ≡ line_within room held
  line_front = sym (take-take (length (line_within room held)) room held line_fits) ∙ line_begins (take room held)

  -- and what is held behind it is the rest
  pub line_rest : line_within room held ++ drop (length (line_within room held)) held ≡ held
  line_rest = ap (λ (l : List ℕ). l ++ drop (length (line_within room held)) held) (sym line_front) ∙ take-append-drop (length (line_within room held)) held

  -- it is what was copied of so many bytes
  pub line_copied : (n : ℕ) (copied : List ℕ) → n ≡ length (line_within room held) → copied ≡ take n held → copied ≡ line_within room held
  line_copied n copied count after = after ∙ ap (λ (k : ℕ). take k held) count ∙ line_front

  pub line_left : (n start : ℕ) (bytes : List ℕ) → n ≡ length (line_within room held) → held ≡ drop start bytes → held ≡ line_within room held ++ drop (start + n) bytes
  line_left n start bytes count is =
      sym line_rest ∙ ap (λ (k : ℕ). line_within room held ++ drop k held) (sym count)
      ∙ ap (λ (l : List ℕ). line_within room held ++ l) (ap (drop n) is ∙ drop-drop n start bytes)

-- ---- what a buffer has

-- the line, at its front
pub given_line : (n room : ℕ) (held behind buffer : List ℕ) → n ≡ length (line_within room held) → buffer ≡ line_within room held ++ behind → IsOneLine (take n buffer)
given_line n room held behind buffer count given = subst IsOneLine (sym front) (one_line (take room held))
  where
    front : take n buffer ≡ line_within room held
    front = ap (λ (k : ℕ). take k buffer) count ∙ ap (take (length (line_within room held))) given ∙ take-append_seam (line_within room held) behind

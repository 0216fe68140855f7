-- A head that is read is spelled and takes its operands.
use Rattle.std.proofs.Common.{◌≡◌, ℕ, ◌/◌, ◌%◌, ◌<◌, ◌≤◌, nat_lt, List, [], ◌∷◌, ◌++◌, length, Result, Ok, Err, Option, Some, None, refl, sym, ap, subst, ◌∙◌, rules, tests, ◌||◌, inl, inr}
use Rattle.std.proofs.lemmas.Bool.{ltb-true, ltb-false}
use Rattle.zcode.specs.declared.error.DecodeError.{DecodeError}
use Rattle.zcode.specs.declared.types.OperandType.{OperandType}
use Rattle.zcode.specs.declared.table.OperandCount.{OperandCount}
use Rattle.zcode.specs.declared.table.OperandCount.TheVariants.{Two, One, Zero, Many}
use Rattle.zcode.specs.declared.opcode.Opcode.{Opcode}
use Rattle.zcode.specs.Opcodes.{TakesOperands, opcode_of, operand_bounds}
use Rattle.zcode.specs.Spelling.{Form, Long, ShortOne, ShortZero, VariableTwo, VariableMany, SpellsHead, type_of, types_of}
use Rattle.zcode.specs.Reading.{Head, before, checked_head, head_at, long_head, short_head, variable_head}
use Rattle.zcode.proofs.Steps.{bind_ok, ok_is, both, chosen}

-- what a head was read from
pub record HeadFrom (bytes : List ℕ) (head : Head) (rest : List ℕ) : Type 0 where
  pub front : List ℕ
  pub whole : bytes ≡ front ++ rest
  pub form : Form
  pub spelled : SpellsHead form front head.opcode head.operand_types
  pub number : TakesOperands head.opcode (length head.operand_types)

-- a head of an opcode that was judged, and of these types
record Judged (count : OperandCount) (number : ℕ) (ts : List OperandType) (head : Head) : Type 0 where
  opcode : opcode_of count number ≡ Ok head.opcode
  types : head.operand_types ≡ ts
  fits : TakesOperands head.opcode (length head.operand_types)

is_checked : (opcode : Opcode) (ts : List OperandType) (head : Head) → checked_head opcode ts ≡ Ok head → (head ≡ record { opcode = opcode; operand_types = ts }) × TakesOperands opcode (length ts)
unfolding checked_head
is_checked opcode ts head e =
    elim (chosen (nat_lt (length ts) (operand_bounds opcode).0 || nat_lt (operand_bounds opcode).1 (length ts)) _ _ _ e) [
      | inl p ↦ absurd (let f = p.1 in cc)
      | inr p ↦ (sym (ok_is _ _ p.1), (search (rules, tests), search (rules, tests)))
    ]

is_judged : (count : OperandCount) (number : ℕ) (ts : List OperandType) (opcode : Opcode) (head : Head) → opcode_of count number ≡ Ok opcode → checked_head opcode ts ≡ Ok head → Judged count number ts head
is_judged count number ts opcode head p c =
    let b = is_checked opcode ts head c in
    rw b.0 (record { opcode = p; types = refl; fits = b.1 })

found_long : (b : ℕ) (rest : List ℕ) (head : Head) → b < 0x80 → long_head b ≡ Ok head → HeadFrom (b ∷ rest) head rest
unfolding long_head
found_long b rest head low e =
    let a = bind_ok (opcode_of Two (b % 32)) _ _ e in
    let j = is_judged Two (b % 32) _ a.0 head a.1 a.2 in
    record { front = b ∷ []; whole = refl; form = Long; spelled = (low, j.opcode, j.types); number = j.fits }

found_short : (b : ℕ) (rest : List ℕ) (head : Head) (t : Option OperandType) → type_of (b / 16 % 4) ≡ t → 0x80 ≤ b → b < 0xC0 → short_head b t ≡ Ok head → HeadFrom (b ∷ rest) head rest
unfolding short_head
found_short b rest head (Some t) named above below e =
    let a = bind_ok (opcode_of One (b % 16)) _ _ e in
    let j = is_judged One (b % 16) _ a.0 head a.1 a.2 in
    record { front = b ∷ []; whole = refl; form = ShortOne; spelled = (above, below, j.opcode, t, named, j.types); number = j.fits }
found_short b rest head None named above below e =
    let a = bind_ok (opcode_of Zero (b % 16)) _ _ e in
    let j = is_judged Zero (b % 16) _ a.0 head a.1 a.2 in
    record { front = b ∷ []; whole = refl; form = ShortZero; spelled = (above, below, j.opcode, named, j.types); number = j.fits }

found_variable : (form : Form) (count : OperandCount) (b : ℕ) (rest : List ℕ) (head : Head) (after : List ℕ) → ((t : ℕ) (opcode : Opcode) (ts : List OperandType) → opcode_of count (b % 32) ≡ Ok opcode → ts ≡ types_of t → SpellsHead form (b ∷ t ∷ []) opcode ts) → variable_head count b rest ≡ Ok (head, after) → HeadFrom (b ∷ rest) head after
unfolding variable_head
found_variable form count b [] head after spells e = (let a = bind_ok (opcode_of count (b % 32)) _ _ e in absurd (let f = a.2 in cc))
found_variable form count b (t ∷ rest) head after spells e =
    let a = bind_ok (opcode_of count (b % 32)) _ _ e in
    let c = bind_ok (checked_head a.0 (types_of t)) _ _ a.2 in
    let q = both _ _ _ _ c.2 in
    let j = is_judged count (b % 32) (types_of t) a.0 head a.1 (c.1 ∙ ap (λ (h : Head). Ok h) q.0) in
    record { front = b ∷ t ∷ []; whole = ap (λ (xs : List ℕ). b ∷ t ∷ xs) q.1; form = form; spelled = spells t _ _ j.opcode j.types; number = j.fits }

before_is : (rest : List ℕ) (r : Result Head DecodeError) (head : Head) (after : List ℕ) → before rest r ≡ Ok (head, after) → (r ≡ Ok head) × (rest ≡ after)
before_is rest (Ok h) head after e = let q = both _ _ _ _ e in (ap (λ (x : Head). Ok x) q.0, q.1)
before_is rest (Err d) head after e = absurd cc

pub found_head : (bytes : List ℕ) (head : Head) (after : List ℕ) → head_at bytes ≡ Ok (head, after) → HeadFrom bytes head after
unfolding head_at
found_head [] head after e = absurd cc
found_head (b ∷ rest) head after e =
    elim (chosen (nat_lt b 0x80) _ _ _ e) [
      | inl p ↦ (let w = before_is rest (long_head b) head after p.1 in subst (λ (xs : List ℕ). HeadFrom (b ∷ rest) head xs) w.1 (found_long b rest head (ltb-true b 0x80 p.0) w.0))
      | inr p ↦ (let above : 0x80 ≤ b = ltb-false b 0x80 p.0 in elim (chosen (nat_lt b 0xC0) _ _ _ p.1) [
        | inl q ↦ (let w = before_is rest (short_head b (type_of (b / 16 % 4))) head after q.1 in subst (λ (xs : List ℕ). HeadFrom (b ∷ rest) head xs) w.1 (found_short b rest head (type_of (b / 16 % 4)) refl above (ltb-true b 0xC0 q.0) w.0))
        | inr q ↦ (elim (chosen (nat_lt b 0xE0) _ _ _ q.1) [
          | inl r ↦ found_variable VariableTwo Two b rest head after (λ t opcode ts o k. (ltb-false b 0xC0 q.0, ltb-true b 0xE0 r.0, o, k)) r.1
          | inr r ↦ found_variable VariableMany Many b rest head after (λ t opcode ts o k. (ltb-false b 0xE0 r.0, o, k)) r.1
        ])
      ])
    ]

-- Values of version 5 of the format, computed.
use Rattle.std.proofs.Common.{◌≡◌, true, false, ℕ, List, [], ◌∷◌, ◌++◌, replicate, Some, Ok, Err, refl, arith, take, drop}
use Rattle.zdomain.specs.declared.values.Values.{Values}
use Rattle.zdomain.specs.declared.values.Values.TheVariants.{Run}
use Rattle.zdomain.specs.Interval.{point}
use Rattle.zcert.specs.declared.edition.Edition.TheVariants as editions
use Rattle.zcert.specs.declared.error.CertError.TheVariants as errors
use Rattle.zcert.specs.declared.field.Field.TheVariants as fields
use Rattle.zcert.specs.declared.field.Turn.{Turn}
use Rattle.zcert.specs.declared.field.Turn.TheVariants as turns
use Rattle.zcert.specs.declared.parts.Fact.{Fact}
use Rattle.zcert.specs.declared.limits.TheConstants.{FACT_VERSION, MAX_FACTS}
use Rattle.zcert.specs.Certificate.{Certificate, edition_of}
use Rattle.zcert.specs.Facts.{least_global, FactsRise, AreStated, is_at, facts_at}
use Rattle.zcert.specs.Format.{interval_format, version_of, IsAllowed}
use Rattle.zcert.specs.Lists.{values_format}
use Rattle.zcert.specs.Numbers.{width, number}
use Rattle.zcert.specs.Numbers as numbers
use Rattle.zcert.specs.Spelling.{fact_bytes, facts_bytes, heading, spelling, IsFact, HasSpelling}
use Rattle.zcert.specs.Reading.{global_fits, fact_at, facts_from, all_facts_at, reading, fields_at, heading_at, magic_at, version_at, identity_at, limit_at, range_at, ranges_at, all_ranges_at, values_at, routine_at, routines_at, all_routines_at, instruction_at, instructions_at, all_instructions_at, at_end}
use Rattle.zcert.specs.Building.{Progress, opening, behind_instructions, before_instructions, before_facts, with_fact, InTurn, taken, Adds, IsDue}
use Rattle.zcert.specs.Fields.{field_bytes, IsField, field_at}
use Rattle.zcert.specs.Turns.{IsOfSet, field_width}
use Rattle.zcert.specs.Unfinished.{values_turns}
use Rattle.zcert.specs.declared.values_spelled.Unfinished.TheVariants as unfinished

version : (FACT_VERSION ≡ 5) × (MAX_FACTS ≡ 1048576) × (version_of values_format editions.Stating ≡ 5) × (heading values_format editions.Stating ≡ 0x5A ∷ 0x50 ∷ 0x43 ∷ 0x43 ∷ 5 ∷ []) × IsAllowed values_format editions.Stating × (IsAllowed interval_format editions.Stating → ⊥)
version = (refl, refl, refl, refl, refl, λ e. absurd cc)

widths : (width numbers.FactCount ≡ 4) × (width numbers.FactAddress ≡ 4) × (width numbers.FactGlobal ≡ 1)
widths = (refl, refl, refl)

-- ---- the order

-- at the floor globals go on, and above it they begin anew
least : (least_global 0x324 3 0x324 ≡ 3) × (least_global 0x324 3 0x325 ≡ 0) × (least_global 0 0 0 ≡ 0)
least = (refl, refl, refl)

first : Fact Values
first = record { address = 0x324; global = 1; values = Run (point 5) }

second : Fact Values
second = record { address = 0x324; global = 3; values = Run (point 0) }

third : Fact Values
third = record { address = 0x329; global = 0; values = Run (point 7) }

all : List (Fact Values)
all = first ∷ second ∷ third ∷ []

rise : FactsRise 0 0 all × (FactsRise 0 0 (second ∷ first ∷ []) → ⊥) × (FactsRise 0 0 (first ∷ first ∷ []) → ⊥) × (FactsRise 0 0 (third ∷ first ∷ []) → ⊥)
unfolding all first second third
rise = ((omega arith, omega arith, (omega arith, omega arith, (omega arith, omega arith, tt))), (λ r. omega (arith, r.2.1)), (λ r. omega (arith, r.2.1)), λ r. omega (arith, r.2.0))

stated : AreStated true all × AreStated {V = Values} false [] × (AreStated false all → ⊥)
unfolding all
stated = (tt, refl, λ e. absurd cc)

-- two at one address, one at another, and none at a third
at_places : (facts_at all 0x324 ≡ first ∷ second ∷ []) × (facts_at all 0x329 ≡ third ∷ []) × (facts_at all 0x326 ≡ []) × (is_at 0x324 first ≡ true) × (is_at 0x329 first ≡ false)
unfolding all first second third
at_places = (refl, refl, refl, refl, refl)

-- the last global is one, and the number behind it isn't
globals : IsFact values_format (record first { global = 239 }) × (IsFact values_format (record first { global = 240 }) → ⊥) × (global_fits 0 239 ≡ Ok tt) × (global_fits 0 240 ≡ Err errors.Limit) × (global_fits 3 2 ≡ Err errors.Order) × (global_fits 3 3 ≡ Ok tt) × (global_fits 255 240 ≡ Err errors.Order)
unfolding first
globals = (record { address = omega arith; global = omega arith; values = (omega arith, omega arith) }, (λ f. omega (arith, f.global)), refl, refl, refl, refl, refl)

-- ---- as bytes

spelled : (fact_bytes values_format first ≡ 0 ∷ 0 ∷ 3 ∷ 0x24 ∷ 1 ∷ 0 ∷ 0 ∷ 5 ∷ 0 ∷ 5 ∷ []) × (facts_bytes values_format true (first ∷ []) ≡ 0 ∷ 0 ∷ 0 ∷ 1 ∷ 0 ∷ 0 ∷ 3 ∷ 0x24 ∷ 1 ∷ 0 ∷ 0 ∷ 5 ∷ 0 ∷ 5 ∷ []) × (facts_bytes {V = Values} values_format true [] ≡ 0 ∷ 0 ∷ 0 ∷ 0 ∷ []) × (facts_bytes values_format false (first ∷ []) ≡ [])
unfolding first
spelled = (refl, refl, refl, refl)

read : (fact_at values_format 0 0 (0 ∷ 0 ∷ 3 ∷ 0x24 ∷ 1 ∷ 0 ∷ 0 ∷ 5 ∷ 0 ∷ 5 ∷ 9 ∷ []) ≡ Ok (first, 9 ∷ [])) × (fact_at values_format 0x324 2 (0 ∷ 0 ∷ 3 ∷ 0x24 ∷ 1 ∷ []) ≡ Err errors.Order) × (fact_at values_format 0x325 0 (0 ∷ 0 ∷ 3 ∷ 0x24 ∷ []) ≡ Err errors.Order) × (fact_at values_format 0 0 (0 ∷ 2 ∷ 0 ∷ 0 ∷ []) ≡ Err errors.Limit) × (fact_at values_format 0 0 (0 ∷ 0 ∷ 3 ∷ 0x24 ∷ 0xF0 ∷ []) ≡ Err errors.Limit) × (fact_at values_format 0 0 (0 ∷ 0 ∷ 3 ∷ 0x24 ∷ 1 ∷ 0 ∷ 0 ∷ 5 ∷ 0 ∷ []) ≡ Err errors.Truncated)
unfolding first fact_at
read = (refl, refl, refl, refl, refl, refl)

counts : (all_facts_at values_format true (0 ∷ 0 ∷ 0 ∷ 0 ∷ 7 ∷ []) ≡ Ok ([], 7 ∷ [])) × (all_facts_at values_format false (0 ∷ []) ≡ Ok ([], 0 ∷ [])) × (all_facts_at values_format true (0 ∷ 16 ∷ 0 ∷ 1 ∷ []) ≡ Err errors.Limit) × (all_facts_at values_format true (0 ∷ 16 ∷ 0 ∷ 0 ∷ []) ≡ Err errors.Truncated)
unfolding all_facts_at facts_from fact_at
counts = (refl, refl, refl, refl)

-- ---- field by field

turns_before : (behind_instructions false ≡ turns.Complete) × (behind_instructions true ≡ turns.FactCount) × (before_instructions true 0 ≡ turns.FactCount) × (before_instructions true 2 ≡ turns.InstructionAddress 1) × (before_facts 3 0 ≡ turns.Complete) × (before_facts 3 2 ≡ turns.FactAddress 1 3)
turns_before = (refl, refl, refl, refl, refl, refl)

at : Turn → Progress Values
at turn = record (opening editions.Stating) { floor = 0x324; turn = turn }

fields_taken :
    (taken (at turns.FactCount) (fields.FactCount 2) ≡ Ok (record (at (turns.FactAddress 1 0)) { floor = 0 }))
    × (taken (at turns.FactCount) (fields.FactCount 1048577) ≡ Err errors.Limit)
    × (taken (at (turns.FactAddress 1 2)) (fields.FactAddress 0x324) ≡ Ok (at (turns.FactGlobal 1 0x324 2)))
    × (taken (at (turns.FactAddress 1 2)) (fields.FactAddress 0x325) ≡ Ok (at (turns.FactGlobal 1 0x325 0)))
    × (taken (at (turns.FactAddress 1 2)) (fields.FactAddress 0x323) ≡ Err errors.Order)
    × (taken (at (turns.FactGlobal 1 0x324 2)) (fields.FactGlobal 1) ≡ Err errors.Order)
    × (taken (at (turns.FactGlobal 1 0x324 2)) (fields.FactGlobal 2) ≡ Ok (at (turns.FactValues 1 0x324 2)))
    × (taken (at (turns.FactValues 0 0x324 1)) (fields.FactValues (Run (point 5))) ≡ Ok (record (at turns.Complete) { content = with_fact (at turns.Complete).content first }))
    × (taken (at (turns.FactValues 1 0x324 1)) (fields.FactValues (Run (point 5))) ≡ Ok (record (at (turns.FactAddress 0 2)) { content = with_fact (at turns.Complete).content first }))
    × (taken (at turns.Complete) (fields.FactCount 2) ≡ Err errors.Order)
unfolding at first
fields_taken = (refl, refl, refl, refl, refl, refl, refl, refl, refl, refl)

in_turn : InTurn {V = Values} turns.FactCount (fields.FactCount 2) × (InTurn {V = Values} turns.FactCount (fields.FactAddress 2) → ⊥) × InTurn {V = Values} (turns.FactAddress 1 2) (fields.FactAddress 2) × InTurn {V = Values} (turns.FactGlobal 1 2 3) (fields.FactGlobal 2) × InTurn (turns.FactValues 1 2 3) (fields.FactValues (Run (point 0)))
in_turn = (tt, (λ i. i), tt, tt, tt)

due : IsDue {V = Values} (turns.FactValues 0 0x324 239) [] × (IsDue {V = Values} (turns.FactValues 0 0x324 240) [] → ⊥) × Adds (at (turns.FactValues 0 0x324 1)) (fields.FactValues (Run (point 0))) × (Adds (at turns.FactCount) (fields.FactCount 2) → ⊥)
unfolding at
due = (omega arith, (λ d. omega (arith, d)), tt, λ a. a)

as_bytes : (field_bytes values_format (fields.FactCount 2) ≡ 0 ∷ 0 ∷ 0 ∷ 2 ∷ []) × (field_bytes values_format (fields.FactAddress 0x324) ≡ 0 ∷ 0 ∷ 3 ∷ 0x24 ∷ []) × (field_bytes values_format (fields.FactGlobal 9) ≡ 9 ∷ []) × (field_bytes values_format (fields.FactValues (Run (point 5))) ≡ 0 ∷ 0 ∷ 5 ∷ 0 ∷ 5 ∷ []) × IsField values_format (fields.FactGlobal 255) × (IsField values_format (fields.FactGlobal 256) → ⊥) × IsField values_format (fields.FactCount 1048577)
as_bytes = (refl, refl, refl, refl, omega arith, (λ r. omega (arith, r)), omega arith)

from_bytes : (field_at values_format turns.FactCount (0 ∷ 0 ∷ 0 ∷ 2 ∷ 7 ∷ []) ≡ Ok (fields.FactCount 2, 7 ∷ [])) × (field_at values_format (turns.FactAddress 1 2) (0 ∷ 0 ∷ 3 ∷ 0x24 ∷ []) ≡ Ok (fields.FactAddress 0x324, [])) × (field_at values_format (turns.FactGlobal 1 2 3) (9 ∷ []) ≡ Ok (fields.FactGlobal 9, [])) × (field_at values_format (turns.FactValues 1 2 3) (0 ∷ 0 ∷ 5 ∷ 0 ∷ 5 ∷ []) ≡ Ok (fields.FactValues (Run (point 5)), []))
from_bytes = (refl, refl, refl, refl)

widths_of : (field_width values_turns turns.FactCount unfinished.Nothing ≡ 4) × (field_width values_turns (turns.FactAddress 1 2) unfinished.Nothing ≡ 4) × (field_width values_turns (turns.FactGlobal 1 2 3) unfinished.Nothing ≡ 1) × (field_width values_turns (turns.FactValues 1 2 3) unfinished.Run ≡ 2) × IsOfSet (turns.FactValues 1 2 3) × (IsOfSet (turns.FactGlobal 1 2 3) → ⊥)
widths_of = (refl, refl, refl, refl, tt, λ i. i)

-- ---- a certificate with three facts

front : List ℕ
front = 0x5A ∷ 0x50 ∷ 0x43 ∷ 0x43 ∷ 5 ∷ 0x00 ∷ 0x01 ∷ 0x32 ∷ 0x36 ∷ 0x30 ∷ 0x31 ∷ 0x30 ∷ 0x31 ∷ 0x3A ∷ 0x7A ∷ 0x00 ∷ 0x00 ∷ 0x03 ∷ 0x2A ∷ 0 ∷ 16 ∷ 0 ∷ 0 ∷ []

back : List ℕ
back = 0 ∷ 0 ∷ 0 ∷ 0 ∷ 0 ∷ 2 ∷ 0 ∷ 0 ∷ 3 ∷ 0x24 ∷ 0 ∷ 0 ∷ 0 ∷ 0 ∷ 0 ∷ 3 ∷ 0x29 ∷ 0 ∷ 0 ∷ 0x80 ∷ []

stating : List ℕ
stating = 0 ∷ 0 ∷ 0 ∷ 3 ∷ 0 ∷ 0 ∷ 3 ∷ 0x24 ∷ 1 ∷ 0 ∷ 0 ∷ 5 ∷ 0 ∷ 5 ∷ 0 ∷ 0 ∷ 3 ∷ 0x24 ∷ 3 ∷ 0 ∷ 0 ∷ 0 ∷ 0 ∷ 0 ∷ 0 ∷ 0 ∷ 3 ∷ 0x29 ∷ 0 ∷ 0 ∷ 0 ∷ 7 ∷ 0 ∷ 7 ∷ []

certificate : Certificate Values
certificate = record {
  identity = record { release = 1; serial = 0x32 ∷ 0x36 ∷ 0x30 ∷ 0x31 ∷ 0x30 ∷ 0x31 ∷ []; checksum = 0x3A7A; length = 0x32A };
  limit = Some 16;
  marking = true;
  stating = true;
  ranges = [];
  globals = replicate 240 (Run (point 0));
  routines = [];
  instructions = record { address = 0x324; routine = 0; is_marked = false; locals = []; slots = [] } ∷ record { address = 0x329; routine = 0; is_marked = true; locals = []; slots = [] } ∷ [];
  facts = all;
}

certificate_spelled : spelling values_format certificate ≡ front ++ replicate 1200 0 ++ back ++ stating
unfolding certificate all first second third front back stating
certificate_spelled = refl

certificate_read : reading values_format (front ++ replicate 1200 0 ++ back ++ stating) ≡ Ok certificate
unfolding certificate all first second third front back stating reading heading_at magic_at version_at fields_at identity_at limit_at range_at ranges_at all_ranges_at values_at routine_at routines_at all_routines_at instruction_at instructions_at all_instructions_at fact_at facts_from all_facts_at at_end
certificate_read = refl

edition : (edition_of certificate ≡ editions.Stating) × (edition_of (record certificate { stating = false }) ≡ editions.Marking) × (HasSpelling values_format (record certificate { stating = false }) → ⊥) × (HasSpelling values_format (record certificate { marking = false }) → ⊥)
unfolding certificate all
edition = (refl, refl, (λ has. absurd (let e = has.facts_stated in cc)), λ has. absurd (let e = has.stating in cc))

-- without its last byte it is cut off, and in version 4 its facts are bytes behind the last field
altered : ℕ → List ℕ → List ℕ
altered n facts = take 4 front ++ (n ∷ (drop 5 front ++ (replicate 1200 0 ++ (back ++ facts))))

in_others : (reading values_format (altered 4 stating) ≡ Err errors.Trailing) × (reading values_format (altered 5 (take 33 stating)) ≡ Err errors.Truncated) × (reading values_format (altered 5 (0 ∷ 0 ∷ 0 ∷ 0 ∷ [])) ≡ Ok (record certificate { facts = [] }))
unfolding altered certificate all first second third front back stating reading heading_at magic_at version_at fields_at identity_at limit_at range_at ranges_at all_ranges_at values_at routine_at routines_at all_routines_at instruction_at instructions_at all_instructions_at fact_at facts_from all_facts_at at_end
in_others = (refl, refl, refl)

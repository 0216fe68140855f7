-- The rules of an instruction say the same in a story that doesn't keep its own: one whose property tables lie in static memory.
use Rattle.std.proofs.Common.{◌≡◌, ℕ, ◌<◌, Bool, true, false, List, [], ◌∷◌, ◌++◌, replicate, Option, None, refl, sym, subst, arith}
use Rattle.std.specs.Prelude.{IfSome}
use Rattle.std.specs.Result.{IsOk}
use Rattle.zstory.specs.LoadedStory.{LoadedStory}
use Rattle.zcode.specs.declared.opcode.Opcode.TheVariants.{PutProp}
use Rattle.zcode.specs.declared.instr.Operand.TheVariants.{Constant}
use Rattle.zcode.specs.Instruction.{Instruction}
use Rattle.zcode.specs.Operation.{operation_of}
use Rattle.zcode.specs.Reading.{instruction_at, head_at, variable_head, checked_head, operand_at, operands_at, store_if, branch_if, text_if}
use Rattle.zdomain.specs.declared.interval.Interval.{Interval}
use Rattle.zdomain.specs.Domain.{In}
use Rattle.zdomain.specs.Interval.{interval_operations}
use Rattle.zdomain.specs.IntervalLaw.{interval_sound}
use Rattle.zobj.specs.declared.property.Property.{Property}
use Rattle.zobj.specs.Properties.{first_properties, property_of}
use Rattle.zobj.specs.Values.{IsDataByte, with_property}
use Rattle.zplace.specs.Bytes.{IsClosed, IsOpen, IsWithin, static}
use Rattle.zpairs.specs.Frozen.{FrozenStory, frozen_by}
use Rattle.zpairs.specs.Fixed.{any_below, is_closed, is_size_place}
use Rattle.zpairs.proofs.Telling.{closed_is}
use Rattle.zflow.specs.declared.parts.Outcome.{Outcome}
use Rattle.zflow.specs.Transfer.{demands_of, outcome_of, outcome_at}
use Rattle.zrule.specs.declared.rule.Rule.{Rule}
use Rattle.zrule.specs.declared.rule.Rule.TheVariants as rules
use Rattle.zrule.specs.Numbers.{number_of}
use Rattle.zrule.specs.Claims.{Claims, told_of, globals_at}
use Rattle.zrule.specs.Rules.{Asks, IsLowestBroken, IsThere, Keeps, Leads, Whatever}
use Rattle.zrule.proofs.Asking.{asks_keeps}
use Rattle.zrule.proofs.Instances.{at_bare, bare, bare_entry, certificate_at, claims_at}

-- The globals are at 0x40, the object table is at 0x220, with two entries from 0x25E on, and static memory begins at 0x270 or at 0x29A. The property
-- table of object 1 is at 0x270: a name of one word, property 5 with a byte of data at 0x274, property 3 with two at 0x276, and its end.
-- At 0x370 stands `put_prop 1 5 7`, and behind it `quit`.
unfoldable memory : ℕ → List ℕ
memory base =
    3 ∷ replicate 5 0 ++ 3 ∷ 0x70 ∷ 3 ∷ 0x5C ∷ 2 ∷ 0x20 ∷ 0 ∷ 0x40 ∷ 2 ∷ base ∷ replicate 8 0 ++ 2 ∷ 0x9A ∷ replicate 580 0 ++ 0 ∷ 0 ∷ 0 ∷ 0 ∷ 0 ∷ 0 ∷ 2 ∷ 2 ∷ 0x70 ∷ 0 ∷ 0 ∷ 0 ∷ 0 ∷ 1 ∷ 0 ∷ 0 ∷ 2 ∷ 0x79 ∷ 1 ∷ 0x98 ∷ 0xA5 ∷ 5 ∷ 7 ∷ 0x23 ∷ 0x12 ∷ 0x34 ∷ 0 ∷ 1 ∷ 0x9C ∷ 0xA5 ∷ 0 ∷ replicate 29 0
    ++ replicate 192 2 ++ replicate 22 0 ++ 0xE3 ∷ 0x57 ∷ 1 ∷ 5 ∷ 7 ∷ 0xBA ∷ []

unfoldable story : ℕ → LoadedStory
story base = record { memory = memory base; objects = 2 }

unfoldable put : Instruction
put = record { opcode = PutProp; operands = Constant 1 ∷ Constant 5 ∷ Constant 7 ∷ []; store = None; branch = None; size = 5 }

-- both instructions are listed
unfoldable claims : Claims Interval
claims = claims_at (0x370 ∷ 0x375 ∷ [])

there : IsThere (story 0x70) 0x370 put × IsThere (story 0x9A) 0x370 put
unfolding story memory put instruction_at head_at variable_head checked_head operand_at operands_at store_if branch_if text_if operation_of
there = (record { static = omega arith; decodes = refl }, record { static = omega arith; decodes = refl })

next_listed : Leads interval_operations claims 0 claims.globals bare 0x375
unfolding claims claims_at certificate_at at_bare bare_entry bare
next_listed = record { entry = record { routine = 0; shape = record { locals = []; slots = [] } }; listed = refl; same = refl; covered = record { locals = tt; slots = tt }; implied = tt }

by_answers : (s : LoadedStory) (P : Outcome Interval → Type 0) → IfSome (outcome_at interval_operations (globals_at claims 0x370) put bare (told_of claims s) true) P → IfSome (outcome_at interval_operations (globals_at claims 0x370) put bare (told_of claims s) false) P → Whatever interval_operations claims 0x370 s put bare P
by_answers s P held failed w (true, comes) = subst (λ (x : Option (Outcome Interval)). IfSome x P) comes held
by_answers s P held failed w (false, comes) = subst (λ (x : Option (Outcome Interval)). IfSome x P) comes failed

only : (n x : ℕ) → n < 65536 → In interval_operations (interval_operations.single n) x → n ≡ x
only n x small inside = sym (interval_sound.known (interval_operations.single n) n x (interval_sound.known_single n small) inside)

-- The lowest rule that is broken at 0x370 is I9, where static memory begins at 0x270, and all property tables lie in it
broken : IsLowestBroken interval_operations claims (story 0x70) 0x370 bare_entry rules.Write
unfolding story memory put bare_entry bare operation_of demands_of outcome_of first_properties claims claims_at certificate_at
broken = record {
  broken = λ keeps. (keeps put there.0).0 1 5 (omega arith) (omega arith) (interval_sound.single 1 (omega arith)) (interval_sound.single 5 (omega arith)) 0x274 (omega arith, omega arith) (static (omega arith));
  before = λ other less. (asks_keeps interval_operations claims (story 0x70) 0x370 bare_entry put there.0 other).0 (before other less);
}
  where
    before : (other : Rule) → number_of other < 9 → Asks interval_operations claims (story 0x70) 0x370 bare_entry put other
    before rules.Decodes less = tt
    before rules.Height less = λ known. (omega arith, tt)
    before rules.Local less = λ known. ((omega arith, (omega arith, (omega arith, tt))), tt, tt)
    before rules.Successor less = λ divides reads knows begins. (refl, by_answers (story 0x70) _ (λ low. (0x375, refl, next_listed)) tt)
    before rules.Object less = (λ x inside. (let is = only 1 x (omega arith) inside in (omega (arith, is), omega (arith, is))), tt)
    before rules.Attribute less = tt
    before rules.Property less = λ x n first last object number. subst (λ (y : ℕ). IsOk (with_property y n 0 (memory 0x70))) (only 1 x (omega arith) object) (subst (λ (m : ℕ). IsOk (with_property 1 m 0 (memory 0x70))) (only 5 n (omega arith) number) refl)
    before rules.Divisor less = tt
    before rules.Write less = absurd (omega (arith, less))
    before rules.Read less = absurd (omega (arith, less))
    before rules.Text less = absurd (omega (arith, less))
    before rules.Called less = absurd (omega (arith, less))
    before rules.Returned less = absurd (omega (arith, less))
    before rules.Buffers less = absurd (omega (arith, less))
    before rules.Known less = absurd (omega (arith, less))
    before rules.Stored less = absurd (omega (arith, less))
    before rules.High less = absurd (omega (arith, less))
    before rules.Status less = absurd (omega (arith, less))

-- ---- where static memory begins behind the tables, I9 is kept

told : FrozenStory
told = record { story = story 0x9A; ranges = [] }

opposite : (b : Bool) → b ≡ false → b ≡ true → ⊥
opposite true e f = cc
opposite false e f = cc

abbrev Opens : Property → Type 0
Opens property = (p : ℕ) → IsDataByte property p → IsOpen (story 0x9A) (frozen_by []) p

open_byte : (p : ℕ) → IsWithin 0x274 1 p → IsOpen (story 0x9A) (frozen_by []) p
unfolding told story memory any_below is_size_place
open_byte p inside closed =
    let here : p ≡ 0x274 = omega (arith, inside.0, inside.1) in
    opposite (is_closed told 0x274) refl ((closed_is told 0x274).1 (subst (IsClosed (story 0x9A) (frozen_by [])) here closed))

kept : Keeps interval_operations claims (story 0x9A) 0x370 bare_entry rules.Write
unfolding story memory put bare_entry bare operation_of demands_of first_properties claims claims_at certificate_at
kept = (asks_keeps interval_operations claims (story 0x9A) 0x370 bare_entry put there.1 rules.Write).0 (
  λ x n first last object number. subst (λ (y : ℕ). IfSome (property_of (memory 0x9A) y n) Opens) (only 1 x (omega arith) object) (subst (λ (m : ℕ). IfSome (property_of (memory 0x9A) 1 m) Opens) (only 5 n (omega arith) number) open_byte),
  tt,
)

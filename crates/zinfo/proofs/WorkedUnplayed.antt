-- Opcodes that aren't played, counted by hand in a story of a few instructions.
use Rattle.std.proofs.Common.{inl, inr, ◌≡◌, ℕ, ◌==◌, Bool, true, false, List, [], ◌∷◌, ◌++◌, replicate, Some, None, Ok, Err, refl, sym, ap, ◌∙◌, subst, arith, ◌&&◌, ◌||◌}
use Rattle.std.specs.Prelude.{if◌then◌else◌, ℤ, pos, negsuc, Option, Result}
use Rattle.std.specs.List.{Contains, list_any}
use Rattle.std.proofs.lemmas.Bool.{and_parts, eqb-true, false≢true}
use Rattle.std.proofs.lemmas.List.Elements.{Contains-push, Contains-push_cases}
use Rattle.zstory.specs.LoadedStory.{LoadedStory}
use Rattle.zcode.specs.declared.error.DecodeError.{DecodeError}
use Rattle.zcode.specs.declared.error.DecodeError.TheVariants.{Truncated, NoSuchOpcode, NotInProfile, Operands, Text}
use Rattle.zcode.specs.declared.instr.Operand.TheVariants.{Constant, Variable}
use Rattle.zcode.specs.declared.opcode.Excluded.{Excluded}
use Rattle.zcode.specs.declared.opcode.Excluded.TheVariants.{SplitWindow, SetWindow, OutputStream, InputStream, SoundEffect}
use Rattle.zcode.specs.declared.opcode.Opcode.TheVariants as opcodes
use Rattle.zcode.specs.Instruction.{Instruction}
use Rattle.zcode.specs.Reading.{instruction_at, head_at, short_head, variable_head, checked_head, operands_at, operand_at, store_if, branch_if, branch_at, text_if}
use Rattle.zlist.specs.Listed.{aside_place, next_place, spelled}
use Rattle.zinfo.specs.declared.facts.Unplayed.{Unplayed}
use Rattle.zinfo.specs.Unplayed.{InstructionLeads, IsClosed, IsCountOf, IsMet, IsReached, IsUnplayedAt, Leads, behind_unplayed, count_of, entered}

-- ---- what each takes

-- one operand of one byte, of two and a variable; three operands, four of two bytes, none; and none behind one that is omitted
sizes :
    (behind_unplayed (0xEB ∷ 0x7F ∷ []) 0 ≡ 3) × (behind_unplayed (0xEB ∷ 0x3F ∷ []) 0 ≡ 4) × (behind_unplayed (0xEB ∷ 0xBF ∷ []) 0 ≡ 3) × (behind_unplayed (9 ∷ 0xEB ∷ 0x1B ∷ []) 1 ≡ 7)
    × (behind_unplayed (0xEB ∷ 0x00 ∷ []) 0 ≡ 10) × (behind_unplayed (0xEB ∷ 0xFF ∷ []) 0 ≡ 2) × (behind_unplayed (0xEB ∷ 0x70 ∷ []) 0 ≡ 3)
sizes = (refl, refl, refl, refl, refl, refl, refl)

-- ---- the story

-- From 64 on: `jz sp ?76`, at 67 `set_window 1`, at 70 `call 82 -> sp`, at 75 `quit`; at 76 `split_window 1` of two bytes, at 80 `quit`; at 82 a
-- routine with no locals, at 83 `input_stream` of local 5, at 86 `rtrue`; and at 87 `set_window 0`, to which nothing leads.
story : LoadedStory
story =
    record {
      memory =
          replicate 7 0 ++ 64 ∷ replicate 56 0 ++ 0xA0 ∷ 0x00 ∷ 0xCB ∷ 0xEB ∷ 0x7F ∷ 1 ∷ 0xE0 ∷ 0x3F ∷ 0x00 ∷ 0x29 ∷ 0x00 ∷ 0xBA ∷ 0xEA ∷ 0x3F ∷ 0x00 ∷ 0x01 ∷ 0xBA ∷ 0x00 ∷ 0x00 ∷ 0xF4 ∷ 0xBF ∷ 0x05 ∷ 0xB0
          ∷ 0xEB ∷ 0x7F ∷ 0x00 ∷ [];
      objects = 0;
    }

jz : Instruction
jz = record { opcode = opcodes.Jz; operands = Variable 0 ∷ []; store = None; branch = Some (record { sense = true; offset = pos 11 }); size = 3 }

calling : ℕ → Instruction
calling packed = record { opcode = opcodes.Call; operands = Constant packed ∷ []; store = Some 0; branch = None; size = 5 }

-- where a routine begins that is called: not at its head, and nowhere where it has none
begun : (entered story.memory (calling 41) ≡ Some (pos 83)) × (entered story.memory (calling 0) ≡ None) × (entered story.memory (calling 50) ≡ None) × (entered story.memory jz ≡ None)
unfolding story calling jz
begun = (refl, refl, refl, refl)

-- from place to place
to_window : Leads story.memory (pos 64) (pos 67)
unfolding story jz instruction_at head_at short_head checked_head operands_at operand_at store_if branch_if branch_at text_if
to_window = inl (jz, refl, inl refl)

by_branch : Leads story.memory (pos 64) (pos 76)
unfolding story jz instruction_at head_at short_head checked_head operands_at operand_at store_if branch_if branch_at text_if
by_branch = inl (jz, refl, inr (inl refl))

behind_window : Leads story.memory (pos 67) (pos 70)
unfolding story instruction_at head_at variable_head
behind_window = inr (67, SetWindow, refl, refl, refl)

into_routine : Leads story.memory (pos 70) (pos 83)
unfolding story calling instruction_at head_at variable_head checked_head operands_at operand_at store_if branch_if branch_at text_if
into_routine = inl (calling 41, refl, inr (inr refl))

-- ---- all that is reached: a set that is seen to be closed by looking at each of its places

abbrev reached : List ℕ
reached = 64 ∷ 67 ∷ 70 ∷ 75 ∷ 76 ∷ 80 ∷ 83 ∷ 86 ∷ []

abbrev in_list : List ℕ → ℤ → Bool
in_list xs (pos a) = list_any (λ x. x == a) xs
in_list xs (negsuc _) = false

abbrev if_there : (ℤ → Bool) → Option ℤ → Bool
if_there set None = true
if_there set (Some q) = set q

abbrev leads_into : List ℕ → (ℤ → Bool) → ℕ → Result Instruction DecodeError → Bool
leads_into memory set a (Ok i) = if_there set (next_place (pos a) i) && (if_there set (aside_place (pos a) i) && if_there set (entered memory i))
leads_into memory set a (Err (NotInProfile _)) = set (pos (behind_unplayed memory a))
leads_into memory set a (Err Truncated) = true
leads_into memory set a (Err NoSuchOpcode) = true
leads_into memory set a (Err Operands) = true
leads_into memory set a (Err Text) = true

each : (ℕ → Bool) → List ℕ → Bool
each test [] = true
each test (x ∷ xs) = test x && each test xs

of_each : (test : ℕ → Bool) (xs : List ℕ) (a : ℕ) → each test xs ≡ true → list_any (λ x. x == a) xs ≡ true → test a ≡ true
unfolding each
of_each test [] a all here = absurd (false≢true here)
of_each test (x ∷ xs) a all here =
    let both = and_parts (test x) (each test xs) all in
    (elim (x == a) as (λ b. (x == a) ≡ b → (b || list_any (λ x. x == a) xs) ≡ true → test a ≡ true) [
      | true ↦ λ e h. subst (λ (n : ℕ). test n ≡ true) (eqb-true x a e) both.0
      | false ↦ λ e h. of_each test xs a both.1 h
    ]) refl here

there : (set : ℤ → Bool) (o : Option ℤ) (q : ℤ) → if_there set o ≡ true → o ≡ Some q → set q ≡ true
there set o q h e = subst (λ (r : Option ℤ). if_there set r ≡ true) e h

leads_there : (memory : List ℕ) (set : ℤ → Bool) (a : ℕ) (q : ℤ) → leads_into memory set a (spelled memory (pos a)) ≡ true → Leads memory (pos a) q → set q ≡ true
leads_there memory set a q all (inl (i, here, leads)) = by leads
  where
    parts : if_there set (next_place (pos a) i) && (if_there set (aside_place (pos a) i) && if_there set (entered memory i)) ≡ true
    parts = subst (λ (r : Result Instruction DecodeError). leads_into memory set a r ≡ true) here all

    by : InstructionLeads memory (pos a) i q → set q ≡ true
    by (inl next) = there set (next_place (pos a) i) q (and_parts (if_there set (next_place (pos a) i)) (if_there set (aside_place (pos a) i) && if_there set (entered memory i)) parts).0 next
    by (inr (inl aside)) =
        there set (aside_place (pos a) i) q
        (and_parts (if_there set (aside_place (pos a) i)) (if_there set (entered memory i)) (and_parts (if_there set (next_place (pos a) i)) (if_there set (aside_place (pos a) i) && if_there set (entered memory i)) parts).1).0 aside
    by (inr (inr first)) =
        there set (entered memory i) q
        (and_parts (if_there set (aside_place (pos a) i)) (if_there set (entered memory i)) (and_parts (if_there set (next_place (pos a) i)) (if_there set (aside_place (pos a) i) && if_there set (entered memory i)) parts).1).1 first
leads_there memory set a q all (inr (b, opcode, is, unplayed, behind)) =
    let same : b ≡ a = cc in
    let set_behind : set (pos (behind_unplayed memory b)) ≡ true =
    subst (λ (n : ℕ). set (pos (behind_unplayed memory n)) ≡ true) (sym same)
    (subst (λ (r : Result Instruction DecodeError). leads_into memory set a r ≡ true) (subst (λ (n : ℕ). spelled memory (pos n) ≡ Err (NotInProfile opcode)) same unplayed) all) in
    ap (λ (x : ℤ). set x) behind ∙ set_behind

by_looking : each (λ a. leads_into story.memory (in_list reached) a (spelled story.memory (pos a))) reached ≡ true
unfolding each story instruction_at head_at short_head variable_head checked_head operands_at operand_at store_if branch_if branch_at text_if
by_looking = refl

closed : IsClosed story.memory (in_list reached)
closed (pos a) q here leads = leads_there story.memory (in_list reached) a q (of_each (λ a. leads_into story.memory (in_list reached) a (spelled story.memory (pos a))) reached a by_looking here) leads
closed (negsuc n) q here leads = absurd (false≢true here)

begins_there : in_list reached (pos 64) ≡ true
begins_there = refl

inside : (a : ℕ) → IsReached story (pos a) → in_list reached (pos a) ≡ true
unfolding story
inside a it = it (in_list reached) closed begins_there

-- ---- how often each is met

-- what stands there is the opcode
abbrev same : Excluded → Excluded → Bool
same SplitWindow SplitWindow = true
same SetWindow SetWindow = true
same OutputStream OutputStream = true
same InputStream InputStream = true
same SoundEffect SoundEffect = true
same _ _ = false

same_itself : (opcode : Excluded) → same opcode opcode ≡ true
same_itself SplitWindow = refl
same_itself SetWindow = refl
same_itself OutputStream = refl
same_itself InputStream = refl
same_itself SoundEffect = refl

abbrev is_it : Excluded → Result Instruction DecodeError → Bool
is_it opcode (Err (NotInProfile other)) = same other opcode
is_it opcode _ = false

-- where it stands a test holds
abbrev where_it_is : Excluded → (ℕ → Bool) → ℕ → Bool
where_it_is opcode test a = if is_it opcode (spelled story.memory (pos a)) then test a else true

by_test : (opcode : Excluded) (test : ℕ → Bool) (a : ℕ) → each (where_it_is opcode test) reached ≡ true → IsMet story opcode a → test a ≡ true
by_test opcode test a all it =
    let looked = of_each (where_it_is opcode test) reached a all (inside a it.0) in
    let is : is_it opcode (spelled story.memory (pos a)) ≡ true = ap (λ (r : Result Instruction DecodeError). is_it opcode r) it.1 ∙ same_itself opcode in
    subst (λ (b : Bool). (if b then test a else true) ≡ true) is looked

none_in : (a : ℕ) → Contains [] a → ⊥
none_in a (k, l, e) = absurd (omega (arith, l))

-- it is met at no place, or at one
nowhere : (opcode : Excluded) → each (where_it_is opcode (λ a. false)) reached ≡ true → IsCountOf story opcode 0
nowhere opcode all = record {
  places = [];
  rising = λ k l. absurd (omega (arith, l));
  met = λ a. (λ h. absurd (none_in a h), λ it. absurd (false≢true (by_test opcode (λ a. false) a all it)));
  many = refl;
}

alone : (opcode : Excluded) (place : ℕ) → each (where_it_is opcode (λ a. a == place)) reached ≡ true → IsMet story opcode place → IsCountOf story opcode 1
alone opcode place all here = record {
  places = place ∷ [];
  rising = λ k l. absurd (omega (arith, l));
  met = λ a. (
    λ h. elim (Contains-push_cases [] place a h) [ inl none ↦ absurd (none_in a none) | inr is ↦ subst (λ (n : ℕ). IsMet story opcode n) is here ],
    λ it. subst (λ (n : ℕ). Contains (place ∷ []) n) (sym (eqb-true a place (by_test opcode (λ a. a == place) a all it))) (Contains-push [] place),
  );
  many = refl;
}

-- by the way that leads there
first : IsReached story (pos 64)
unfolding story
first set is_closed begun = begun

on : (p q : ℤ) → Leads story.memory p q → IsReached story p → IsReached story q
on p q leads it set is_closed begun = is_closed p q (it set is_closed begun) leads

window_met : IsMet story SetWindow 67
unfolding story instruction_at head_at variable_head
window_met = (on (pos 64) (pos 67) to_window first, refl)

split_met : IsMet story SplitWindow 76
unfolding story instruction_at head_at variable_head
split_met = (on (pos 64) (pos 76) by_branch first, refl)

input_met : IsMet story InputStream 83
unfolding story instruction_at head_at variable_head
input_met = (on (pos 70) (pos 83) into_routine (on (pos 67) (pos 70) behind_window window_met.0), refl)

-- the second `set_window` isn't counted
counted : IsCountOf story SplitWindow 1 × IsCountOf story SetWindow 1 × IsCountOf story OutputStream 0 × IsCountOf story InputStream 1 × IsCountOf story SoundEffect 0
unfolding each story instruction_at head_at short_head variable_head checked_head operands_at operand_at store_if branch_if branch_at text_if
counted = (alone SplitWindow 76 refl split_met, alone SetWindow 67 refl window_met, nowhere OutputStream refl, alone InputStream 83 refl input_met, nowhere SoundEffect refl)

there_too : IsUnplayedAt story.memory 87 SetWindow
unfolding story instruction_at head_at variable_head
there_too = refl

-- the count of each opcode
counts : Unplayed
counts = record { split_window = 3; set_window = 12; output_stream = 5; input_stream = 7; sound_effect = 4096 }

by_opcode : (count_of counts SplitWindow ≡ 3) × (count_of counts SetWindow ≡ 12) × (count_of counts OutputStream ≡ 5) × (count_of counts InputStream ≡ 7) × (count_of counts SoundEffect ≡ 4096)
unfolding counts
by_opcode = (refl, refl, refl, refl, refl)

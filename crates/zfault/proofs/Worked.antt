-- Values of the definitions, computed.
use Rattle.std.proofs.Common.{◌≡◌, ◌⊎◌, inl, inr, ℕ, zero, suc, ◌^◌, ◌-◌, ◌<◌, ◌≤◌, Bool, true, false, List, [], ◌∷◌, replicate, Some, None, Result, Ok, Err, refl, arith}
use Rattle.std.specs.Prelude.{pos, take}
use Rattle.std.specs.Io.KnownBytes.{Appends}
use Rattle.zfault.specs.declared.adapters.FromRead.{FromRead}
use Rattle.zfault.specs.declared.adapters.ToWrite.{ToWrite}
use Rattle.zfault.specs.declared.event.Event.TheVariants.{Line, Random, Saved, NotRestored}
use Rattle.zfault.specs.declared.fault.Fault.TheVariants.{UnlistedInstruction, IllegalOpcode, UnlistedCall, StackUnderflow, AbsentLocal, AbsentObject, AbsentAttribute, AbsentProperty, PropertyTooLong, ZeroDivisor, WriteOutside, ReadOutside, TextOutside, SmallBuffer, ReturnFromMain, BadVariable}
use Rattle.zfault.specs.declared.pause.Need.TheVariants as needs
use Rattle.zfault.specs.declared.pause.Pause.TheVariants as pauses
use Rattle.zfault.specs.Adapters.{reader_of, read_failures, unflushed, writer_of, write_failures}
use Rattle.zfault.specs.Answers.{pause_for, answers}
use Rattle.zfault.specs.Devices.{AppendsBeginning, BreaksOff, ChangesFront, CountsFailure, HandsOn, LetsWait, RisesByOne, waits_after}
use Rattle.zfault.specs.Fault.{number_of}
use Rattle.zfault.specs.declared.item.Item.{Item}
use Rattle.zfault.specs.declared.item.Item.TheVariants.{Status, Text}
use Rattle.zfault.specs.declared.item.Status.{Status as AStatus}
use Rattle.zfault.specs.declared.items.Mark.{Mark}
use Rattle.zfault.specs.Items.{GivenOut, IsBounded, items_of, room_beside, size, size_of_lines, StandWithin, text_of}
use Rattle.zfault.specs.Line.{padded, IsPadded}

-- ---- faults, pauses and events

numbers : (number_of UnlistedInstruction ≡ 1) × (number_of IllegalOpcode ≡ 2) × (number_of UnlistedCall ≡ 3) × (number_of StackUnderflow ≡ 4) × (number_of AbsentLocal ≡ 5) × (number_of AbsentObject ≡ 6) × (number_of AbsentAttribute ≡ 7) × (number_of AbsentProperty ≡ 8)
numbers = (refl, refl, refl, refl, refl, refl, refl, refl)

more_numbers : (number_of PropertyTooLong ≡ 9) × (number_of ZeroDivisor ≡ 10) × (number_of WriteOutside ≡ 11) × (number_of ReadOutside ≡ 12) × (number_of TextOutside ≡ 13) × (number_of SmallBuffer ≡ 14) × (number_of ReturnFromMain ≡ 15) × (number_of BadVariable ≡ 16)
more_numbers = (refl, refl, refl, refl, refl, refl, refl, refl)

waits : (pause_for needs.Line ≡ pauses.NeedLine) × (pause_for needs.Random ≡ pauses.NeedRandom) × (pause_for needs.Saved ≡ pauses.NeedSave) × (pause_for needs.Restore ≡ pauses.NeedRestore)
waits = (refl, refl, refl, refl)

-- each kind of event answers its need
answered : (answers needs.Line (Line (108 ∷ [])) ≡ true) × (answers needs.Random (Random 0) ≡ true) × (answers needs.Saved (Saved false) ≡ true) × (answers needs.Saved (Saved true) ≡ true) × (answers needs.Restore NotRestored ≡ true)
answered = (refl, refl, refl, refl, refl)

-- and no other
unanswered : (answers needs.Line (Random 0) ≡ false) × (answers needs.Random (Line []) ≡ false) × (answers needs.Saved NotRestored ≡ false) × (answers needs.Restore (Saved true) ≡ false) × (answers needs.Restore (Random 1) ≡ false)
unanswered = (refl, refl, refl, refl, refl)

unanswered_too : (answers needs.Line (Saved true) ≡ false) × (answers needs.Line NotRestored ≡ false) × (answers needs.Random (Saved false) ≡ false) × (answers needs.Random NotRestored ≡ false) × (answers needs.Saved (Line []) ≡ false) × (answers needs.Saved (Random 1) ≡ false) × (answers needs.Restore (Line []) ≡ false) × (answers needs.Restore (Saved false) ≡ false)
unanswered_too = (refl, refl, refl, refl, refl, refl, refl, refl)

-- ---- devices

-- a count rises by one, and at its last value it stays
risen : RisesByOne 0 1 × RisesByOne (2 ^ 64 - 2) (2 ^ 64 - 1) × RisesByOne (2 ^ 64 - 1) (2 ^ 64 - 1) × (RisesByOne 1 1 → ⊥) × (RisesByOne 3 5 → ⊥) × (RisesByOne 2 1 → ⊥)
risen = (refl, refl, refl, λ rises. omega (arith, rises), λ rises. omega (arith, rises), λ rises. omega (arith, rises))

outcome : Bool → Result ℕ ℕ
outcome true = Ok 3
outcome false = Err 0

counted : CountsFailure 2 2 (outcome true) × CountsFailure 2 3 (outcome false) × (CountsFailure 2 3 (outcome true) → ⊥) × (CountsFailure 2 2 (outcome false) → ⊥) × (CountsFailure 2 4 (outcome false) → ⊥)
unfolding outcome
counted = (refl, refl, λ counts. omega (arith, counts), λ counts. omega (arith, counts), λ counts. omega (arith, counts))

-- of four bytes three may change at the front; at an error none
front : ChangesFront (1 ∷ 2 ∷ 3 ∷ 4 ∷ []) (7 ∷ 8 ∷ 9 ∷ 4 ∷ []) (outcome true) × (ChangesFront (1 ∷ 2 ∷ 3 ∷ 4 ∷ []) (7 ∷ 8 ∷ 9 ∷ 5 ∷ []) (outcome true) → ⊥) × (ChangesFront (1 ∷ []) (7 ∷ []) (outcome false) → ⊥)
unfolding outcome
front = (refl, λ e. absurd cc, λ e. absurd cc)

-- a byte waits, none leaves it as it is, and a call that fails changes nothing
waiting : (waits_after false (1 ∷ []) ≡ true) × (waits_after false [] ≡ false) × (waits_after true [] ≡ true) × LetsWait false true (outcome true) (1 ∷ []) × LetsWait false false (outcome false) (1 ∷ []) × (LetsWait true false (outcome true) [] → ⊥) × (LetsWait false true (outcome false) (1 ∷ []) → ⊥)
unfolding outcome
waiting = (refl, refl, refl, refl, refl, λ e. absurd cc, λ e. absurd cc)

flushed : Bool → Result Unit ℕ
flushed true = Ok tt
flushed false = Err 0

handed_on : HandsOn true false (flushed true) × HandsOn true true (flushed false) × (HandsOn true true (flushed true) → ⊥) × (HandsOn true false (flushed false) → ⊥)
unfolding flushed
handed_on = (refl, refl, λ e. absurd cc, λ e. absurd cc)

-- two of three bytes, none of them, and what isn't known; known bytes stay known, and no others come
begun : AppendsBeginning (Some (1 ∷ [])) (Some (1 ∷ 2 ∷ 3 ∷ [])) (2 ∷ 3 ∷ 4 ∷ []) × AppendsBeginning (Some (1 ∷ [])) (Some (1 ∷ [])) (2 ∷ []) × AppendsBeginning None None (2 ∷ []) × (AppendsBeginning (Some []) None (2 ∷ []) → ⊥) × (AppendsBeginning (Some []) (Some (9 ∷ [])) (2 ∷ []) → ⊥)
begun = (record { taken = 2; grown = refl }, record { taken = 0; grown = refl }, record { taken = 0; grown = tt }, λ a. a.grown, λ a. other a.taken a.grown)
  where
    other : (n : ℕ) → Appends (Some []) (Some (9 ∷ [])) (take n (2 ∷ [])) → ⊥
    other zero e = absurd cc
    other (suc n) e = absurd cc

-- a write breaks off before the last byte at the latest, and what was taken waits
broken_off :
    BreaksOff (Some (1 ∷ [])) (Some (1 ∷ 2 ∷ 3 ∷ [])) false true (2 ∷ 3 ∷ 4 ∷ []) × BreaksOff (Some []) (Some []) false false (2 ∷ []) × BreaksOff (Some []) (Some []) true true (2 ∷ [])
    × (BreaksOff (Some []) (Some (2 ∷ [])) false true (2 ∷ []) → ⊥) × (BreaksOff None None false false [] → ⊥) × (BreaksOff (Some []) (Some (2 ∷ [])) false false (2 ∷ 3 ∷ []) → ⊥)
broken_off = (
  record { taken = 2; short = omega arith; grown = refl; waits = refl },
  record { taken = 0; short = omega arith; grown = refl; waits = refl },
  record { taken = 0; short = omega arith; grown = refl; waits = refl },
  λ b. all b.taken b.short b.grown,
  λ b. omega (arith, b.short),
  λ b. unseen b.taken b.grown b.waits,
)
  where
    all : (n : ℕ) → n < 1 → Appends (Some []) (Some (2 ∷ [])) (take n (2 ∷ [])) → ⊥
    all zero few e = absurd cc
    all (suc n) few e = omega (arith, few)

    unseen : (n : ℕ) → Appends (Some []) (Some (2 ∷ [])) (take n (2 ∷ 3 ∷ [])) → false ≡ waits_after false (take n (2 ∷ 3 ∷ [])) → ⊥
    unseen zero e waits = absurd cc
    unseen (suc n) e waits = absurd cc

source : FromRead ℕ
source = record { reader = 7; failed_reads = 2 }

sink : ToWrite ℕ
sink = record { writer = 8; failed_calls = 3; unflushed = true }

seen : (reader_of source ≡ 7) × (read_failures source ≡ 2) × (writer_of sink ≡ 8) × (write_failures sink ≡ 3) × (unflushed sink ≡ true)
unfolding source sink
seen = (refl, refl, refl, refl, refl)

-- ---- lines

lines : (padded [] ≡ replicate 254 0) × (padded (108 ∷ 111 ∷ []) ≡ 108 ∷ 111 ∷ replicate 252 0) × (padded (replicate 254 120) ≡ replicate 254 120)
lines = (refl, refl, refl)

-- what a line doesn't count is zeros
kept : IsPadded (padded (108 ∷ 111 ∷ [])) 2 × IsPadded (padded (108 ∷ 0 ∷ [])) 2 × (IsPadded (padded (108 ∷ 111 ∷ [])) 1 → ⊥) × (IsPadded (108 ∷ []) 1 → ⊥)
kept = (record { whole = refl; limit = omega arith; zeros = refl }, record { whole = refl; limit = omega arith; zeros = refl }, λ p. absurd cc, λ p. omega (arith, p.whole))

-- ---- items

one : AStatus
one = record { name = 65 ∷ []; first = pos 1; second = pos 2; time = false }

two : AStatus
two = record { name = []; first = pos 3; second = pos 4; time = true }

mark : ℕ → AStatus → Mark
mark place status = record { place = place; status = status }

-- text alone, and nothing
text_alone : (items_of (104 ∷ 105 ∷ []) [] ≡ Text 104 ∷ Text 105 ∷ []) × (items_of [] [] ≡ [])
text_alone = (refl, refl)

-- a status line before the text, in it, and behind it; the newest is named first
one_line : (items_of (104 ∷ 105 ∷ []) (mark 0 one ∷ []) ≡ Status one ∷ Text 104 ∷ Text 105 ∷ []) × (items_of (104 ∷ 105 ∷ []) (mark 1 one ∷ []) ≡ Text 104 ∷ Status one ∷ Text 105 ∷ []) × (items_of (104 ∷ 105 ∷ []) (mark 2 one ∷ []) ≡ Text 104 ∷ Text 105 ∷ Status one ∷ [])
unfolding mark
one_line = (refl, refl, refl)

-- two at one place, two with text between them, and one with no text
two_lines : (items_of (104 ∷ 105 ∷ []) (mark 1 two ∷ mark 1 one ∷ []) ≡ Text 104 ∷ Status one ∷ Status two ∷ Text 105 ∷ []) × (items_of (104 ∷ 105 ∷ []) (mark 2 two ∷ mark 0 one ∷ []) ≡ Status one ∷ Text 104 ∷ Text 105 ∷ Status two ∷ []) × (items_of [] (mark 0 one ∷ []) ≡ Status one ∷ [])
unfolding mark
two_lines = (refl, refl, refl)

-- lines in the text, in order
standing : StandWithin 2 (mark 2 two ∷ mark 0 one ∷ []) × StandWithin 0 (mark 0 two ∷ mark 0 one ∷ []) × (StandWithin 2 (mark 3 one ∷ []) → ⊥) × (StandWithin 2 (mark 1 two ∷ mark 2 one ∷ []) → ⊥)
unfolding mark
standing = ((omega arith, (omega arith, tt)), (omega arith, (omega arith, tt)), λ s. omega (arith, s.0), λ s. omega (arith, s.1.0))

text_among : (text_of (Text 104 ∷ Status one ∷ Text 105 ∷ Status two ∷ []) ≡ 104 ∷ 105 ∷ []) × (text_of (Status one ∷ []) ≡ [])
text_among = (refl, refl)

-- two bytes of text count two, and two lines 128 with the byte of the first one's name
counted_items : (size (Text 104 ∷ Status one ∷ Text 105 ∷ Status two ∷ []) ≡ 131) × (size [] ≡ 0) × (size_of_lines (mark 2 two ∷ mark 0 one ∷ []) ≡ 129) × (size_of_lines [] ≡ 0)
unfolding mark one two
counted_items = (refl, refl, refl, refl)

-- with nothing held there is the room of memory; beside a byte what a bound of 4 leaves, where memory has more, and none once it is passed
left_beside : (room_beside [] 5 4 ≡ 5) × (room_beside (Text 104 ∷ []) 5 4 ≡ 3) × (room_beside (Text 104 ∷ []) 2 4 ≡ 2) × (room_beside (Status one ∷ []) 5 4 ≡ 0)
unfolding one
left_beside = (refl, refl, refl, refl)

holding : ℕ → List Item → GivenOut
holding most items = record { items = items; room = 0; most = most }

-- beside a byte another comes within a bound of 2, and none beyond it, but where nothing was held; the bound itself stays
within_bound :
    IsBounded (holding 2 (Text 104 ∷ [])) (holding 2 (Text 104 ∷ Text 105 ∷ [])) × IsBounded (holding 1 []) (holding 1 (Text 104 ∷ Text 105 ∷ [])) × IsBounded (holding 0 (Text 104 ∷ [])) (holding 0 (Text 104 ∷ []))
    × (IsBounded (holding 1 (Text 104 ∷ [])) (holding 1 (Text 104 ∷ Text 105 ∷ [])) → ⊥) × (IsBounded (holding 1 []) (holding 2 []) → ⊥)
unfolding holding
within_bound = ((refl, inr (inr (omega arith))), (refl, inr (inl refl)), (refl, inl refl), λ b. beyond b.1, λ b. omega (arith, b.0))
  where
    beyond : (Text 104 ∷ Text 105 ∷ [] ≡ Text 104 ∷ []) ⊎ ((Text 104 ∷ [] ≡ []) ⊎ (2 ≤ 1)) → ⊥
    beyond (inl e) = absurd cc
    beyond (inr (inl e)) = absurd cc
    beyond (inr (inr more)) = omega (arith, more)

-- What code says of an answer in the place of a fault.
use Rattle.std.specs.Prelude.{◌≡◌, ℕ, ◌<◌, ◌+ℤ◌, ◌≤ℤ◌, ℤ, pos, negsuc, true, Bool, List, [], ◌∷◌, Option, Some, None, Result, Ok, Err}
use Rattle.zfault.specs.declared.fault.Fault.{Fault}
use Rattle.zcode.specs.Instruction.{Instruction}
use Rattle.zstate.specs.InTurn.{◌>>=◌}
use Rattle.zstory.specs.LoadedStory.{LoadedStory}
use Rattle.zstate.specs.declared.halt.Halt.{Halt}
use Rattle.zstate.specs.State.{Frame, State, exists}
use Rattle.zstate.specs.Step.{Done, Effect, Move, back, came, items_of, on, proceeds, settle}
use Rattle.zlenient.specs.declared.answer.Answer.{Answer}
use Rattle.zlenient.specs.declared.settling.Course.{Course}
use Rattle.zlenient.specs.declared.settling.Course.TheVariants.{Back, On}
use Rattle.zlenient.specs.declared.excusing.Unexcused.{Unexcused}
use Rattle.zlenient.specs.declared.excusing.Unexcused.TheVariants as unexcused
use Rattle.zlenient.specs.Step.{or_nowhere}

-- a value is given, and the branch is told something, if at all
abbrev pub effect_with : Option ℕ → Option Bool → Effect
effect_with gives tests = record proceeds { gives = gives; tests = tests }

-- the answer is what is customary
abbrev pub IsTold : Option Answer → Option Effect → Type 0
IsTold None effect = effect ≡ None
IsTold (Some answer) effect = effect ≡ Some (effect_with answer.gives answer.tests)

-- where a step leads
abbrev pub move_of : Course → Move
move_of (On d) = on d
move_of (Back x) = back x

-- a distance that a branch can lead over, or a word
abbrev pub IsShort : ℤ → Type 0
IsShort d = (negsuc 100000 ≤ℤ d) × (d ≤ℤ pos 100000)

abbrev pub IsShortWay : Course → Type 0
IsShortWay (On d) = IsShort d
IsShortWay (Back x) = x < 65536

-- the way is open: on, not too far, or back to a caller that has the variable for what is returned
abbrev pub IsOpenWay : Course → State → Type 0
IsOpenWay (On d) s = IsShort d
IsOpenWay (Back x) s = (g : Frame) × (gs : List Frame) × (s.callers ≡ g ∷ gs) × (exists s.frame.result g ≡ true) × (s.frame.result < 256)

-- an instruction of so many bytes at a place ends by the limit
abbrev pub EndsBy : ℕ → ℕ → ℤ → Type 0
EndsBy limit size p = (pos 0 ≤ℤ p) × ((p +ℤ pos size) ≤ℤ pos limit)

-- the place to which an instruction of so many bytes leads
abbrev pub place_after : ℕ → Course → State → ℤ
place_after size (On d) s = (s.place +ℤ pos size) +ℤ d
place_after size (Back x) s = pos s.frame.return_place

-- what is done of an instruction in the place of a fault, once its operands are read
abbrev pub done_instead : LoadedStory → ℕ → Fault → Instruction → Effect → State → State → Result Done Halt
done_instead story limit f i effect read s = settle limit i effect read >>= λ _. or_nowhere f (record { state = came story i effect read s; items = items_of effect })

-- what came of it: it was done, and gives nothing out; or something keeps it from being done, or memory was refused, and nothing changed
abbrev pub IsExcused : Result Done Halt → Result (Unit {0}) Unexcused → State → State → Type 0
IsExcused done (Ok _) old new = done ≡ Ok (record { state = new; items = [] })
IsExcused done (Err (unexcused.Halt h)) old new = (done ≡ Err h) × (new ≡ old)
IsExcused done (Err unexcused.Memory) old new = new ≡ old

-- The player's own commands.
use Rattle.std.specs.Prelude.{◌≡◌, ◌==◌, ◌++◌, ℕ, List, [], ◌∷◌, Option, None, Some, codes, if◌then◌else◌}
use Rattle.std.specs.Str.{bytes_eq}
use Rattle.zstate.specs.State.{State}
use Rattle.zprompt.specs.declared.answer.Answer.{Answer}
use Rattle.zprompt.specs.declared.answer.Answer.TheVariants as answers
use Rattle.zprompt.specs.declared.command.Command.{Command}
use Rattle.zprompt.specs.declared.command.Command.TheVariants.{Undo, Quit, Help, Unknown}

-- the command that a word names
abbrev pub named : List ℕ → Command
named word = if bytes_eq word (codes "undo") then Undo else if bytes_eq word (codes "quit") then Quit else if bytes_eq word (codes "help") then Help else Unknown

-- the command that a line is, if it is one: those begin with a `/`
abbrev pub command_of : List ℕ → Option Command
command_of [] = None
command_of (byte ∷ word) = if byte == 47 then Some (named word) else None

-- What a command does, and how it is answered: of the turns that are kept, the newest last, and of the state. To go back is to stand where the
-- newest of the turns stood, which is kept no longer.
abbrev pub Obeys : Command → Answer → List State → State → List State → State → Type 0
Obeys Undo answers.Undone turns old left new = turns ≡ left ++ new ∷ []
Obeys Undo answers.NothingKept turns old left new = (turns ≡ []) × (left ≡ []) × (new ≡ old)
Obeys Undo answers.NoMemory turns old left new = ((kept : State) × (turns ≡ left ++ kept ∷ [])) × (new ≡ old)
Obeys Help answers.Commands turns old left new = (left ≡ turns) × (new ≡ old)
Obeys Unknown answers.NoSuch turns old left new = (left ≡ turns) × (new ≡ old)
Obeys command answer turns old left new = ⊥

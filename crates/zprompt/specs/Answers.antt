-- What is told of commands.
use Rattle.std.specs.Prelude.{ℕ, List, [], ◌∷◌, ◌++◌, codes}
use Rattle.zprompt.specs.declared.answer.Answer.{Answer}
use Rattle.zprompt.specs.declared.answer.Answer.TheVariants.{Undone, NothingKept, NoMemory, Commands, NoSuch}

-- an answer, an empty line and the prompt once more
abbrev pub prompted : List ℕ → List ℕ
prompted words = words ++ 10 ∷ 10 ∷ 62 ∷ []

abbrev pub text_of : Answer → List ℕ
text_of Undone = prompted (codes "[undone]")
text_of NothingKept = prompted (codes "[nothing to undo]")
text_of NoMemory = prompted (codes "[not undone: out of memory]")
text_of Commands = prompted (codes "[/undo takes the last line back, /quit ends play, /help tells this]")
text_of NoSuch = prompted (codes "[no such command: /help tells which there are]")

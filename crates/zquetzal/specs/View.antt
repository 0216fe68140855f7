-- What the code's values say.
use Rattle.std.specs.Prelude.{◌≡◌, ℕ, zero, suc, List, [], ◌∷◌, length, Result, Ok, Err}
use Rattle.zquetzal.specs.declared.error.SaveError.{SaveError}
use Rattle.zquetzal.specs.declared.chunk.Chunk as code_chunk
use Rattle.zquetzal.specs.declared.survey.Found as code_found
use Rattle.zquetzal.specs.declared.survey.Found.TheVariants as code
use Rattle.zquetzal.specs.declared.survey.Survey as code_survey
use Rattle.zquetzal.specs.declared.survey.Parts as code_parts
use Rattle.zquetzal.specs.declared.parts.FrameParts.{FrameParts}
use Rattle.zquetzal.specs.declared.frame.SavedFrame.{SavedFrame}
use Rattle.zquetzal.specs.declared.frames.Frames.{Frames}
use Rattle.zquetzal.specs.Saved.{Frame}
use Rattle.zquetzal.specs.Grammar.{Chunk}
use Rattle.zquetzal.specs.Reading.{Found, Absent, Once, Often, Parts, words_of, frame_at, frames_within, frames_of}
use Rattle.zquetzal.specs.Steps.{◌>>=◌}
use Rattle.zquetzal.specs.Survey.{Survey}

-- what a step answered, seen by view, is what it has to
abbrev pub Gives : {X Y : Type 0} → (X → Y) → Result X SaveError → Result Y SaveError → Type 0
Gives view (Ok x) due = due ≡ Ok (view x)
Gives view (Err e) due = due ≡ Err e

abbrev pub seen_chunk : code_chunk.Chunk → Chunk
seen_chunk c = record { id = c.id; contents = c.contents.now }

abbrev pub seen_found : code_found.Found → Found
seen_found code.Absent = Absent
seen_found (code.Once d) = Once d.now
seen_found code.Often = Often

abbrev pub seen_survey : code_survey.Survey → Survey
seen_survey s = record { first = s.first; header = seen_found s.header; memory = seen_found s.memory; compressed = seen_found s.compressed; stacks = seen_found s.stacks }

abbrev pub seen_parts : code_parts.Parts → Parts
seen_parts p = record { header = p.header.now; memory = p.memory.now; stacks = p.stacks.now }

-- a frame that is written
abbrev pub given_frame : FrameParts → Frame
given_frame f = record { return_place = f.return_place; result = f.result; supplied = f.supplied; locals = f.locals.now; stack = f.stack.now }

-- a frame that was read
abbrev pub seen_frame : SavedFrame → Frame
seen_frame f = record { return_place = f.return_place; result = f.result; supplied = f.supplied; locals = words_of f.locals.now; stack = words_of f.stack.now }

abbrev pub list_from : {X Y : Type 0} → Result X SaveError → (X → List Y) → List Y
list_from (Ok x) f = f x
list_from (Err e) f = []

-- the frames that stand at the front of the bytes, as many as can be read and at most so many
unfoldable pub frames_up_to : ℕ → List ℕ → List Frame
frames_up_to zero bytes = []
frames_up_to (suc n) bytes = list_from (frame_at bytes) (λ x. x.0 ∷ frames_up_to n x.1)

-- all of them: there are no more frames than bytes
abbrev pub frames_in : List ℕ → List Frame
frames_in bytes = frames_up_to (length bytes) bytes

-- how many frames the bytes are, of which there may be at most so many
abbrev pub count_within : ℕ → List ℕ → Result ℕ SaveError
count_within n bytes = frames_within n bytes >>= λ fs. Ok (length fs)

-- and of which the oldest is the first
abbrev pub count_of : List ℕ → Result ℕ SaveError
count_of bytes = frames_of bytes >>= λ fs. Ok (length fs)

-- what an iterator has left
abbrev pub frames_left : Frames → List Frame
frames_left it = frames_in it.rest.now

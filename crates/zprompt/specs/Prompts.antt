-- Play that stops at each prompt.
use Rattle.std.specs.Prelude.{◌≡◌, ◌⊎◌, ℕ, zero, suc, ◌-◌, ◌^◌, List, [], ◌++◌, Option, None, Some, Result, Ok, Err}
use Rattle.std.specs.Io.KnownBytes.{Appends}
use Rattle.zfault.specs.Devices.{AppendsBeginning}
use Rattle.zquetzal.specs.declared.error.SaveError.{SaveError}
use Rattle.zstate.specs.State.{State, Setting}
use Rattle.zplayer.specs.declared.end.End.{End}
use Rattle.zplayer.specs.declared.end.End.TheVariants as ends
use Rattle.zplayer.specs.declared.end.Options.{Options}
use Rattle.zplayer.specs.declared.end.PlayError.{PlayError}
use Rattle.zplayer.specs.declared.end.PlayError.TheVariants as errors
use Rattle.zplayer.specs.declared.outside.World.{World as Devices}
use Rattle.zplayer.specs.Lines.{Ahead, Hears, unused}
use Rattle.zplayer.specs.Outside.{Coming}
use Rattle.zplayer.specs.Playing.{ComesTo}
use Rattle.zplayer.specs.World.{Kept, Store, told, world}
use Rattle.zprompt.specs.declared.answer.Answer.{Answer}
use Rattle.zprompt.specs.declared.command.Command.{Command}
use Rattle.zprompt.specs.declared.command.Command.TheVariants.{Quit}
use Rattle.zprompt.specs.Answers.{text_of}
use Rattle.zprompt.specs.Commands.{Obeys, command_of}
use Rattle.zprompt.specs.Given.{given_of}
use Rattle.zprompt.specs.Turns.{Keeps}

-- How far a play has come: its state, the states at earlier prompts that are kept, and what is told of the world. The store's refusals are
-- those of the whole play, the newest first.
pub record At : Type 0 where
  pub state : State
  pub turns : List State
  pub input : Option (List ℕ)
  pub words : Option Coming
  pub store : Store
  pub written : Option (List ℕ)

-- the play did nothing but hear
pub record Stays (a b : At) : Type 0 where
  pub state : b.state ≡ a.state
  pub turns : b.turns ≡ a.turns
  pub words : b.words ≡ a.words
  pub store : b.store ≡ a.store
  pub written : b.written ≡ a.written

-- a command was done and answered, but what a failed write left out of that
pub record Obeyed (command : Command) (a b : At) (Written : Option (List ℕ) → Option (List ℕ) → List ℕ → Type 0) : Type 0 where
  pub answer : Answer
  pub obeys : Obeys command answer a.turns a.state b.turns b.state
  pub words : b.words ≡ a.words
  pub store : b.store ≡ a.store
  pub written : Written a.written b.written (text_of answer)

-- a store, with these refusals in place of those that it was told
abbrev pub with_refusals : List SaveError → Store → Store
with_refusals refusals store = record store { refusals = refusals }

-- of a machine that takes saves which lead to such states, and may be refused memory there, played so
module _ (m : Setting) (Takes wants : State → Type 0) (options : Options) where
  -- What a play comes to whose player has just these bytes left. The refusals of its saves are added to those before.
  abbrev pub Plays : List ℕ → At → At → Result End PlayError → Type 0
  Plays bytes a b result =
      (refusals : List SaveError)
      × (b.store.refusals ≡ refusals ++ a.store.refusals)
      × ComesTo m Takes wants options (world (Some bytes) a.words (with_refusals [] a.store)) a.state b.state b.words (with_refusals refusals b.store) a.written b.written result

  -- a line was given to the story, at a state that is kept
  abbrev pub Turn : List ℕ → At → At → Result End PlayError → Type 0
  Turn line a b result = Keeps a.state a.turns b.turns × Plays (given_of line) a b result

  -- what comes of a line: play stands at a prompt again, or it ended or broke off
  abbrev pub ComesOfLine : List ℕ → Option Command → At → At → Result (Option End) PlayError → Type 0
  ComesOfLine line None a b (Ok None) = Turn line a b (Ok ends.NoInput)
  ComesOfLine line None a b (Ok (Some end)) = Turn line a b (Ok end)
  ComesOfLine line None a b (Err error) = Turn line a b (Err error)
  ComesOfLine line (Some command) a b (Ok None) = Obeyed command a b Appends
  ComesOfLine line (Some command) a b (Ok (Some end)) = (command ≡ Quit) × (end ≡ ends.Quit) × Stays a b
  ComesOfLine line (Some command) a b (Err error) = (error ≡ errors.Write) × Obeyed command a b AppendsBeginning

  -- what comes of a prompt: of a line, or where there is none or it can't be read
  abbrev pub Answers : At → At → Result (Option End) PlayError → Type 0
  Answers a b result =
      ((line : List ℕ) × Hears a.input (Some line) b.input × ComesOfLine line (command_of line) a b result)
      ⊎ (((result ≡ Ok (Some ends.NoInput)) × Hears a.input None b.input × Stays a b) ⊎ ((result ≡ Err errors.Read) × Stays a b))

  -- so many prompts were answered one after another
  abbrev pub Comes : ℕ → At → At → Type 0
  Comes zero a b = b ≡ a
  Comes (suc n) a b = (c : At) × Comes n a c × Answers c b (Ok None)

  -- how a play ended, or why it broke off: at a prompt, or before the first
  abbrev pub Ends : ℕ → At → At → Result End PlayError → Type 0
  Ends n a b (Ok end) = Answers a b (Ok (Some end)) ⊎ ((n ≡ 2 ^ 64 - 1) × (end ≡ ends.NoInput) × (b ≡ a))
  Ends n a b (Err error) = Answers a b (Err error)

  -- What comes from the first prompt on: play goes from prompt to prompt, and at the last one it ends. Which states are kept then isn't said,
  -- nor what was read ahead.
  abbrev pub ComesFromPrompts : At → At → Result End PlayError → Type 0
  ComesFromPrompts a b result =
      (n : ℕ) × (last : At) × Comes n a last × (turns : List State) × (input : Option (List ℕ)) × Ends n last (record b { turns = turns; input = input }) result

  -- What playing with commands comes to: it ends before the first prompt, or it comes to that, with no state kept and no line heard, and goes on.
  abbrev pub ComesPrompted : At → At → Result End PlayError → Type 0
  ComesPrompted a b result =
      Plays [] a b result
      ⊎ ((first : At) × Plays [] a first (Ok ends.NoInput) × (first.turns ≡ []) × (first.input ≡ a.input) × ComesFromPrompts first b result)

-- ---- by what is told of devices

-- the player's lines have no more bytes than the line, so that play ends for want of input at the next prompt
abbrev pub played_of : Result (Option End) PlayError → Result End PlayError
played_of (Ok None) = Ok ends.NoInput
played_of (Ok (Some end)) = Ok end
played_of (Err error) = Err error

module _ {R W S G : Type 0} (remaining : R → Option (List ℕ)) (coming : G → Option Coming) (kept : S → Option Kept) (failures : S → ℕ) (contents : W → Option (List ℕ)) where
  -- the devices stand so, with these bytes left of the input, and this is kept and was refused
  abbrev pub at : State → List State → Option (List ℕ) → Devices R W S G → List SaveError → At
  at state turns input devices refusals = record {
    state = state;
    turns = turns;
    input = input;
    words = coming devices.words.now;
    store = told kept failures devices.store.now refusals;
    written = contents devices.writer.now;
  }

  -- with bytes that were read ahead
  abbrev pub at_prompt : State → List State → Ahead → Devices R W S G → List SaveError → At
  at_prompt state turns ahead devices refusals = at state turns (unused ahead (remaining devices.reader.now)) devices refusals

  -- with these states kept, and nothing read ahead
  abbrev pub at_line : State → List State → Devices R W S G → List SaveError → At
  at_line state turns devices refusals = at state turns (remaining devices.reader.now) devices refusals

  -- and with no state kept
  abbrev pub at_first : State → Devices R W S G → List SaveError → At
  at_first state devices refusals = at_line state [] devices refusals

-- What comes of calls in a world: the refusals of saves that the store was told, the newest first, what the store says of its calls, and how
-- far play has come, by whatever was refused before.
abbrev pub ComesWith : {S : Type 0} → (S → S → List SaveError → Type 0) → S → S → (List SaveError → List SaveError → Type 0) → Type 0
ComesWith Follows old new Leads = (refusals : List SaveError) × Follows old new refusals × ((before : List SaveError) → Leads before (refusals ++ before))

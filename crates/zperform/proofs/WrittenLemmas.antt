-- What a play has written stays written, with the player's own commands or with none.
use Rattle.std.proofs.Common.{◌≡◌, inl, inr, ℕ, zero, suc, List, [], ◌++◌, Bool, true, false, Option, None, Some, Result, Ok, Err, ap, subst, sym}
use Rattle.std.specs.Prelude.{MatchBool, take}
use Rattle.std.specs.Io.KnownBytes.{Appends}
use Rattle.std.proofs.KnownBytes.{Appends-nil, Appends-trans}
use Rattle.zstate.specs.State.{Setting, State}
use Rattle.zscreen.specs.Rendering.{render}
use Rattle.zplayer.specs.declared.end.End.{End}
use Rattle.zplayer.specs.declared.end.End.TheVariants as ends
use Rattle.zplayer.specs.declared.end.Options.{Options}
use Rattle.zplayer.specs.declared.end.PlayError.{PlayError}
use Rattle.zplayer.specs.declared.end.PlayError.TheVariants as errors
use Rattle.zplayer.specs.Outside.{Coming}
use Rattle.zplayer.specs.Playing.{ComesTo as ComesPlain}
use Rattle.zplayer.specs.World.{Store, World, world}
use Rattle.zprompt.specs.declared.command.Command.{Command}
use Rattle.zprompt.specs.declared.manner.Manner.{Manner}
use Rattle.zprompt.specs.Answers.{text_of}
use Rattle.zprompt.specs.Commands.{command_of}
use Rattle.zprompt.specs.Given.{given_of}
use Rattle.zprompt.specs.Manners.{ComesTo, standing}
use Rattle.zprompt.specs.Prompts.{Answers, At, Comes, ComesFromPrompts, ComesOfLine, ComesPrompted, Ends, Plays, with_refusals}

-- some bytes were taken behind those before, or none
abbrev pub Grows : Option (List ℕ) → Option (List ℕ) → Type 0
Grows before now = (bytes : List ℕ) × Appends before now bytes

same : (a b : Option (List ℕ)) → b ≡ a → Grows a b
same a b e = subst (Grows a) (sym e) ([], Appends-nil a)

on : (a b c : Option (List ℕ)) → Grows a b → Grows b c → Grows a c
on a b c (first, before) (rest, behind) = (first ++ rest, Appends-trans a b c first rest before behind)

module _ (m : Setting) (Takes wants : State → Type 0) (options : Options) where
  plain : (given : World) (s t : State) (words : Option Coming) (store : Store) (before now : Option (List ℕ)) (result : Result End PlayError) → ComesPlain m Takes wants options given s t words store before now result → Grows before now
  plain given s t words store before now (Ok end) (left, input, finished) = (render options.status finished.given, finished.written)
  plain given s t words store before now (Err errors.Read) (left, input, (plays, awaited)) = (render options.status plays.given, plays.written)
  plain given s t words store before now (Err errors.Write) (left, input, part) = on before part.between now (render options.status part.plays.given, part.plays.written) (take part.turn.written.taken (render options.status part.turn.given), part.turn.written.grown)
  plain given s t words store before now (Err errors.OutOfMemory) (left, input, (plays, wanted)) = (render options.status plays.given, plays.written)

  of_play : (bytes : List ℕ) (a b : At) (result : Result End PlayError) → Plays m Takes wants options bytes a b result → Grows a.written b.written
  of_play bytes a b result (refusals, added, came) = plain (world (Some bytes) a.words (with_refusals [] a.store)) a.state b.state b.words (with_refusals refusals b.store) a.written b.written result came

  of_line : (line : List ℕ) (command : Option Command) (a b : At) (result : Result (Option End) PlayError) → ComesOfLine m Takes wants options line command a b result → Grows a.written b.written
  of_line line None a b (Ok None) turn = of_play (given_of line) a b (Ok ends.NoInput) turn.1
  of_line line None a b (Ok (Some end)) turn = of_play (given_of line) a b (Ok end) turn.1
  of_line line None a b (Err error) turn = of_play (given_of line) a b (Err error) turn.1
  of_line line (Some command) a b (Ok None) obeyed = (text_of obeyed.answer, obeyed.written)
  of_line line (Some command) a b (Ok (Some end)) (is, ended, stays) = same a.written b.written stays.written
  of_line line (Some command) a b (Err error) (is, obeyed) = (take obeyed.written.taken (text_of obeyed.answer), obeyed.written.grown)

  of_prompt : (a b : At) (result : Result (Option End) PlayError) → Answers m Takes wants options a b result → Grows a.written b.written
  of_prompt a b result (inl (line, hears, came)) = of_line line (command_of line) a b result came
  of_prompt a b result (inr (inl (is, hears, stays))) = same a.written b.written stays.written
  of_prompt a b result (inr (inr (is, stays))) = same a.written b.written stays.written

  of_prompts : (n : ℕ) (a b : At) → Comes m Takes wants options n a b → Grows a.written b.written
  of_prompts zero a b e = same a.written b.written (ap (λ (x : At). x.written) e)
  of_prompts (suc n) a b (c, before, last) = on a.written c.written b.written (of_prompts n a c before) (of_prompt c b (Ok None) last)

  of_end : (n : ℕ) (a b : At) (result : Result End PlayError) → Ends m Takes wants options n a b result → Grows a.written b.written
  of_end n a b (Ok end) (inl answers) = of_prompt a b (Ok (Some end)) answers
  of_end n a b (Ok end) (inr (many, ended, e)) = same a.written b.written (ap (λ (x : At). x.written) e)
  of_end n a b (Err error) answers = of_prompt a b (Err error) answers

  of_first : (a b : At) (result : Result End PlayError) → ComesFromPrompts m Takes wants options a b result → Grows a.written b.written
  of_first a b result (n, last, came, turns, input, ended) = on a.written last.written b.written (of_prompts n a last came) (of_end n last (record b { turns = turns; input = input }) result ended)

  prompted : (a b : At) (result : Result End PlayError) → ComesPrompted m Takes wants options a b result → Grows a.written b.written
  prompted a b result (inl plays) = of_play [] a b result plays
  prompted a b result (inr (first, plays, none, unheard, came)) = on a.written first.written b.written (of_play [] a first (Ok ends.NoInput) plays) (of_first first b result came)

-- what a play in a manner wrote stands behind what was written before
pub grows : (m : Setting) (Takes wants : State → Type 0) (manner : Manner) (given : World) (s t : State) (words : Option Coming) (store : Store) (before now : Option (List ℕ)) (result : Result End PlayError)
    → ComesTo m Takes wants manner given s t words store before now result → Grows before now
grows m Takes wants manner given s t words store before now result came = by manner.commands came
  where
    by : (commands : Bool)
        → MatchBool commands (ComesPrompted m Takes wants manner.options (standing s given before) (standing t (world None words store) now) result) (ComesPlain m Takes wants manner.options given s t words store before now result) → Grows before now
    by true prompted_so = prompted m Takes wants manner.options (standing s given before) (standing t (world None words store) now) result prompted_so
    by false plain_so = plain m Takes wants manner.options given s t words store before now result plain_so

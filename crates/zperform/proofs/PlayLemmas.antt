-- What a play of a loaded story comes to.
use Rattle.std.proofs.Common.{◌≡◌, ◌⊎◌, inl, inr, ℕ, List, [], Option, Some, true≢false, Result, Ok, Err, IsErr, IsErrAnd, refl, sym, subst, arith, take}
use Rattle.std.specs.Prelude.{⊤}
use Rattle.zquetzal.specs.declared.error.SaveError.{SaveError}
use Rattle.zstory.specs.LoadedStory.{LoadedStory}
use Rattle.zstory.specs.Refusal.{IsCause, IsLowest}
use Rattle.zstory.specs.declared.load_error.LoadError.{LoadError}
use Rattle.zstory.specs.declared.load_error.LoadError.TheVariants.{TooShort, TooLong, NotVersion3, LengthWord, StaticBase, Globals, Objects, Dictionary, EntryLength, DictionaryOrder, FirstInstruction, OutOfMemory}
use Rattle.zstate.specs.State.{State, opening}
use Rattle.zref.specs.Machine.{Machine, setting}
use Rattle.zref.specs.declared.scope.Scope.TheVariants.{All}
use Rattle.zplayer.specs.declared.end.End.{End}
use Rattle.zprompt.specs.declared.manner.Manner.{Manner}
use Rattle.zplayer.specs.declared.end.PlayError.{PlayError}
use Rattle.zplayer.specs.declared.end.PlayError.TheVariants as errors
use Rattle.zplayer.specs.Playing.{WantsOrSaves}
use Rattle.zprompt.specs.Manners.{ComesTo as PlayComes}
use Rattle.zplayer.specs.Outside.{Coming, words_from}
use Rattle.zplayer.specs.World.{Kept, Store, World, world}
use Rattle.zperform.specs.declared.outcome.Failure.TheVariants.{File, Read, Write, Memory}
use Rattle.zperform.specs.declared.outcome.Problem.{Problem}
use Rattle.zperform.specs.declared.outcome.Problem.TheVariants.{Refused, Unreadable, BreaksStory, BreaksInstruction, Unlisted, Unfound, Occupied, Failed, Packed}
use Rattle.zperform.specs.declared.outcome.Outcome.{Outcome}
use Rattle.zperform.specs.declared.outcome.Outcome.TheVariants.{Listed, Found, Accepted, Through, Shown, NoAddress, Informed, Explained, NoSuchCode, OneForMany, Played, Stopped, Unpacked}
use Rattle.zperform.specs.Played.{Account, ComesOutOf}
use Rattle.zperform.specs.Playing.{ComesTo, Holds, IsPlayed, IsRefused, IsUnloaded, Reads, StaysEmpty}
use Rattle.zperform.specs.Report.{outcome_of, problem_of_load, problem_of_play}
use Rattle.zperform.specs.Contents.{HasBytes}
use Rattle.zperform.proofs.AcceptLemmas.{part_bytes, sound_bytes}
use Rattle.zperform.proofs.StoryFiles.{holds_whole, reads, refused_whole}

-- how a play comes out with what it was lent, it does with that of which it was lent, and to which it comes back
module _ {S : Type 0} (kept : S → Option Kept) (failures : S → ℕ) (Follows : S → S → List SaveError → Type 0) (account : Account) (result : Result End Problem) where
  abbrev Out : Option (List ℕ) → List ℕ → S → S → Option (List ℕ) → Option (List ℕ) → Type 0
  Out input state old new before now = ComesOutOf kept failures Follows (λ store. account (world input (Some (words_from state)) store)) old new before now result

  pub lent_out : (input had : Option (List ℕ)) (state drawn : List ℕ) (old lent new back : S) (before begun now ended : Option (List ℕ)) → had ≡ input → drawn ≡ state → lent ≡ old → back ≡ new → begun ≡ before → ended ≡ now → Out had drawn lent new begun now → Out input state old back before ended
  lent_out input had state drawn old lent new back before begun now ended same_input same_words given home same_before same_now out =
      let heard = subst (λ (i : Option (List ℕ)). Out i drawn lent new begun now) same_input out in
      let drew = subst (λ (i : List ℕ). Out input i lent new begun now) same_words heard in
      let gave = subst (λ (i : S). Out input state i new begun now) given drew in
      let got = subst (λ (i : S). Out input state old i begun now) (sym home) gave in
      let began = subst (λ (i : Option (List ℕ)). Out input state old back i now) same_before got in
      subst (λ (i : Option (List ℕ)). Out input state old back before i) (sym same_now) began

-- what holds with a new store, which has failed so often, holds with one that hasn't
pub with_store : (P : Store → Type 0) (kept : Option Kept) (n : ℕ) → n ≡ 0 → P (record { kept = kept; failures = n; refusals = [] }) → P (record { kept = kept; failures = 0; refusals = [] })
with_store P kept n none h = subst (λ (k : ℕ). P (record { kept = kept; failures = k; refusals = [] })) none h

-- what the part that was read comes to, the file comes to
module _ (known : Option (List ℕ)) (taken : List ℕ) (manner : Manner) (given : World) (refusals : List SaveError) (before now : Option (List ℕ)) (part : (file : List ℕ) → known ≡ Some file → taken ≡ take 131073 file) where
  along : (P : List ℕ → Type 0) → ((file : List ℕ) → taken ≡ take 131073 file → P taken → P file) → Reads (Some taken) P → Reads known P
  along P step (file, same, holds) = reads known 131073 taken P part step (subst P same holds)

  played_along : (result : Result End PlayError) → Reads (Some taken) (λ file. IsPlayed file manner given refusals before now result) → Reads known (λ file. IsPlayed file manner given refusals before now result)
  played_along result h =
      along (λ file. IsPlayed file manner given refusals before now result)
      (λ file e p. record { story = p.story; holds = holds_whole 131073 taken file (omega arith) e p.story p.holds; state = p.state; words = p.words; store = p.store; comes = p.comes; unsaved = p.unsaved; refused = p.refused }) h

  pub of_part : (outcome : Outcome) → ComesTo (Some taken) manner given refusals before now outcome → ComesTo known manner given refusals before now outcome
  of_part (Played end) h = played_along (Ok end) h
  of_part (Stopped (Refused error)) (h, same, none) = (along (λ file. IsRefused file error) (λ file e p. refused_whole 131073 taken file (omega arith) e error p) h, same, none)
  of_part Listed h = h
  of_part Found h = h
  of_part Shown h = h
  of_part NoAddress h = h
  of_part Informed h = h
  of_part Explained h = h
  of_part Unpacked h = h
  of_part NoSuchCode h = h
  of_part Accepted h = h
  of_part (Through tally) h = h
  of_part OneForMany h = h
  of_part (Stopped (Unreadable error)) h = h
  of_part (Stopped (BreaksStory rule)) h = h
  of_part (Stopped (BreaksInstruction address rule)) h = h
  of_part (Stopped (Unlisted error)) h = h
  of_part (Stopped (Unfound error broken)) h = h
  of_part (Stopped (Occupied purpose)) h = h
  of_part (Stopped (Packed error)) h = h
  of_part (Stopped (Failed File)) h = h
  of_part (Stopped (Failed Read)) h = played_along (Err errors.Read) h
  of_part (Stopped (Failed Write)) h = played_along (Err errors.Write) h
  of_part (Stopped (Failed Memory)) (inl (same, none, some)) = inl (same, none, part_bytes known 131073 taken part some)
  of_part (Stopped (Failed Memory)) (inr h) = inr (played_along (Err errors.OutOfMemory) h)

-- a file that couldn't be read
pub unread : (known : Option (List ℕ)) (manner : Manner) (given : World) (before : Option (List ℕ)) (problem : Problem) → (problem ≡ Failed File) ⊎ (problem ≡ Failed Memory) → (problem ≡ Failed Memory → HasBytes known)
    → ComesTo known manner given [] before before (Stopped problem)
unread known manner given before problem (inl e) wanted = subst (λ (x : Problem). ComesTo known manner given [] before before (Stopped x)) (sym e) (refl, refl)
unread known manner given before problem (inr e) wanted = subst (λ (x : Problem). ComesTo known manner given [] before before (Stopped x)) (sym e) (inl (refl, refl, wanted e))

-- a file that isn't loaded
pub unloaded : (file : List ℕ) (error : LoadError) → IsLowest (IsCause file) error → IsUnloaded file (problem_of_load error)
unloaded file TooShort h = record { lowest = h; of_file = λ e. cc }
unloaded file TooLong h = record { lowest = h; of_file = λ e. cc }
unloaded file NotVersion3 h = record { lowest = h; of_file = λ e. cc }
unloaded file LengthWord h = record { lowest = h; of_file = λ e. cc }
unloaded file StaticBase h = record { lowest = h; of_file = λ e. cc }
unloaded file Globals h = record { lowest = h; of_file = λ e. cc }
unloaded file Objects h = record { lowest = h; of_file = λ e. cc }
unloaded file Dictionary h = record { lowest = h; of_file = λ e. cc }
unloaded file EntryLength h = record { lowest = h; of_file = λ e. cc }
unloaded file DictionaryOrder h = record { lowest = h; of_file = λ e. cc }
unloaded file FirstInstruction h = record { lowest = h; of_file = λ e. cc }
unloaded file OutOfMemory h = h.1

pub unloaded_comes : (file : List ℕ) (manner : Manner) (given : World) (before : Option (List ℕ)) (problem : Problem) → IsUnloaded file problem → ComesTo (Some file) manner given [] before before (Stopped problem)
unloaded_comes file manner given before (Refused error) h = ((file, refl, h), refl, refl)
unloaded_comes file manner given before (Unreadable error) h = absurd h
unloaded_comes file manner given before (BreaksStory rule) h = absurd h
unloaded_comes file manner given before (BreaksInstruction address rule) h = absurd h
unloaded_comes file manner given before (Unlisted error) h = absurd h
unloaded_comes file manner given before (Unfound error broken) h = absurd h
unloaded_comes file manner given before (Occupied purpose) h = absurd h
unloaded_comes file manner given before (Packed error) h = absurd h
unloaded_comes file manner given before (Failed File) h = absurd h
unloaded_comes file manner given before (Failed Read) h = absurd h
unloaded_comes file manner given before (Failed Write) h = absurd h
unloaded_comes file manner given before (Failed Memory) h = inl (refl, refl, sound_bytes file h)

-- a problem that is handed on
pub passed_on : (known : Option (List ℕ)) (manner : Manner) (given : World) (refusals : List SaveError) (before now : Option (List ℕ)) (r : Result End Problem) (problem : Problem) → IsErr r × IsErrAnd r (λ q. q ≡ problem)
    → ComesTo known manner given refusals before now (Stopped problem) → ComesTo known manner given refusals before now (outcome_of r)
passed_on known manner given refusals before now (Ok end) problem (is, same) h = absurd (true≢false (sym is))
passed_on known manner given refusals before now (Err q) problem (is, same) h = subst (λ (x : Problem). ComesTo known manner given refusals before now (Stopped x)) (sym same) h

-- a story that was loaded from a file is played
module _ (file : List ℕ) (story : LoadedStory) (holds : Holds file story) (manner : Manner) (m : Machine) (opened : m ≡ record { story = story; scope = All; state = opening story }) (given : World) (before now : Option (List ℕ)) (state : State) (words : Option Coming) (store : Store) (unsaved : StaysEmpty given.store store) (refusals : List SaveError) (refused : store.refusals ≡ refusals) where
  played : (result : Result End PlayError) → PlayComes (setting m) (λ _. ⊤) (WantsOrSaves (setting m)) manner given m.state state words store before now result → Reads (Some file) (λ file. IsPlayed file manner given refusals before now result)
  played result comes =
      (file, refl, record { story = story; holds = holds; state = state; words = words; store = store; comes = subst (λ (x : Machine). PlayComes (setting x) (λ _. ⊤) (WantsOrSaves (setting x)) manner given x.state state words store before now result) opened comes; unsaved = unsaved; refused = refused })

  -- to its end
  pub ended : (end : End) → PlayComes (setting m) (λ _. ⊤) (WantsOrSaves (setting m)) manner given m.state state words store before now (Ok end) → ComesTo (Some file) manner given refusals before now (Played end)
  ended end comes = played (Ok end) comes

  -- or it broke off
  pub broken : (error : PlayError) → PlayComes (setting m) (λ _. ⊤) (WantsOrSaves (setting m)) manner given m.state state words store before now (Err error) → ComesTo (Some file) manner given refusals before now (Stopped (problem_of_play error))
  broken errors.Read comes = played (Err errors.Read) comes
  broken errors.Write comes = played (Err errors.Write) comes
  broken errors.OutOfMemory comes = inr (played (Err errors.OutOfMemory) comes)

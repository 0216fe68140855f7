-- What comes of playing what is accepted but where it is marked.
use Rattle.std.proofs.Common.{◌≡◌, ◌∙◌, inr, ℕ, List, ap, subst}
use Rattle.std.specs.Prelude.{⊤, Option, Result, Ok, Err}
use Rattle.zquetzal.specs.declared.error.SaveError.{SaveError}
use Rattle.zstory.specs.LoadedStory.{LoadedStory}
use Rattle.zstate.specs.State.{State, opening}
use Rattle.zdomain.specs.Domain.{SetOperations}
use Rattle.zcert.specs.Certificate.{Certificate, frame_limit}
use Rattle.zcert.specs.Format.{Format}
use Rattle.zcheck.specs.Acceptance.{AcceptanceOver}
use Rattle.zcheck.specs.Judged.{JudgedOver}
use Rattle.zcheck.specs.Marks.{MarkedOver}
use Rattle.zcheck.specs.declared.judged.Judged.TheVariants.{Whole, Marked}
use Rattle.zref.specs.Machine.{Machine, setting}
use Rattle.zref.specs.declared.scope.Scope.TheVariants.{Within}
use Rattle.zplayer.specs.declared.end.End.{End}
use Rattle.zprompt.specs.declared.manner.Manner.{Manner}
use Rattle.zplayer.specs.declared.end.PlayError.{PlayError}
use Rattle.zplayer.specs.declared.end.PlayError.TheVariants as errors
use Rattle.zplayer.specs.Leniently.{Noted}
use Rattle.zplayer.specs.Outside.{Coming}
use Rattle.zplayer.specs.Playing.{WantsOrSaves}
use Rattle.zprompt.specs.Manners.{ComesTo as PlayComes}
use Rattle.zplayer.specs.World.{Store, World}
use Rattle.zperform.specs.declared.outcome.Outcome.{Outcome}
use Rattle.zperform.specs.declared.outcome.Outcome.TheVariants.{Played, Stopped}
use Rattle.zperform.specs.Accepting.{IsAccepted, IsJudgedOf, IsMarkedOf, IsPlayedMarked, Marks, PlayEnds}
use Rattle.zperform.specs.Contents.{HasBytes}
use Rattle.zperform.specs.Played.{ComesOfEither}
use Rattle.zperform.specs.Playing.{StaysEmpty}
use Rattle.zperform.specs.Report.{problem_of_play}
use Rattle.zperform.proofs.AcceptLemmas.{story_bytes}

-- a machine with every place in scope and so many frames, before its first step
abbrev machine_of : LoadedStory → ℕ → Machine
machine_of story limit = record { story = story; scope = Within limit; state = opening story }

-- one that is made of the parts of what is accepted is made of that
pub made_of : {V : Type 0} (m : MarkedOver V) (machine : Machine) (story : LoadedStory) (c : Certificate V) (limit : ℕ) → story ≡ m.story → c ≡ m.certificate → limit ≡ frame_limit c
    → machine ≡ record { story = story; scope = Within limit; state = opening story } → machine ≡ record { story = m.story; scope = Within (frame_limit m.certificate); state = opening m.story }
made_of m machine story c limit own of_own said made = made ∙ ap (λ (s : LoadedStory). machine_of s limit) own ∙ ap (machine_of m.story) (said ∙ ap frame_limit of_own)

module _ {V : Type 0} (o : SetOperations V) (format : Format V) (story certificate : Option (List ℕ)) where
  -- memory for the machine was refused
  pub unopened : (m : MarkedOver V) → IsMarkedOf o format story certificate m → HasBytes story
  unopened m marked = story_bytes story m.story marked.story

  -- what is said of a play of what is accepted is said of both files
  pub ends_of : (manner : Manner) (noted : Noted) (given : World) (refusals : List SaveError) (before now : Option (List ℕ)) (outcome : Outcome) (j : JudgedOver V) → IsJudgedOf o format story certificate j
      → ComesOfEither (λ (a : AcceptanceOver V) (manner : Manner) (noted : Noted) given refusals before now outcome. (story certificate : Option (List ℕ)) → IsAccepted o format story certificate a → PlayEnds o format story certificate manner given refusals before now outcome)
      (λ (m : MarkedOver V) (manner : Manner) (noted : Noted) given refusals before now outcome. (story certificate : Option (List ℕ)) → IsMarkedOf o format story certificate m → PlayEnds o format story certificate manner given refusals before now outcome) j manner noted given refusals before now outcome
      → PlayEnds o format story certificate manner given refusals before now outcome
  ends_of manner noted given refusals before now outcome (Whole a) accepted comes = comes story certificate accepted
  ends_of manner noted given refusals before now outcome (Marked m) marked comes = comes story certificate marked

  -- a machine that was made
  module _ (manner : Manner) (given : World) (refusals : List SaveError) (before : Option (List ℕ)) (m : MarkedOver V) (marked : IsMarkedOf o format story certificate m) (machine : Machine) (opened : machine ≡ record { story = m.story; scope = Within (frame_limit m.certificate); state = opening m.story }) (now : Option (List ℕ)) (state : State) (words : Option Coming) (store : Store) (unsaved : StaysEmpty given.store store) (refused : store.refusals ≡ refusals) where
    by : (result : Result End PlayError) → PlayComes (setting machine) (λ _. ⊤) (WantsOrSaves (setting machine)) manner given machine.state state words store before now result
        → Marks o format story certificate (λ m. IsPlayedMarked m manner given refusals before now result)
    by result comes =
        (m, marked, record { state = state; words = words; store = store; comes = subst (λ (x : Machine). PlayComes (setting x) (λ _. ⊤) (WantsOrSaves (setting x)) manner given x.state state words store before now result) opened comes; unsaved = unsaved; refused = refused })

    pub played : (end : End) → PlayComes (setting machine) (λ _. ⊤) (WantsOrSaves (setting machine)) manner given machine.state state words store before now (Ok end) → PlayEnds o format story certificate manner given refusals before now (Played end)
    played end comes = inr (by (Ok end) comes)

    pub broken : (error : PlayError) → PlayComes (setting machine) (λ _. ⊤) (WantsOrSaves (setting machine)) manner given machine.state state words store before now (Err error) → PlayEnds o format story certificate manner given refusals before now (Stopped (problem_of_play error))
    broken errors.Read comes = inr (by (Err errors.Read) comes)
    broken errors.Write comes = inr (by (Err errors.Write) comes)
    broken errors.OutOfMemory comes = inr (inr (by (Err errors.OutOfMemory) comes))

-- What comes of lenient play, and what is told of it.
use Rattle.std.proofs.Common.{◌≡◌, ◌∙◌, inl, inr, ℕ, Bool, List, [], ◌∷◌, ◌++◌, Option, Result, Ok, Err, IsErr, IsErrAnd, refl, ap, subst}
use Rattle.std.specs.Prelude.{⊤}
use Rattle.zquetzal.specs.declared.error.SaveError.{SaveError}
use Rattle.zstory.specs.LoadedStory.{LoadedStory}
use Rattle.zstate.specs.State.{State, opening}
use Rattle.zlenient.specs.Front.{opened}
use Rattle.zref.specs.Machine.{Machine, setting}
use Rattle.zref.specs.declared.scope.Scope.TheVariants.{All}
use Rattle.zplayer.specs.declared.end.End.{End}
use Rattle.zplayer.specs.declared.end.Options.{Options}
use Rattle.zplayer.specs.declared.end.PlayError.{PlayError}
use Rattle.zplayer.specs.declared.lenient.Lenience.{Lenience}
use Rattle.zplayer.specs.declared.noting.Answered.{Answered}
use Rattle.zplayer.specs.Leniently.{ComesToLeniently, Happening, Noted, WantsLeniently, notes_of, with_notes}
use Rattle.zplayer.specs.Outside.{Coming}
use Rattle.zplayer.specs.World.{Store, World}
use Rattle.zcheck.specs.Judged.{JudgedOver}
use Rattle.zcheck.specs.declared.judged.Judged.TheVariants.{Whole, Marked}
use Rattle.zcert.specs.Format.{Format}
use Rattle.zdomain.specs.Domain.{SetOperations}
use Rattle.zperform.specs.Accepting.{HoldsStory, HoldsSuch, IsAcceptedStory, IsJudgedOf, story_in, story_of}
use Rattle.zperform.specs.declared.accepting.AcceptedStory.{AcceptedStory}
use Rattle.zperform.specs.declared.accepting.AcceptedStory.TheVariants.{Intervals, Lists}
use Rattle.zperform.specs.Beside.{Aside}
use Rattle.zperform.specs.Devices.{Held, Says, Seen}
use Rattle.zperform.specs.Excusing.{ExcusedTo, IsPlayedLeniently, IsWarning, PlaysExcused, SaysBoth, SaysExcused, SaysWarnings, none_noted}
use Rattle.zperform.specs.Performing.{given, store_of}
use Rattle.zperform.specs.Playing.{StaysEmpty}
use Rattle.zperform.specs.Report.{outcome_of, problem_of_play}
use Rattle.zperform.specs.Telling.{said_of}
use Rattle.zperform.specs.declared.outcome.Failure.TheVariants.{Memory}
use Rattle.zperform.specs.declared.outcome.Problem.{Problem}
use Rattle.zperform.specs.declared.outcome.Problem.TheVariants.{Failed}
use Rattle.zperform.specs.declared.outcome.Outcome.{Outcome}
use Rattle.zperform.proofs.AcceptLemmas.{story_bytes}
use Rattle.zperform.proofs.SessionLemmas.{handed_on}

-- so an outcome is that of the problem
pub stopped_so : (r : Result End Problem) (problem : Problem) → IsErr r × IsErrAnd r (λ q. q ≡ problem) → outcome_of r ≡ outcome_of (Err problem)
stopped_so r problem said = handed_on (λ (o : Outcome). o ≡ outcome_of (Err problem)) r problem said refl

-- there was no memory for the machine
pub unopened : (known : Option (List ℕ)) (story : LoadedStory) → HoldsStory known story → (options : Options) (noted : Noted) → noted ≡ none_noted → (given : World) (before : Option (List ℕ)) → ExcusedTo known options noted given [] before before (Err (Failed Memory))
unopened known story holds options noted none given before = inl (refl, story_bytes known story holds, none, refl, refl)

-- a story that was loaded was played leniently
module _ (known : Option (List ℕ)) (story : LoadedStory) (holds : HoldsStory known story) (options : Options) (m : Machine) (made : m ≡ record { story = story; scope = All; state = opening story }) (begun : Lenience) (fresh : begun ≡ record { front = opened; notes = none_noted }) (given : World) (before now : Option (List ℕ)) (state : State) (words : Option Coming) (store : Store) (unsaved : StaysEmpty given.store store) (refusals : List SaveError) (refused : store.refusals ≡ refusals) (left : Lenience) (happenings : List Happening) (noted_is : left.notes ≡ with_notes (notes_of happenings) begun.notes) where
  abbrev Came : Machine → Lenience → Result End PlayError → Type 0
  Came x l result = ComesToLeniently (setting x) (λ _. ⊤) (WantsLeniently (setting x)) options happenings given x.state l.front state left.front words store before now result

  played : (result : Result End PlayError) → Came m begun result → HoldsSuch known (λ story. IsPlayedLeniently story options left.notes given refusals before now result)
  played result came = (
    story,
    holds,
    record {
      happenings = happenings;
      state = state;
      front = left.front;
      words = words;
      store = store;
      comes = subst (λ (l : Lenience). Came (record { story = story; scope = All; state = opening story }) l result) fresh (subst (λ (x : Machine). Came x begun result) made came);
      noted_is = noted_is ∙ ap (λ (l : Lenience). with_notes (notes_of happenings) l.notes) fresh;
      unsaved = unsaved;
      refused = refused;
    },
  )

  -- to its end
  pub ended : (end : End) → Came m begun (Ok end) → ExcusedTo known options left.notes given refusals before now (Ok end)
  ended end came = played (Ok end) came

  -- or it broke off
  pub broken : (error : PlayError) → Came m begun (Err error) → ExcusedTo known options left.notes given refusals before now (Err (problem_of_play error))
  broken error came = inr (error, refl, played (Err error) came)

-- the story of what is accepted is that of the file
judged_story : {V : Type 0} (o : SetOperations V) (format : Format V) (story certificate : Option (List ℕ)) (j : JudgedOver V) → IsJudgedOf o format story certificate j → HoldsStory story (story_in j)
judged_story o format story certificate (Whole a) accepted = accepted.story
judged_story o format story certificate (Marked m) marked = marked.story

pub accepted_story : (story certificate : Option (List ℕ)) (a : AcceptedStory) → IsAcceptedStory story certificate a → HoldsStory story (story_of a)
accepted_story story certificate (Intervals j) accepted = judged_story _ _ story certificate j accepted
accepted_story story certificate (Lists j) accepted = judged_story _ _ story certificate j accepted

-- of what isn't played nothing is said
pub says_nothing : (tell : Bool) (save : Option (List ℕ)) (errors : Seen) → SaysBoth (said_of tell save []) none_noted errors errors
says_nothing tell save errors = (errors, refl, (errors, refl, refl))

-- one more warning
pub says_more : (firsts : List Answered) (answered : Answered) (text : List ℕ) (a b c : Seen) → SaysWarnings firsts a b → IsWarning answered text → Says b c text → SaysWarnings (firsts ++ answered ∷ []) a c
says_more [] answered text a b c had is said = (text, c, is, subst (λ (s : Seen). Says s c text) had said, refl)
says_more (first ∷ firsts) answered text a b c (line, between, was, told, had) is said = (line, between, was, told, says_more firsts answered text between b c had is said)

-- what comes of devices that were lent comes of those that lent them
module _ (story : List ℕ) (certificate : Option (List ℕ)) (aside : Aside) (options : Options) (seed : ℕ) (save : Option (List ℕ)) (refusals : List SaveError) where
  abbrev Plays : Held → Option (List ℕ) → Option (List ℕ) → Option (List ℕ) → Outcome → Type 0
  Plays files input before now outcome = PlaysExcused files story certificate aside options (given input seed (store_of save)) refusals before now outcome

  pub plays_back : (files lent : Held) (input had before begun now ended : Option (List ℕ)) (outcome made : Outcome) → lent ≡ files → had ≡ input → begun ≡ before → ended ≡ now → made ≡ outcome → Plays lent had begun ended made → Plays files input before now outcome
  plays_back files lent input had before begun now ended outcome made same_files same_input same_before same_now same plays =
      let of = subst (λ (f : Held). Plays f had begun ended made) same_files plays in
      let heard = subst (λ (i : Option (List ℕ)). Plays files i begun ended made) same_input of in
      let began = subst (λ (b : Option (List ℕ)). Plays files input b ended made) same_before heard in
      let came = subst (λ (n : Option (List ℕ)). Plays files input before n made) same_now began in
      subst (λ (o : Outcome). Plays files input before now o) same came

pub says_back : (aside : Aside) (said : List SaveError) (old lent new back : Seen) → lent ≡ old → back ≡ new → SaysExcused aside said lent back → SaysExcused aside said old new
says_back aside said old lent new back same_old same_new says = subst (λ (s : Seen). SaysExcused aside said old s) same_new (subst (λ (s : Seen). SaysExcused aside said s back) same_old says)

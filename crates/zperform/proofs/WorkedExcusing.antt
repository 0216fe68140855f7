-- Values of what lenient play comes to and tells, computed.
use Rattle.std.proofs.Common.{◌≡◌, inl, ℕ, Bool, true, false, List, [], ◌∷◌, ◌++◌, codes, refl}
use Rattle.std.specs.Prelude.{Option, Some, None, pos}
use Rattle.zquetzal.specs.declared.error.SaveError.TheVariants.{NotForm}
use Rattle.std.specs.Fmt.{digits}
use Rattle.zfault.specs.declared.fault.Fault.TheVariants.{AbsentObject, ZeroDivisor}
use Rattle.zcommand.specs.CommandLine.{Play}
use Rattle.zplayer.specs.Leniently.{answered_of, with_notes}
use Rattle.zplayer.specs.declared.noting.Answered.{Answered}
use Rattle.zlenient.specs.Run.{Note}
use Rattle.zperform.specs.Accepting.{IsNoStory, IsOfEither, IsUnacceptedStory}
use Rattle.zperform.specs.Beside.{Aside, Unsought, Absent, Used, Unused, Excused}
use Rattle.zperform.specs.Blaming.{IsUnread, IsUnreadOf}
use Rattle.zperform.specs.Devices.{Held, Seen}
use Rattle.zperform.specs.Excusing.{CanFailOf, IsUnplayed, IsUnreadOfThose, IsWarning, PlaysExcused, SaysBoth, SaysWarnings, count_line, none_noted, noted_of, warning_line, warning_text}
use Rattle.zperform.specs.Informing.{name_of_certificate}
use Rattle.zperform.specs.Performing.{Comes, SaysFor, given, spared_in, store_of}
use Rattle.zperform.specs.Telling.{said_of}
use Rattle.zperform.specs.Wording.{short_text}
use Rattle.zperform.specs.declared.blame.Blame.{Blame}
use Rattle.zperform.specs.declared.outcome.Outcome.{Outcome}
use Rattle.zperform.specs.declared.outcome.Problem.{Problem}
use Rattle.zscreen.specs.declared.status_lines.StatusLines.{StatusLines}
use Rattle.zscreen.specs.declared.status_lines.StatusLines.TheVariants.{Hidden}

-- an object that isn't there at 0x329, twice, and a division by 0 at 0x40c
abbrev object : Note
object = record { fault = AbsentObject; place = pos 809 }

abbrev division : Note
division = record { fault = ZeroDivisor; place = pos 1036 }

-- each place is noted once, with its first fault, and all are counted
noted : with_notes (object ∷ division ∷ object ∷ record { fault = ZeroDivisor; place = pos 809 } ∷ []) none_noted ≡ record { firsts = answered_of object ∷ answered_of division ∷ []; count = 4 }
noted = refl

-- the lines that are told
told :
    (warning_text (answered_of object) ≡ codes "warning: F6 at 00329") × (warning_text (answered_of division) ≡ codes "warning: F10 at 0040c")
    × (warning_line (answered_of object) ≡ codes "warning: F6 at 00329" ++ short_text (codes "F6") ++ 10 ∷ []) × IsWarning (answered_of object) (codes "warning: F6 at 00329" ++ short_text (codes "F6") ++ 10 ∷ [])
    × (count_line 0 ≡ []) × (count_line 1 ≡ codes "faults answered: 1" ++ 10 ∷ []) × (count_line 12 ≡ codes "faults answered: 12" ++ 10 ∷ [])
unfolding digits
told = (refl, refl, refl, inl refl, refl, refl, refl)

-- where nothing was answered nothing is told, and with one a line is before those of the others
module _ (answered : Answered) (others : List Answered) (a b c : Seen) (blame : Option Blame) (problem : Problem) where
  silent : (SaysWarnings [] a b → b ≡ a) × (noted_of Unsought ≡ none_noted) × (noted_of Absent ≡ none_noted) × (noted_of Used ≡ none_noted) × (noted_of (Unused blame problem) ≡ none_noted) × (noted_of (Excused (record { firsts = []; count = 3 })) ≡ record { firsts = []; count = 3 })
  silent = (λ h. h, refl, refl, refl, refl, refl)

-- a lenient play looks for no certificate, so that none can fail beside the story
spared :
    (spared_in (Play (codes "a.z3") None 1 2 Hidden None false false true) ≡ None) × (spared_in (Play (codes "a.z3") None 1 2 Hidden (Some (7 ∷ [])) false false true) ≡ Some (7 ∷ []))
    × (spared_in (Play (codes "a.z3") None 1 2 Hidden None false false false) ≡ Some (name_of_certificate (codes "a.z3")))
spared = (refl, refl, refl)

-- what it comes to and tells
module _ (held later : Held) (story certificate : List ℕ) (input before now : Option (List ℕ)) (aside : Aside) (outcome : Outcome) (old new : Seen) (problem : Problem) (blame : Option Blame) where
  comes_of_lenient :
      (beside : Option (List ℕ)) (commands : Bool) (seed budget : ℕ) (status : StatusLines) (save : Option (List ℕ)) (tell force : Bool)
      → (Comes commands (Play story beside seed budget status save tell force true) held later input aside [] before now outcome → PlaysExcused held story beside aside (record { budget = budget; status = status }) (given input seed (store_of save)) [] before now outcome)
      × (SaysFor (Play story beside seed budget status save tell force true) aside (NotForm ∷ []) old new → SaysBoth (said_of tell save (NotForm ∷ [])) (noted_of aside) old new)
  comes_of_lenient beside commands seed budget status save tell force = (λ comes. comes, λ says. says)

  -- with a certificate the story has to be accepted with that
  unplayed :
      (IsUnplayed held story None problem → IsNoStory (held.known story) problem) × (IsUnplayed held story (Some certificate) problem → IsUnacceptedStory (held.known story) (held.known certificate) problem)
      × (CanFailOf held story None → held.can_fail story ≡ true) × (CanFailOf held story (Some certificate) → IsOfEither held story certificate)
      × (IsUnreadOfThose story None blame → IsUnread story blame) × (IsUnreadOfThose story (Some certificate) blame → IsUnreadOf story certificate blame)
  unplayed = (λ h. h, λ h. h, λ h. h, λ h. h, λ h. h, λ h. h)

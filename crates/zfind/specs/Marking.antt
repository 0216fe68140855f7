-- What a finder answers that may mark instructions (own).
use Rattle.std.specs.Prelude.{◌≡◌, ◌≢◌, ⊤, ℕ, Bool, true, false, List, Option, None, Some}
use Rattle.std.specs.Option.{unwrap_or}
use Rattle.std.specs.List.{AllZip}
use Rattle.zstory.specs.LoadedStory.{LoadedStory}
use Rattle.zdomain.specs.declared.values.Values.{Values}
use Rattle.zdomain.specs.Values.{values_operations}
use Rattle.zcert.specs.Certificate.{Instruction, Certificate}
use Rattle.zcert.specs.declared.limits.TheConstants.{USUAL_FRAMES}
use Rattle.zrule.specs.declared.rule.Rule.{Rule}
use Rattle.zrule.specs.Claims.{claims_of, entry_of}
use Rattle.zrule.specs.Rules.{Keeps, IsLowestBroken}
use Rattle.zcheck.specs.declared.refusal.Refusal.{Refusal}
use Rattle.zcheck.specs.Marks.{IsUnmarkedCause, PassesWhereUnmarked}
use Rattle.zfind.specs.declared.error.FindError.{FindError}
use Rattle.zfind.specs.declared.error.FindError.TheVariants.{NotFound, RoundLimit, OutOfMemory}
use Rattle.zfind.specs.declared.error.Obstacle.{Obstacle}
use Rattle.zfind.specs.declared.marking.MarkedRound.{MarkedRound}
use Rattle.zfind.specs.declared.marking.MarkedRound.TheVariants as rounds
use Rattle.zfind.specs.declared.found.Found.{Found}
use Rattle.zfind.specs.declared.found.Found.TheVariants.{Intervals, Lists, Marked}
use Rattle.zfind.specs.Finding.{IsFailure, IsFailureOf, refused_for}
use Rattle.zfind.specs.Found.{IsFound, IsFoundWithin}

module _ (story : LoadedStory) where
  -- one that marks nothing is as it was found, with a limit of frames or without
  abbrev pub IsFoundUnmarked : Option ℕ → Found → Type 0
  IsFoundUnmarked None found = IsFound story found
  IsFoundUnmarked (Some limit) (Intervals certificate) = ⊥
  IsFoundUnmarked (Some limit) (Lists certificate) = IsFoundWithin story limit certificate
  IsFoundUnmarked (Some limit) (Marked certificate) = ⊥

  -- why none such is found
  abbrev pub FailsUnmarked : Option ℕ → FindError → Type 0
  FailsUnmarked None error = IsFailure story error
  FailsUnmarked (Some limit) error = IsFailureOf values_operations story error

  -- none was found that marks nothing, and not for want of memory
  pub record IsWithoutUnmarked (limit : Option ℕ) : Type 0 where
    pub error : FindError
    pub remembers : error ≢ OutOfMemory
    pub failed : FailsUnmarked limit error

  -- it passes but where it marks, and lets at most so many frames stand above the first
  abbrev pub IsMarkedWithin : ℕ → Certificate Values → Type 0
  IsMarkedWithin limit certificate = PassesWhereUnmarked values_operations story certificate × (certificate.limit ≡ Some limit)

  -- what comes of a walk: one that is made is so, and else more is to be listed, or no more is allowed
  abbrev pub IsMarkedRound : ℕ → MarkedRound → Type 0
  IsMarkedRound limit (rounds.Made attempt) = IsMarkedWithin limit attempt.certificate
  IsMarkedRound limit (rounds.Wider listing) = ⊤
  IsMarkedRound limit rounds.Stopped = ⊤

  -- One that marks comes only where none was found that doesn't, and names the limit that was asked for, or 1,024.
  abbrev pub IsFoundMarked : Option ℕ → Found → Type 0
  IsFoundMarked limit (Intervals certificate) = IsFoundUnmarked limit (Intervals certificate)
  IsFoundMarked limit (Lists certificate) = IsFoundUnmarked limit (Lists certificate)
  IsFoundMarked limit (Marked certificate) = IsMarkedWithin (unwrap_or limit USUAL_FRAMES) certificate × IsWithoutUnmarked limit

  -- this is wrong first with a certificate, but where it marks
  pub record IsWrongUnmarked (certificate : Certificate Values) (obstacle : Obstacle) : Type 0 where
    pub refusal : Refusal
    pub cause : IsUnmarkedCause values_operations story certificate refusal
    pub told : refused_for refusal ≡ NotFound obstacle

  -- why the walks find none that may mark: one that names the limit was tried, and this is wrong with it first
  abbrev pub IsUnmarkable : ℕ → FindError → Type 0
  IsUnmarkable limit (NotFound obstacle) = (certificate : Certificate Values) × (certificate.limit ≡ Some limit) × IsWrongUnmarked certificate obstacle
  IsUnmarkable limit RoundLimit = ⊥
  IsUnmarkable limit OutOfMemory = ⊤

  -- why none is found at all: they find none, nor was one found before that marks nothing
  abbrev pub IsMarkedFailure : Option ℕ → FindError → Type 0
  IsMarkedFailure limit (NotFound obstacle) = IsWithoutUnmarked limit × IsUnmarkable (unwrap_or limit USUAL_FRAMES) (NotFound obstacle)
  IsMarkedFailure limit RoundLimit = ⊥
  IsMarkedFailure limit OutOfMemory = ⊤

  -- whether an instruction of a certificate is to be marked: where it breaks a rule, and nowhere else
  abbrev pub IsMarkOf : Certificate Values → Instruction Values → Bool → Type 0
  IsMarkOf certificate i false = (rule : Rule) → Keeps values_operations (claims_of values_operations certificate) story i.address (entry_of i) rule
  IsMarkOf certificate i true = (rule : Rule) × IsLowestBroken values_operations (claims_of values_operations certificate) story i.address (entry_of i) rule

  -- a mark for each of its instructions
  abbrev pub AreMarksOf : Certificate Values → List Bool → Type 0
  AreMarksOf certificate = AllZip (IsMarkOf certificate) certificate.instructions

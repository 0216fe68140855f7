-- What comes of a walk (own).
use Rattle.std.specs.Prelude.{◌≡◌, ⊤, IfSome}
use Rattle.zstory.specs.LoadedStory.{LoadedStory}
use Rattle.zdomain.specs.Domain.{SetOperations}
use Rattle.zcert.specs.Certificate.{Certificate}
use Rattle.zcheck.specs.Passes.{Passes}
use Rattle.zfind.specs.declared.error.FindError.{FindError}
use Rattle.zfind.specs.declared.error.FindError.TheVariants.{NotFound}
use Rattle.zfind.specs.declared.error.Obstacle.{Obstacle}
use Rattle.zfind.specs.declared.finding.Attempt.{Attempt}
use Rattle.zfind.specs.declared.finding.Attempt.TheVariants as attempts
use Rattle.zfind.specs.declared.finding.Search.{Search}
use Rattle.zfind.specs.declared.finding.Search.TheVariants as searches
use Rattle.zfind.specs.declared.finding.Round.{Round}
use Rattle.zfind.specs.declared.finding.Round.TheVariants as rounds
use Rattle.zfind.specs.declared.obstacles.Sight.{Sight}
use Rattle.zfind.specs.declared.obstacles.Sight.TheVariants as sights
use Rattle.zfind.specs.declared.visits.Allowance.{Allowance}
use Rattle.zfind.specs.Finding.{IsMet, IsTried, IsWalkFailure, IsWrongWith}

module _ {V : Type 0} (o : SetOperations V) (story : LoadedStory) where
  -- what an error says stands in the way was met: a certificate was tried that this is wrong with
  abbrev pub IsMetBy : FindError → Type 0
  IsMetBy error = (obstacle : Obstacle) × (error ≡ NotFound obstacle) × IsTried o story obstacle

  -- a certificate of it passes, or one was tried that doesn't
  abbrev pub IsAttempt : {P : Type 0} → Attempt (Certificate V) P → Type 0
  IsAttempt (attempts.Passed certificate) = Passes o story certificate
  IsAttempt (attempts.Failed plan) = ⊤
  IsAttempt (attempts.Wanting failure) = IsMetBy failure.error

  -- the same of several walks
  abbrev pub IsSearch : Search (Certificate V) → Type 0
  IsSearch (searches.Passed certificate) = Passes o story certificate
  IsSearch (searches.Failed failure) = IsMetBy failure.error

  -- and where it is this certificate that was tried
  abbrev pub IsSearchWrong : Certificate V → Search (Certificate V) → Type 0
  IsSearchWrong certificate (searches.Passed passed) = passed ≡ certificate
  IsSearchWrong certificate (searches.Failed failure) = (obstacle : Obstacle) → failure.error ≡ NotFound obstacle → IsWrongWith o story certificate obstacle

  -- The same of the walks over a listing, where so much may be done yet.
  abbrev pub IsRound : Allowance → Round (Certificate V) → Type 0
  IsRound left (rounds.Passed certificate) = Passes o story certificate
  IsRound left (rounds.Failed error) = IsWalkFailure o story left error
  IsRound left (rounds.Wider listing) = ⊤

-- what is told of a listing was met, if anything is
abbrev pub IsSight : LoadedStory → Sight → Type 0
IsSight story (sights.Told told) = IfSome told (IsMet story)
IsSight story (sights.Wider listing) = ⊤

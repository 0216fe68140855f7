-- What the finder answers (own).
use Rattle.std.specs.Prelude.{◌≡◌, ◌≤◌, ◌⊎◌, ⊤, pos, ℕ, drop, IsErr, Option, Some, None}
use Rattle.std.specs.Int.{w32, cast_signed}
use Rattle.zstory.specs.LoadedStory.{LoadedStory, first_instruction}
use Rattle.zcode.specs.Reading.{instruction_at}
use Rattle.zlist.specs.declared.list_error.ListError.{ListError}
use Rattle.zlist.specs.declared.list_error.ListError.TheVariants as faults
use Rattle.zlist.specs.Listing.{ListedCode}
use Rattle.zlist.specs.Listed.{IsLowestFault, Lists}
use Rattle.zdomain.specs.Domain.{SetOperations}
use Rattle.zdomain.specs.Interval.{interval_operations}
use Rattle.zdomain.specs.declared.values.Values.{Values}
use Rattle.zdomain.specs.Values.{values_operations}
use Rattle.zcert.specs.Certificate.{Certificate}
use Rattle.zrule.specs.declared.rule.Rule.{Rule}
use Rattle.zrule.specs.declared.rule.Rule.TheVariants.{Decodes, Successor, Returned, Stored}
use Rattle.zrule.specs.Claims.{Entry, claims_of}
use Rattle.zrule.specs.Rules.{IsLowestBroken}
use Rattle.zcheck.specs.declared.refusal.Refusal.{Refusal}
use Rattle.zcheck.specs.declared.refusal.Refusal.TheVariants as refusals
use Rattle.zcheck.specs.Passes.{IsCause, Passes}
use Rattle.zfind.specs.declared.error.FindError.{FindError}
use Rattle.zfind.specs.declared.error.FindError.TheVariants.{NotFound, RoundLimit, OutOfMemory}
use Rattle.zfind.specs.declared.error.Obstacle.{Obstacle}
use Rattle.zfind.specs.declared.visits.Allowance.{Allowance}
use Rattle.zfind.specs.declared.error.Obstacle.TheVariants as obstacles

abbrev pub number_of : FindError → ℕ
number_of (NotFound _) = 1
number_of RoundLimit = 2
number_of OutOfMemory = 3

-- What a lister finds at fault, as what stands in the way of a certificate: no instruction stands at a place, or play leads on as no
-- certificate can say, since the place is in one routine and goes one known way.
abbrev pub told_of : ListError → FindError
told_of (faults.Decode p _) = NotFound (obstacles.Place p Decodes)
told_of (faults.TwoRoutines a) = NotFound (obstacles.Place (cast_signed w32 a) Successor)
told_of (faults.ComputedJump a) = NotFound (obstacles.Place (cast_signed w32 a) Successor)
told_of faults.OutOfMemory = OutOfMemory

-- what a checker refuses a certificate for
abbrev pub refused_for : Refusal → FindError
refused_for (refusals.Story rule) = NotFound (obstacles.Story rule)
refused_for (refusals.Instruction a rule) = NotFound (obstacles.Place (cast_signed w32 a) rule)
refused_for refusals.OutOfMemory = OutOfMemory

-- no more is allowed than that
pub record IsLess (now : Allowance) (before : Allowance) : Type 0 where
  pub visits : now.visits ≤ before.visits
  pub work : now.work ≤ before.work

-- why a walk stops that may do so much yet: no visit is left or no work, or memory was refused
abbrev pub IsStopped : Allowance → FindError → Type 0
IsStopped left (NotFound _) = ⊥
IsStopped left RoundLimit = (left.visits ≡ 0) ⊎ (left.work ≡ 0)
IsStopped left OutOfMemory = ⊤

-- More that is found can't mend the rule at an instruction that was visited: where it leads, what it returns and what it stores is said
-- only once that was found.
abbrev pub IsLasting : Rule → Type 0
IsLasting Successor = ⊥
IsLasting Returned = ⊥
IsLasting Stored = ⊥
IsLasting rule = ⊤

module _ (story : LoadedStory) where
  -- the story lists something at fault, which is this
  pub record IsFaulty (error : FindError) : Type 0 where
    pub fault : ListError
    pub lowest : IsLowestFault story fault
    pub told : error ≡ told_of fault

  -- nothing that the story lists is at fault
  pub record IsListable : Type 0 where
    pub listing : ListedCode
    pub lists : Lists story listing

  -- why a story has no listing: what is at fault, or want of memory
  abbrev pub IsUnlisted : FindError → Type 0
  IsUnlisted (NotFound obstacle) = IsFaulty (NotFound obstacle)
  IsUnlisted RoundLimit = ⊥
  IsUnlisted OutOfMemory = ⊤

-- of certificates with a kind of sets
module _ {V : Type 0} (o : SetOperations V) (story : LoadedStory) where
  -- this is wrong first with a certificate
  pub record IsWrongWith (certificate : Certificate V) (obstacle : Obstacle) : Type 0 where
    pub refusal : Refusal
    pub cause : IsCause o story certificate refusal
    pub told : refused_for refusal ≡ NotFound obstacle

  -- a certificate was tried, and this is wrong with it first
  abbrev pub IsTried : Obstacle → Type 0
  IsTried obstacle = (certificate : Certificate V) × IsWrongWith certificate obstacle

  -- Why none is found: a story that lists something at fault is refused for that, and for nothing else but want of memory.
  abbrev pub IsFailureOf : FindError → Type 0
  IsFailureOf (NotFound obstacle) = IsFaulty story (NotFound obstacle) ⊎ (IsListable story × IsTried obstacle)
  IsFailureOf RoundLimit = IsListable story
  IsFailureOf OutOfMemory = ⊤

  -- why none is found of a story that lists nothing at fault, where so much may be done yet
  abbrev pub IsWalkFailure : Allowance → FindError → Type 0
  IsWalkFailure left (NotFound obstacle) = IsTried obstacle
  IsWalkFailure left RoundLimit = (left.visits ≡ 0) ⊎ (left.work ≡ 0)
  IsWalkFailure left OutOfMemory = ⊤

  -- At a place that a certificate lists this rule is broken, of those that are the one with the lowest number, and more that is found can't
  -- mend it.
  pub record IsBrokenIn (certificate : Certificate V) (obstacle : Obstacle) : Type 0 where
    pub place : ℕ
    pub entry : Entry V
    pub rule : Rule
    pub listed : (claims_of o certificate).entry place ≡ Some entry
    pub lowest : IsLowestBroken o (claims_of o certificate) story place entry rule
    pub lasting : IsLasting rule
    pub told : obstacle ≡ obstacles.Place (cast_signed w32 place) rule

  -- none passes
  abbrev pub HasNoneOf : Type 0
  HasNoneOf = (certificate : Certificate V) → Passes o story certificate → ⊥

module _ (story : LoadedStory) where
  -- none of intervals is found, since something stands in the way
  abbrev pub IsWithoutIntervals : Type 0
  IsWithoutIntervals = (obstacle : Obstacle) × IsFailureOf interval_operations story (NotFound obstacle)

  -- Why no certificate is found: one of intervals is tried first, and where something stands in its way one of lists, which says what is told.
  abbrev pub IsFailure : FindError → Type 0
  IsFailure (NotFound obstacle) = IsWithoutIntervals × IsFailureOf values_operations story (NotFound obstacle)
  IsFailure RoundLimit = IsListable story
  IsFailure OutOfMemory = ⊤

  -- a certificate of lists was tried that breaks a rule so
  abbrev pub IsBrokenAt : Obstacle → Type 0
  IsBrokenAt obstacle = (certificate : Certificate Values) × IsBrokenIn values_operations story certificate obstacle

  -- one was tried that this is wrong with
  abbrev pub IsMet : Obstacle → Type 0
  IsMet obstacle = IsTried values_operations story obstacle ⊎ IsBrokenAt obstacle

  -- no instruction stands where play begins, which each certificate lists
  abbrev pub IsAtStart : Obstacle → Type 0
  IsAtStart obstacle = (obstacle ≡ obstacles.Place (pos (first_instruction story)) Decodes) × IsErr (instruction_at (drop (first_instruction story) story.memory))

  -- no certificate of it passes, neither of intervals nor of lists
  abbrev pub HasNone : Type 0
  HasNone = HasNoneOf interval_operations story × HasNoneOf values_operations story

  -- What stands in the way of certificates: that none can list where play begins, and so none passes, and else what one was tried with.
  abbrev pub IsObstacleOf : Obstacle → Type 0
  IsObstacleOf obstacle = (IsFaulty story (NotFound obstacle) × IsAtStart obstacle × HasNone) ⊎ (IsListable story × IsMet obstacle)

  -- the story lists something at fault that a certificate may leave out, since its sets may say that play never comes there
  abbrev pub IsFaultyElsewhere : Type 0
  IsFaultyElsewhere = (fault : Obstacle) × IsFaulty story (NotFound fault) × (IsAtStart fault → ⊥)

  -- what is told to stand in the way; nothing only where nothing was found, or where that is listed at fault elsewhere
  abbrev pub IsTold : Option Obstacle → Type 0
  IsTold (Some obstacle) = IsObstacleOf obstacle
  IsTold None = IsListable story ⊎ IsFaultyElsewhere

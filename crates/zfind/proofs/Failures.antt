-- What kept a certificate from being found, as what is told of it.
use Rattle.std.proofs.Common.{◌≡◌, inl, inr, refl, subst, sym}
use Rattle.std.specs.Prelude.{◌≢◌}
use Rattle.zstory.specs.LoadedStory.{LoadedStory}
use Rattle.zlist.specs.declared.list_error.ListError.{ListError}
use Rattle.zlist.specs.declared.list_error.ListError.TheVariants as faults
use Rattle.zlist.specs.Listed.{IsLowestFault}
use Rattle.zdomain.specs.Domain.{SetOperations}
use Rattle.zdomain.specs.Interval.{interval_operations}
use Rattle.zdomain.specs.Values.{values_operations}
use Rattle.zcert.specs.Certificate.{Certificate}
use Rattle.zfind.specs.declared.error.Obstacle.{Obstacle}
use Rattle.zfind.specs.declared.error.FindError.{FindError}
use Rattle.zfind.specs.declared.visits.Allowance.{Allowance}
use Rattle.zfind.specs.declared.error.FindError.TheVariants.{NotFound, RoundLimit, OutOfMemory}
use Rattle.zfind.specs.Attempts.{IsMetBy}
use Rattle.zfind.specs.Finding.{IsFailure, IsFailureOf, IsFaulty, IsListable, IsStopped, IsTried, IsUnlisted, IsWalkFailure, IsWrongWith, told_of}

module _ (story : LoadedStory) where
  faulty : (fault : ListError) → IsLowestFault story fault → IsFaulty story (told_of fault)
  faulty fault lowest = record { fault = fault; lowest = lowest; told = refl }

  -- the lister's fault is told
  pub told : (fault : ListError) → (fault ≢ faults.OutOfMemory → IsLowestFault story fault) → IsUnlisted story (told_of fault)
  told (faults.Decode p cause) lowest = faulty _ (lowest (λ e. absurd cc))
  told (faults.TwoRoutines a) lowest = faulty _ (lowest (λ e. absurd cc))
  told (faults.ComputedJump a) lowest = faulty _ (lowest (λ e. absurd cc))
  told faults.OutOfMemory lowest = tt

  -- what kept the walks with lists from finding one kept all from it, where those with intervals found none
  pub of_lists : (obstacle : Obstacle) → IsFailureOf interval_operations story (NotFound obstacle) → (error : FindError) → IsFailureOf values_operations story error → IsFailure story error
  of_lists first intervals (NotFound obstacle) failure = ((first, intervals), failure)
  of_lists first intervals RoundLimit failure = failure
  of_lists first intervals OutOfMemory failure = tt

  -- what kept all from being found kept one of lists from it
  pub by_lists : (error : FindError) → IsFailure story error → IsFailureOf values_operations story error
  by_lists (NotFound obstacle) failure = failure.1
  by_lists RoundLimit failure = failure
  by_lists OutOfMemory failure = tt

  -- so does want of memory
  pub without_memory : (error : FindError) → error ≡ OutOfMemory → IsFailureOf values_operations story error
  without_memory (NotFound obstacle) e = absurd cc
  without_memory RoundLimit e = absurd cc
  without_memory OutOfMemory e = tt

module _ {V : Type 0} (o : SetOperations V) (story : LoadedStory) where
  -- what a story has no listing for kept one from being found
  pub of_listing : (error : FindError) → IsUnlisted story error → IsFailureOf o story error
  of_listing (NotFound obstacle) fault = inl fault
  of_listing RoundLimit never = absurd never
  of_listing OutOfMemory it = tt

  -- what kept a walk from finding one kept all from it
  pub of_walk : IsListable story → (left : Allowance) (error : FindError) → IsWalkFailure o story left error → IsFailureOf o story error
  of_walk listable left (NotFound obstacle) it = inr (listable, it)
  of_walk listable left RoundLimit it = listable
  of_walk listable left OutOfMemory it = tt

  -- what is wrong with a certificate that was tried
  pub met_by : (c : Certificate V) (error : FindError) → ((obstacle : Obstacle) × (error ≡ NotFound obstacle) × IsWrongWith o story c obstacle) → IsMetBy o story error
  met_by c error (obstacle, is, wrong) = (obstacle, is, (c, wrong))

  -- and it is what kept the walks from finding one
  pub walk_failure : (left : Allowance) (error : FindError) → IsMetBy o story error → IsWalkFailure o story left error
  walk_failure left (NotFound obstacle) (other, is, tried) = subst (IsTried o story) (same other obstacle (sym is)) tried
    where
      same : (one two : Obstacle) → NotFound one ≡ NotFound two → one ≡ two
      same one two e = cc
  walk_failure left RoundLimit (other, is, tried) = absurd cc
  walk_failure left OutOfMemory (other, is, tried) = absurd cc

  -- what stopped a walk kept one from being found
  pub of_stopped : (left : Allowance) (error : FindError) → IsStopped left error → IsWalkFailure o story left error
  of_stopped left (NotFound obstacle) never = absurd never
  of_stopped left RoundLimit it = it
  of_stopped left OutOfMemory it = tt

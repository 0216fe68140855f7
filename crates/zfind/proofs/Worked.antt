-- Values of the definitions, computed.
use Rattle.std.proofs.Common.{◌≡◌, ◌⊎◌, [], ◌∷◌, false, inl, inr, Some, None, arith, refl, true, pos, negsuc, ℕ}
use Rattle.zstory.specs.LoadedStory.{LoadedStory}
use Rattle.zdomain.specs.Domain.{SetOperations}
use Rattle.zdomain.specs.Interval.{interval_operations}
use Rattle.zdomain.specs.Values.{values_operations}
use Rattle.zdomain.specs.declared.interval.Interval.{Interval}
use Rattle.zdomain.specs.declared.values.Values.{Values}
use Rattle.zcert.specs.Certificate.{Certificate}
use Rattle.zcert.specs.Format.{interval_format}
use Rattle.zcert.specs.Lists.{values_format}
use Rattle.zcert.specs.Spelling.{spelling}
use Rattle.zcheck.specs.Passes.{Passes}
use Rattle.zcode.specs.Reading.{branch_if, checked_head, head_at, instruction_at, operands_at, short_head, store_if, text_if}
use Rattle.zcode.specs.declared.error.DecodeError.TheVariants.{Truncated}
use Rattle.zlist.specs.declared.list_error.ListError.TheVariants as faults
use Rattle.zrule.specs.declared.rule.Rule.TheVariants.{Decodes, Height, Local, Successor, Object, Attribute, Property, Divisor, Write, Read, Text, Called, Returned, Buffers, Known, Stored, High, Status}
use Rattle.zcheck.specs.declared.refusal.Refusal.TheVariants as refusals
use Rattle.zcheck.specs.declared.refusal.StoryRule.TheVariants.{Tree}
use Rattle.zfind.specs.declared.error.FindError.TheVariants.{NotFound, RoundLimit, OutOfMemory}
use Rattle.zfind.specs.declared.error.Obstacle.TheVariants.{Place, Story}
use Rattle.zfind.specs.declared.error.Obstacle.{Obstacle}
use Rattle.zfind.specs.declared.visits.Allowance.{Allowance}
use Rattle.zfind.specs.Finding.{HasNone, HasNoneOf, IsAtStart, IsBrokenAt, IsFailure, IsFailureOf, IsFaulty, IsFaultyElsewhere, IsLasting, IsLess, IsListable, IsMet, IsStopped, IsTold, IsTried, IsUnlisted, IsWalkFailure, IsWithoutIntervals, number_of, refused_for, told_of}
use Rattle.zfind.specs.Found.{IsFound, IsFoundWithin, spelling_of}
use Rattle.zfind.specs.Marking.{IsFoundMarked, IsFoundUnmarked, IsMarkedFailure, IsMarkedWithin, IsUnmarkable, IsWithoutUnmarked}
use Rattle.zfind.specs.declared.found.Found.TheVariants.{Intervals, Lists, Marked}

numbers : (number_of (NotFound (Story Tree)) ≡ 1) × (number_of RoundLimit ≡ 2) × (number_of OutOfMemory ≡ 3)
numbers = (refl, refl, refl)

-- a place below 0, and addresses
listed : (told_of (faults.Decode (negsuc 1) Truncated) ≡ NotFound (Place (negsuc 1) Decodes)) × (told_of (faults.TwoRoutines 804) ≡ NotFound (Place (pos 804) Successor)) × (told_of (faults.ComputedJump 131071) ≡ NotFound (Place (pos 131071) Successor)) × (told_of faults.OutOfMemory ≡ OutOfMemory)
listed = (refl, refl, refl, refl)

checked : (refused_for (refusals.Story Tree) ≡ NotFound (Story Tree)) × (refused_for (refusals.Instruction 903 Object) ≡ NotFound (Place (pos 903) Object)) × (refused_for refusals.OutOfMemory ≡ OutOfMemory)
checked = (refl, refl, refl)

-- of the rules, those that more that is found can't mend, and the three that it can
lasts :
    IsLasting Decodes × IsLasting Height × IsLasting Local × IsLasting Object × IsLasting Attribute × IsLasting Property × IsLasting Divisor × IsLasting Write × IsLasting Read × IsLasting Text
    × IsLasting Called × IsLasting Buffers × IsLasting Known × IsLasting High × IsLasting Status
lasts = (tt, tt, tt, tt, tt, tt, tt, tt, tt, tt, tt, tt, tt, tt, tt)

mended : (IsLasting Successor → ⊥) × (IsLasting Returned → ⊥) × (IsLasting Stored → ⊥)
mended = (λ x. x, λ x. x, λ x. x)

-- a memory of twelve bytes, of which play begins at the last
abbrev begun : ℕ → LoadedStory
begun byte = record { memory = 0 ∷ 0 ∷ 0 ∷ 0 ∷ 0 ∷ 0 ∷ 0 ∷ 11 ∷ 0 ∷ 0 ∷ 0 ∷ byte ∷ []; objects = 0 }

-- no instruction is spelled by 0xBE, and 0xBA is `quit`: then it is something else that is at fault there
starts : IsAtStart (begun 190) (Place (pos 11) Decodes) × (IsAtStart (begun 186) (Place (pos 11) Decodes) → ⊥)
unfolding instruction_at head_at short_head checked_head operands_at store_if branch_if text_if
starts = ((refl, refl), (λ start. absurd (let e : false ≡ true = start.1 in cc)))

-- nor is it where another rule is broken, or at another place
starts_alone : (IsAtStart (begun 190) (Place (pos 11) Height) → ⊥) × (IsAtStart (begun 190) (Place (pos 10) Decodes) → ⊥)
starts_alone = ((λ start. absurd (let e : Place (pos 11) Height ≡ Place (pos 11) Decodes = start.0 in cc)), (λ start. absurd (let e : Place (pos 10) Decodes ≡ Place (pos 11) Decodes = start.0 in cc)))

-- ---- what is told, said once more

-- what is wrong with a story, or with a certificate of one that is listed; the limit is of such a story, and memory may always be refused
failures :
    {V : Type 0} (s : SetOperations V) (story : LoadedStory) (o : Obstacle)
    → (IsFaulty story (NotFound o) → IsFailureOf s story (NotFound o)) × (IsListable story → IsTried s story o → IsFailureOf s story (NotFound o)) × (IsFailureOf s story (NotFound o) → IsFaulty story (NotFound o) ⊎ IsListable story)
    × (IsFailureOf s story RoundLimit → IsListable story) × IsFailureOf s story OutOfMemory
failures s story o = (inl, (λ listable tried. inr (listable, tried)), by_case, (λ failure. failure), tt)
  where
    by_case : IsFaulty story (NotFound o) ⊎ (IsListable story × IsTried s story o) → IsFaulty story (NotFound o) ⊎ IsListable story
    by_case (inl faulty) = inl faulty
    by_case (inr tried) = inr tried.0

-- of what is found none is told for what stands in the way of intervals alone, nor for what stands in that of lists alone; the limit may be that of either
unfound :
    (story : LoadedStory) (o : Obstacle)
    → (IsFailure story (NotFound o) → IsFailureOf values_operations story (NotFound o)) × (IsFailure story (NotFound o) → IsWithoutIntervals story) × ((other : Obstacle) → IsFailureOf interval_operations story (NotFound other) → IsFailureOf values_operations story (NotFound o) → IsFailure story (NotFound o))
    × (IsFailure story RoundLimit → IsListable story) × IsFailure story OutOfMemory
unfound story o = ((λ failure. failure.1), (λ failure. failure.0), (λ other intervals lists. ((other, intervals), lists)), (λ failure. failure), tt)

-- one of intervals passes; so does one of lists, which comes only where none of intervals was found
founds :
    (story : LoadedStory) (c : Certificate Interval) (l : Certificate Values)
    → (Passes interval_operations story c → IsFound story (Intervals c)) × (IsFound story (Lists l) → Passes values_operations story l × IsWithoutIntervals story)
    × (IsFound story (Marked l) → ⊥) × (spelling_of (Intervals c) ≡ spelling interval_format c) × (spelling_of (Lists l) ≡ spelling values_format l)
    × (spelling_of (Marked l) ≡ spelling values_format l)
founds story c l = ((λ passes. passes), (λ found. found), (λ never. never), refl, refl, refl)

-- with a limit none of intervals is found; without one what is found that marks nothing is as it was
unmarked_founds :
    (story : LoadedStory) (limit : ℕ) (c : Certificate Interval) (l : Certificate Values)
    → (IsFoundUnmarked story (Some limit) (Intervals c) → ⊥) × (IsFoundUnmarked story (Some limit) (Lists l) → IsFoundWithin story limit l) × (IsFoundUnmarked story (Some limit) (Marked l) → ⊥)
    × (IsFoundUnmarked story None (Intervals c) → IsFound story (Intervals c)) × (IsFoundUnmarked story None (Lists l) → IsFound story (Lists l)) × (IsFoundUnmarked story None (Marked l) → ⊥)
unmarked_founds story limit c l = ((λ never. never), (λ found. found), (λ never. never), (λ found. found), (λ found. found), (λ never. never))

-- one that marks comes only where none was found that doesn't, and names the limit that was asked for, or the usual one
marked_founds :
    (story : LoadedStory) (limit : ℕ) (l : Certificate Values)
    → (IsFoundMarked story (Some limit) (Marked l) → IsMarkedWithin story limit l × IsWithoutUnmarked story (Some limit)) × (IsFoundMarked story None (Marked l) → IsMarkedWithin story 1024 l × IsWithoutUnmarked story None)
    × (IsFoundMarked story (Some limit) (Lists l) → IsFoundWithin story limit l)
marked_founds story limit l = ((λ found. found), (λ found. found), (λ found. found))

-- it never comes to a limit of visits or work; what is wrong is told only of one that may mark, where none was found that doesn't
unmarkables :
    (story : LoadedStory) (limit : ℕ) (o : Obstacle)
    → (IsMarkedFailure story (Some limit) RoundLimit → ⊥) × IsMarkedFailure story None OutOfMemory
    × (IsMarkedFailure story (Some limit) (NotFound o) → IsWithoutUnmarked story (Some limit) × IsUnmarkable story limit (NotFound o))
unmarkables story limit o = ((λ never. never), tt, (λ failure. failure))

-- what is at fault with a story that has no listing; no limit is met by that
unlisted : (story : LoadedStory) (o : Obstacle) → (IsUnlisted story (NotFound o) → IsFaulty story (NotFound o)) × (IsUnlisted story RoundLimit → ⊥) × IsUnlisted story OutOfMemory
unlisted story o = ((λ faulty. faulty), (λ never. never), tt)

abbrev left : ℕ → ℕ → Allowance
left v w = record { visits = v; work = w }

some_left : ((left 1 1).visits ≡ 0) ⊎ ((left 1 1).work ≡ 0) → ⊥
some_left (inl e) = omega (arith, e)
some_left (inr e) = omega (arith, e)

-- a walk has a limit where no visit is left or no work, and what it doesn't find was tried
walks :
    {V : Type 0} (s : SetOperations V) (story : LoadedStory) (o : Obstacle)
    → IsWalkFailure s story (left 0 1) RoundLimit × IsWalkFailure s story (left 1 0) RoundLimit × (IsWalkFailure s story (left 1 1) RoundLimit → ⊥) × (IsWalkFailure s story (left 0 0) (NotFound o) → IsTried s story o)
    × IsWalkFailure s story (left 1 1) OutOfMemory
walks s story o = (inl refl, inr refl, some_left, (λ failure. failure), tt)

stopped : (o : Obstacle) → IsStopped (left 0 1) RoundLimit × IsStopped (left 1 0) RoundLimit × (IsStopped (left 1 1) RoundLimit → ⊥) × (IsStopped (left 0 0) (NotFound o) → ⊥) × IsStopped (left 1 1) OutOfMemory
stopped o = (inl refl, inr refl, some_left, (λ never. never), tt)

-- neither more visits nor more work
less : IsLess (left 3 5) (left 3 5) × IsLess (left 2 4) (left 3 5) × (IsLess (left 4 5) (left 3 5) → ⊥) × (IsLess (left 3 6) (left 3 5) → ⊥)
less = (record { visits = omega (arith); work = omega (arith) }, record { visits = omega (arith); work = omega (arith) }, (λ it. omega (arith, it.visits)), (λ it. omega (arith, it.work)))

-- no certificate of either kind passes
none : (story : LoadedStory) → HasNone story → HasNoneOf interval_operations story × HasNoneOf values_operations story
none story has_none = has_none

-- what stands where play begins, or what a certificate was tried with; nothing, where nothing was found or what is at fault is elsewhere
tells :
    (story : LoadedStory) (o : Obstacle)
    → (IsFaulty story (NotFound o) → IsAtStart story o → HasNone story → IsTold story (Some o)) × (IsListable story → IsTried values_operations story o → IsTold story (Some o)) × (IsListable story → IsBrokenAt story o → IsTold story (Some o))
    × (IsTold story (Some o) → (IsAtStart story o × HasNone story) ⊎ IsMet story o) × (IsListable story → IsTold story None) × (IsFaultyElsewhere story → IsTold story None)
tells story o = ((λ faulty start none. inl (faulty, start, none)), (λ listable tried. inr (listable, inl tried)), (λ listable broken. inr (listable, inr broken)), by_case, inl, inr)
  where
    by_case : (IsFaulty story (NotFound o) × IsAtStart story o × HasNone story) ⊎ (IsListable story × IsMet story o) → (IsAtStart story o × HasNone story) ⊎ IsMet story o
    by_case (inl at_start) = inl (at_start.1, at_start.2)
    by_case (inr met) = inr met.1

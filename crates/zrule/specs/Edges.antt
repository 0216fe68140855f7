-- What rules ask of each edge of an instruction (own).
use Rattle.std.specs.Prelude.{ℕ, ◌-◌, ◌<◌, ◌≤◌, ◌==◌, nat_lt, if◌then◌else◌, List, Option, None, Some, IfSome, MatchOption, length, slice_get}
use Rattle.zstory.specs.LoadedStory.{LoadedStory}
use Rattle.zdomain.specs.Domain.{SetOperations, In}
use Rattle.zflow.specs.declared.parts.Lead.{Lead}
use Rattle.zflow.specs.declared.flow.Edge.{Edge}
use Rattle.zflow.specs.declared.flow.Flow.{Flow}
use Rattle.zflow.specs.Transfer.{Shape, slots_with, globals_after}
use Rattle.zrule.specs.declared.rule.Rule.{Rule}
use Rattle.zrule.specs.declared.rule.Rule.TheVariants as rules
use Rattle.zrule.specs.Claims.{Claims, Entry}
use Rattle.zrule.specs.Rules.{Enters, GoesOn, Returns, Takes, TakesBack, TakesInPlace, comes_back}

-- the least word of a set above a word, if there is one
abbrev pub IsNextAbove : {V : Type 0} → SetOperations V → V → ℕ → Option ℕ → Type 0
IsNextAbove o a word next = MatchOption next ((y : ℕ) → In o a y → y ≤ word) (λ x. In o a x × (word < x) × ((y : ℕ) → In o a y → word < y → x ≤ y))

-- the stack stays low behind an edge, with what comes back
abbrev pub StaysLow : {V : Type 0} → SetOperations V → Claims V → ℕ → Lead V → Shape V → Type 0
StaysLow o claims target lead f = length (slots_with (comes_back o claims lead) target f.slots) ≤ 64

-- the set that is stated for what a variable is given, where one is: none for a global, of which the set isn't stated by places
abbrev pub stated_for : {V : Type 0} → ℕ → Option (Entry V) → Option V
stated_for v None = None
stated_for v (Some e) = if v == 0 then slice_get e.shape.slots 0 else (if nat_lt v 16 then slice_get e.shape.locals (v - 1) else None)

module _ {V : Type 0} (o : SetOperations V) (claims : Claims V) (story : LoadedStory) (globals args : List V) (routine next target : ℕ) where
  -- an edge of an instruction of the routine, in front of the place `next`, whose result goes to the target; the globals have these sets
  -- before it
  abbrev pub EdgeKeeps : Rule → Edge V → Type 0
  EdgeKeeps rules.Successor edge = IfSome edge.after (StaysLow o claims target edge.lead) → IfSome edge.after (λ f. GoesOn o claims routine target (globals_after globals target edge.outcome) f next edge.lead)
  EdgeKeeps rules.Called edge = IfSome edge.after (λ f. Enters o claims story args edge.lead)
  EdgeKeeps rules.Returned edge = IfSome edge.after (λ f. Returns o claims routine edge.lead)
  EdgeKeeps rules.Stored edge = IfSome edge.after (λ f. Takes o claims edge.outcome.gives target × TakesInPlace o claims edge.outcome.assigns × TakesBack o claims target edge.lead)
  EdgeKeeps rules.High edge = IfSome edge.after (StaysLow o claims target edge.lead)
  EdgeKeeps rule edge = Unit {0}

  -- both edges, where they can be taken
  abbrev pub EdgesKeep : Rule → Flow V → Type 0
  EdgesKeep rule flow = IfSome flow.held (EdgeKeeps rule) × IfSome flow.failed (EdgeKeeps rule)

-- When a certificate that marks instructions passes for a story, what is wrong first where it doesn't, and what is known where it does (own).
use Rattle.std.specs.Prelude.{◌≡◌, ◌⊎◌, ℕ, ◌<◌, Bool, true, false, List, Option, Some, None}
use Rattle.zstory.specs.Bytes.{byte_at}
use Rattle.zstory.specs.LoadedStory.{LoadedStory}
use Rattle.zdomain.specs.Domain.{SetOperations}
use Rattle.zcert.specs.Certificate.{Instruction, Certificate}
use Rattle.zcert.specs.Listed.{listed_at}
use Rattle.zstate.specs.State.{opening, scope_all}
use Rattle.zstate.specs.Run.{Input, run}
use Rattle.zplace.specs.Bytes.{IsFixed}
use Rattle.zrule.specs.declared.rule.Rule.{Rule}
use Rattle.zrule.specs.Claims.{Entry, claims_of, frozen_in}
use Rattle.zrule.specs.Rules.{Keeps, IsLowestBroken}
use Rattle.zrule.specs.Described.{AreFine, IsNoFault, MarksHold}
use Rattle.zcheck.specs.declared.refusal.StoryRule.{StoryRule}
use Rattle.zcheck.specs.declared.refusal.Refusal.{Refusal}
use Rattle.zcheck.specs.declared.refusal.Refusal.TheVariants as refusals
use Rattle.zcheck.specs.Acceptance.{playing_in}
use Rattle.zcheck.specs.Passes.{IsLowestStoryRule, KeepsStory}

-- whether what is listed is marked
abbrev pub is_marked_in : {V : Type 0} → Option (Instruction V) → Bool
is_marked_in None = false
is_marked_in (Some i) = i.is_marked

-- whether a place is
abbrev pub marked_in : {V : Type 0} → Certificate V → ℕ → Bool
marked_in c p = is_marked_in (listed_at c.instructions p)

module _ {V : Type 0} (o : SetOperations V) (story : LoadedStory) (c : Certificate V) where
  -- each listed place below an address keeps each rule, but where it is marked
  abbrev pub KeepsUnmarkedBelow : ℕ → Type 0
  KeepsUnmarkedBelow end = (p : ℕ) (e : Entry V) → p < end → (claims_of o c).entry p ≡ Some e → marked_in c p ≡ false → (rule : Rule) → Keeps o (claims_of o c) story p e rule

  -- the story keeps each rule, and each listed place does that isn't marked
  pub record PassesWhereUnmarked : Type 0 where
    pub story_rules : (rule : StoryRule) → KeepsStory o story c rule
    pub each : (p : ℕ) (e : Entry V) → (claims_of o c).entry p ≡ Some e → marked_in c p ≡ false → (rule : Rule) → Keeps o (claims_of o c) story p e rule

  -- the story keeps all rules, and the place is the lowest that breaks one and isn't marked, this one before others
  pub record IsFirstUnmarkedBroken (p : ℕ) (rule : Rule) : Type 0 where
    pub story_rules : (other : StoryRule) → KeepsStory o story c other
    pub entry : Entry V
    pub listed : (claims_of o c).entry p ≡ Some entry
    pub unmarked : marked_in c p ≡ false
    pub lowest : IsLowestBroken o (claims_of o c) story p entry rule
    pub before : KeepsUnmarkedBelow p

  -- the refusal names what is wrong first, but at marked places
  abbrev pub IsUnmarkedCause : Refusal → Type 0
  IsUnmarkedCause (refusals.Story rule) = IsLowestStoryRule o story c rule
  IsUnmarkedCause (refusals.Instruction p rule) = IsFirstUnmarkedBroken p rule
  IsUnmarkedCause refusals.OutOfMemory = ⊥

  -- so does the checker's, save that it may lack memory for a certificate that passes
  abbrev pub IsRefusedWhereUnmarked : Refusal → Type 0
  IsRefusedWhereUnmarked (refusals.Story rule) = IsUnmarkedCause (refusals.Story rule)
  IsRefusedWhereUnmarked (refusals.Instruction p rule) = IsUnmarkedCause (refusals.Instruction p rule)
  IsRefusedWhereUnmarked refusals.OutOfMemory = PassesWhereUnmarked

-- a story, and a certificate of it that may mark instructions
pub record MarkedOver (V : Type 0) : Type 0 where
  pub story : LoadedStory
  pub certificate : Certificate V

module _ {V : Type 0} (o : SetOperations V) (m : MarkedOver V) where
  -- with every place of the story in scope, what a run makes at marked places is no fault, and leads to described states
  abbrev pub HoldsAtMarks : ℕ → List Input → ℕ → Type 0
  HoldsAtMarks limit inputs n =
      AreFine o (claims_of o m.certificate) (playing_in m.story limit (scope_all m.story)) inputs
      × MarksHold o (claims_of o m.certificate) (marked_in m.certificate) (playing_in m.story limit (scope_all m.story)) inputs n (opening m.story)

  -- Then it meets no fault, and changes no byte that is fixed or frozen, however many frames there may be. So a fault is at a marked place, or behind
  -- a step at one that led to a state that isn't described
  pub record FaultsAtMarksAlone : Type 0 where
    pub no_fault : (limit : ℕ) (inputs : List Input) (n : ℕ) → HoldsAtMarks limit inputs n → IsNoFault (run (playing_in m.story limit (scope_all m.story)) inputs n (opening m.story)).stop
    pub unchanged :
        (limit : ℕ) (inputs : List Input) (n p : ℕ) → HoldsAtMarks limit inputs n → IsFixed m.story (frozen_in (claims_of o m.certificate)) p ⊎ (frozen_in (claims_of o m.certificate) p ≡ true)
        → byte_at (run (playing_in m.story limit (scope_all m.story)) inputs n (opening m.story)).state.memory p ≡ byte_at m.story.memory p

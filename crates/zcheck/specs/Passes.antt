-- When a certificate passes for a story, and what is wrong first where it doesn't (own).
use Rattle.std.specs.Prelude.{◌≡◌, ℕ, ◌+◌, ◌*◌, ◌%◌, ◌<◌, ◌≤◌, length, Some}
use Rattle.std.specs.List.{AllByRecursion}
use Rattle.zstory.specs.Bytes.{byte_at}
use Rattle.zstory.specs.LoadedStory.{LoadedStory, identity_of, static_base}
use Rattle.zobj.specs.Tree.{IsTree}
use Rattle.zplace.specs.Tables.{HasPropertyTables}
use Rattle.zdomain.specs.Domain.{SetOperations}
use Rattle.zcert.specs.declared.parts.Routine.{Routine}
use Rattle.zcert.specs.Certificate.{Certificate}
use Rattle.zrule.specs.declared.rule.Rule.{Rule}
use Rattle.zrule.specs.Claims.{Entry, claims_of, frozen_in}
use Rattle.zrule.specs.Rules.{HasAbbreviations, HasDisjointTables, HasFirstPlace, HasGlobals, Keeps, IsLowestBroken}
use Rattle.zcheck.specs.declared.refusal.StoryRule.{StoryRule}
use Rattle.zcheck.specs.declared.refusal.StoryRule.TheVariants as rules
use Rattle.zcheck.specs.declared.refusal.Refusal.{Refusal}
use Rattle.zcheck.specs.declared.refusal.Refusal.TheVariants as refusals
use Rattle.zcheck.specs.Numbers.{number_of}

-- a routine begins at an even place of static memory, with the count of locals that is stated, and their words lie in memory
-- (Z 5.1, 5.2)
pub record HasHead {V : Type 0} (story : LoadedStory) (r : Routine V) : Type 0 where
  pub even : r.address % 2 ≡ 0
  pub static : static_base story ≤ r.address
  pub counted : byte_at story.memory r.address ≡ r.locals
  pub within : r.address + 1 + 2 * r.locals ≤ length story.memory

module _ {V : Type 0} (o : SetOperations V) (story : LoadedStory) (c : Certificate V) where
  -- the rules on the story
  abbrev pub KeepsStory : StoryRule → Type 0
  -- S1: the certificate speaks of this story
  KeepsStory rules.Identity = c.identity ≡ identity_of story
  -- S2: the first place is listed, in the main code, with an empty stack
  KeepsStory rules.FirstPlace = HasFirstPlace o (claims_of o c) story
  -- S3: each routine's head is there
  KeepsStory rules.RoutineHeads = AllByRecursion (HasHead story) c.routines
  -- S4: each global is in its set as it is loaded
  KeepsStory rules.FirstGlobals = HasGlobals o (claims_of o c) story story.memory
  -- S5: each object has a property table, whose data stores may write
  KeepsStory rules.PropertyTables = HasPropertyTables story
  -- S6: each link of an object leads to an object, or to none
  KeepsStory rules.Tree = IsTree story.memory story.objects
  -- S7: abbreviations are whole, plain, and stay as they are
  KeepsStory rules.Abbreviations = HasAbbreviations story
  -- S8: tables share no byte, and what is frozen could be
  KeepsStory rules.Tables = HasDisjointTables story (frozen_in (claims_of o c))

  -- each listed place below an address keeps each rule
  abbrev pub KeepsBelow : ℕ → Type 0
  KeepsBelow end = (p : ℕ) (e : Entry V) → p < end → (claims_of o c).entry p ≡ Some e → (rule : Rule) → Keeps o (claims_of o c) story p e rule

  -- the story and each listed place keep each rule
  pub record Passes : Type 0 where
    pub story_rules : (rule : StoryRule) → KeepsStory rule
    pub each : (p : ℕ) (e : Entry V) → (claims_of o c).entry p ≡ Some e → (rule : Rule) → Keeps o (claims_of o c) story p e rule

  -- the story breaks the rule, and none with a lower number
  pub record IsLowestStoryRule (rule : StoryRule) : Type 0 where
    pub broken : KeepsStory rule → ⊥
    pub before : (other : StoryRule) → number_of other < number_of rule → KeepsStory other

  -- the story keeps all rules, and the place is the lowest that breaks one, this one before others
  pub record IsFirstBroken (p : ℕ) (rule : Rule) : Type 0 where
    pub story_rules : (other : StoryRule) → KeepsStory other
    pub entry : Entry V
    pub listed : (claims_of o c).entry p ≡ Some entry
    pub lowest : IsLowestBroken o (claims_of o c) story p entry rule
    pub before : KeepsBelow p

  -- the refusal names what is wrong first
  abbrev pub IsCause : Refusal → Type 0
  IsCause (refusals.Story rule) = IsLowestStoryRule rule
  IsCause (refusals.Instruction p rule) = IsFirstBroken p rule
  IsCause refusals.OutOfMemory = ⊥

  -- so does the checker's, save that it may lack memory for a certificate that passes
  abbrev pub IsRefused : Refusal → Type 0
  IsRefused (refusals.Story rule) = IsCause (refusals.Story rule)
  IsRefused (refusals.Instruction p rule) = IsCause (refusals.Instruction p rule)
  IsRefused refusals.OutOfMemory = Passes

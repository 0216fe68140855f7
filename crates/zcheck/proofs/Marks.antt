-- A story that is accepted with marks faults at those alone.
use Rattle.std.proofs.Common.{◌≡◌, ◌⊎◌, inl, inr, ℕ, true, List}
use Rattle.zstory.specs.LoadedStory.{LoadedStory}
use Rattle.zdomain.specs.Domain.{SetOperations, AreSound}
use Rattle.zcert.specs.Certificate.{Certificate}
use Rattle.zcert.specs.Format.{Format}
use Rattle.zcert.specs.Spelling.{HasSpelling}
use Rattle.zstate.specs.State.{opening, scope_all}
use Rattle.zstate.specs.Run.{Input, run}
use Rattle.zrule.specs.Claims.{claims_of, frozen_in}
use Rattle.zrule.specs.Rules.{SupportsWhere}
use Rattle.zplace.specs.Bytes.{IsFixed, frozen}
use Rattle.zrule.specs.Described.{Described, IsLoadedStory, IsNoFault}
use Rattle.zrule.proofs.Runs.{all_listed, run_safe_held}
use Rattle.zrule.proofs.Opening.{opening_described}
use Rattle.zcheck.specs.declared.refusal.StoryRule.TheVariants as rules
use Rattle.zcheck.specs.Acceptance.{playing_in}
use Rattle.zcheck.specs.Marks.{FaultsAtMarksAlone, HoldsAtMarks, MarkedOver, PassesWhereUnmarked, marked_in}
use Rattle.zcheck.proofs.Headline.{supports_but}

module _ {V : Type 0} (o : SetOperations V) (lawful : AreSound o) (format : Format V) (story : LoadedStory) (c : Certificate V) (spelling : HasSpelling format c) (loaded : IsLoadedStory story) (passes : PassesWhereUnmarked o story c) where
  abbrev over : MarkedOver V
  over = record { story = story; certificate = c }

  supports : SupportsWhere o (claims_of o c) (marked_in c) story
  supports = supports_but o lawful format story c spelling (marked_in c) passes.story_rules passes.each

  held : (limit : ℕ) (inputs : List Input) (n : ℕ) → HoldsAtMarks o over limit inputs n → IsNoFault (run (playing_in story limit (scope_all story)) inputs n (opening story)).stop × Described o (claims_of o c) limit story (run (playing_in story limit (scope_all story)) inputs n (opening story)).state
  held limit inputs n holds =
      run_safe_held o lawful (claims_of o c) (playing_in story limit (scope_all story)) loaded supports (all_listed o (claims_of o c) story supports) inputs n (opening story) holds.0 (opening_described o (claims_of o c) story limit loaded supports) holds.1

  -- what is frozen is fixed
  fixed_there : (p : ℕ) → IsFixed story (frozen_in (claims_of o c)) p ⊎ (frozen_in (claims_of o c) p ≡ true) → IsFixed story (frozen_in (claims_of o c)) p
  fixed_there p (inl fixed) = fixed
  fixed_there p (inr is) = record { closed = frozen is; unchanging = (passes.story_rules rules.Tables).unchanging p is }

  pub faults_at_marks : FaultsAtMarksAlone o over
  faults_at_marks = record {
    no_fault = λ limit inputs n holds. (held limit inputs n holds).0;
    unchanged = λ limit inputs n p holds stays. (held limit inputs n holds).1.memory.fixed p (fixed_there p stays);
  }

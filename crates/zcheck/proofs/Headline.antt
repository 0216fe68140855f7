-- A story that is accepted never faults.
use Rattle.std.proofs.Common.{◌≡◌, ◌⊎◌, inl, inr, ℕ, Bool, true, false, List, [], ◌∷◌, Some, ◌≤◌, length, arith, refl, sym, ◌∙◌, ap, subst}
use Rattle.std.specs.Prelude.{◌==◌, ◌||◌, if◌then◌else◌}
use Rattle.std.specs.List.{AllZip, list_any}
use Rattle.std.proofs.lemmas.List.{length-reverse}
use Rattle.zstory.specs.LoadedStory.{LoadedStory}
use Rattle.zdomain.specs.Domain.{SetOperations, AreSound}
use Rattle.zlist.specs.declared.record.Record.{Record}
use Rattle.zlist.specs.Listing.{ListedCode}
use Rattle.zcert.specs.Certificate.{Instruction, Certificate}
use Rattle.zcert.specs.Listed.{listed_at}
use Rattle.zcert.specs.Format.{Format}
use Rattle.zcert.specs.Spelling.{HasSpelling}
use Rattle.zstate.specs.State.{Scope, opening, scope_all, scope_only}
use Rattle.zstate.specs.Run.{Input, run}
use Rattle.zrule.specs.Claims.{Entry, claims_of, frozen_in}
use Rattle.zrule.specs.declared.rule.Rule.{Rule}
use Rattle.zrule.specs.Rules.{Keeps, Supports, SupportsWhere}
use Rattle.zcheck.specs.declared.refusal.StoryRule.{StoryRule}
use Rattle.zplace.specs.Bytes.{IsFixed, frozen}
use Rattle.zrule.specs.Described.{AreFine, Described, IsListedIn, IsLoadedStory, IsNoFault}
use Rattle.zrule.proofs.Listed.{entry_listed, few_there}
use Rattle.zrule.proofs.Runs.{all_listed, run_safe}
use Rattle.zrule.proofs.Alike.{run_alike}
use Rattle.zrule.proofs.Opening.{opening_described}
use Rattle.zcheck.specs.declared.refusal.StoryRule.TheVariants as rules
use Rattle.zcheck.specs.Acceptance.{IsRecordOf, IsListingOf, RunsAlike, RunsWithoutFault, RunsWithoutChange, playing_in}
use Rattle.zcheck.specs.Passes.{KeepsStory, Passes}
use Rattle.zcheck.proofs.Heads.{heads_where, routine_there}

module _ {V : Type 0} (o : SetOperations V) (lawful : AreSound o) (format : Format V) (story : LoadedStory) (c : Certificate V) (spelling : HasSpelling format c) where
  -- as its format says, it states no stack above 64
  low : (p : ℕ) (e : Entry V) → (claims_of o c).entry p ≡ Some e → length e.shape.slots ≤ 64
  low p e claimed =
      let listed = entry_listed (listed_at c.instructions p) e claimed in
      let few = (few_there format c p listed.0 spelling listed.1).1 in
      let long = length-reverse listed.0.slots in
      subst (λ (f : Entry V). length f.shape.slots ≤ 64) listed.2 (omega (arith, few, long))

  -- a certificate that passes, but where places may be marked, supports its story there
  pub supports_but : (marked : ℕ → Bool) → ((rule : StoryRule) → KeepsStory o story c rule) → ((p : ℕ) (e : Entry V) → (claims_of o c).entry p ≡ Some e → marked p ≡ false → (rule : Rule) → Keeps o (claims_of o c) story p e rule) → SupportsWhere o (claims_of o c) marked story
  supports_but marked story_rules each = record {
    first = story_rules rules.FirstPlace;
    heads = heads_where o format story c spelling (story_rules rules.RoutineHeads);
    values = story_rules rules.FirstGlobals;
    low = low;
    few = let count = spelling.globals in omega (arith, count);
    properties = story_rules rules.PropertyTables;
    tree = story_rules rules.Tree;
    abbreviations = story_rules rules.Abbreviations;
    tables = story_rules rules.Tables;
    each = each;
  }

  -- and one that passes supports it everywhere
  pub supports_where : Passes o story c → Supports o (claims_of o c) story
  supports_where passes = supports_but (λ p. false) passes.story_rules (λ p e claimed unmarked. passes.each p e claimed)

  or_here : (b : Bool) → (true || b) ≡ true
  or_here b = refl

  -- its listing has what it lists
  record_there : (is : List (Instruction V)) (rs : List Record) → AllZip (IsRecordOf story) is rs → (p : ℕ) (i : Instruction V) → listed_at is p ≡ Some i → list_any (λ r. r.address == p) rs ≡ true
  record_there [] rs z p i e = absurd cc
  record_there (j ∷ is) [] z p i e = absurd z
  record_there (j ∷ is) (r ∷ rs) z p i e = by_test (record_there is rs z.1 p i) (j.address == p) refl e
    where
      same : (r.address == p) ≡ (j.address == p)
      same = ap (λ a. a == p) z.0.address

      by_test : (listed_at is p ≡ Some i → list_any (λ s. s.address == p) rs ≡ true) → (b : Bool) → (j.address == p) ≡ b → (if b then Some j else listed_at is p) ≡ Some i → ((r.address == p) || list_any (λ s. s.address == p) rs) ≡ true
      by_test rest true h f = ap (λ b. b || list_any (λ s. s.address == p) rs) (same ∙ h)
      by_test rest false h f = ap (λ b. b || list_any (λ s. s.address == p) rs) (same ∙ h) ∙ rest f

  pub lists_where : (listing : ListedCode) → IsListingOf story c listing → IsListedIn o (claims_of o c) (scope_only listing)
  lists_where listing lists = record {
    places = λ p e claimed unmarked.
        let listed = entry_listed (listed_at c.instructions p) e claimed in
        record_there c.instructions listing.records lists.records p listed.0 listed.1;
    routines = λ p k found. subst (λ (xs : List ℕ). list_any (λ a. a == p) xs ≡ true) (sym lists.routines) (routine_there c.routines p k found);
  }

  module _ (loaded : IsLoadedStory story) (passes : Passes o story c) (scope : Scope) (listed : IsListedIn o (claims_of o c) scope) where
    runs : (limit : ℕ) (inputs : List Input) (n : ℕ) → AreFine o (claims_of o c) (playing_in story limit scope) inputs → IsNoFault (run (playing_in story limit scope) inputs n (opening story)).stop × Described o (claims_of o c) limit story (run (playing_in story limit scope) inputs n (opening story)).state
    runs limit inputs n fine =
        let supports = supports_where passes in
        run_safe o lawful (claims_of o c) (playing_in story limit scope) loaded supports listed inputs n (opening story) fine (opening_described o (claims_of o c) story limit loaded supports)

    safe_in : RunsWithoutFault o (claims_of o c) story scope
    safe_in limit inputs n fine = (runs limit inputs n fine).0

    -- what is frozen is fixed
    fixed_where : (p : ℕ) → IsFixed story (frozen_in (claims_of o c)) p ⊎ ((frozen_in (claims_of o c)) p ≡ true) → IsFixed story (frozen_in (claims_of o c)) p
    fixed_where p (inl fixed) = fixed
    fixed_where p (inr is) = record { closed = frozen is; unchanging = (passes.story_rules rules.Tables).unchanging p is }

    same_in : RunsWithoutChange o (claims_of o c) story scope
    same_in limit inputs n p fine stays = (runs limit inputs n fine).1.memory.fixed p (fixed_where p stays)

  pub never_faults : (listing : ListedCode) → IsLoadedStory story → Passes o story c → IsListingOf story c listing → RunsWithoutFault o (claims_of o c) story (scope_only listing) × RunsWithoutFault o (claims_of o c) story (scope_all story)
  never_faults listing loaded passes lists =
      (safe_in loaded passes (scope_only listing) (lists_where listing lists), safe_in loaded passes (scope_all story) (all_listed o (claims_of o c) story (supports_where passes)))

  pub never_changes : (listing : ListedCode) → IsLoadedStory story → Passes o story c → IsListingOf story c listing → RunsWithoutChange o (claims_of o c) story (scope_only listing) × RunsWithoutChange o (claims_of o c) story (scope_all story)
  never_changes listing loaded passes lists =
      (same_in loaded passes (scope_only listing) (lists_where listing lists), same_in loaded passes (scope_all story) (all_listed o (claims_of o c) story (supports_where passes)))

  pub plays_alike : (listing : ListedCode) → IsLoadedStory story → Passes o story c → IsListingOf story c listing → RunsAlike o (claims_of o c) story (scope_only listing) (scope_all story)
  plays_alike listing loaded passes lists limit inputs n fine fine_everywhere =
      let supports = supports_where passes in
      run_alike o lawful (claims_of o c) (playing_in story limit (scope_only listing)) (scope_all story) loaded supports (lists_where listing lists) (all_listed o (claims_of o c) story supports) inputs n (opening story) fine fine_everywhere (opening_described o (claims_of o c) story limit loaded supports)

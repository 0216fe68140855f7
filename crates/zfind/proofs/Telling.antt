-- What stands in the way of certificates, as it is told.
use Rattle.std.proofs.Common.{◌≡◌, ap, false, inl, inr, refl, subst, true}
use Rattle.std.specs.Prelude.{Option, Some, None, Result, Ok, Err, IfOk, IfSome, IsErr, option_map}
use Rattle.std.specs.Int.{w32, cast_signed}
use Rattle.zstory.specs.LoadedStory.{LoadedStory, first_instruction}
use Rattle.zcode.specs.declared.error.DecodeError.{DecodeError}
use Rattle.zcode.specs.Instruction.{Instruction as AnInstruction}
use Rattle.zlist.specs.Listing.{ListedCode}
use Rattle.zlist.specs.Listed.{Lists}
use Rattle.zdomain.specs.Domain.{SetOperations}
use Rattle.zdomain.specs.Interval.{interval_operations}
use Rattle.zdomain.specs.declared.values.Values.{Values}
use Rattle.zdomain.specs.Values.{values_operations}
use Rattle.zcert.specs.Certificate.{Certificate, Instruction}
use Rattle.zcert.specs.Listed.{listed_at}
use Rattle.zrule.specs.declared.rule.Rule.{Rule}
use Rattle.zrule.specs.declared.rule.Rule.TheVariants.{Decodes}
use Rattle.zcheck.specs.declared.refusal.StoryRule.TheVariants as rules
use Rattle.zrule.specs.Claims.{claims_of, entry_of}
use Rattle.zrule.specs.Rules.{HasFirstPlace, IsLowestBroken, IsThere}
use Rattle.zfind.specs.declared.error.FindError.{FindError}
use Rattle.zfind.specs.declared.error.FindError.TheVariants.{NotFound}
use Rattle.zfind.specs.declared.error.Obstacle.{Obstacle}
use Rattle.zfind.specs.declared.error.Obstacle.TheVariants as obstacles
use Rattle.zfind.specs.Finding.{HasNoneOf, IsAtStart, IsBrokenIn, IsFaulty, IsLasting, IsMet, IsTold, IsWrongWith}

module _ {V : Type 0} (o : SetOperations V) (story : LoadedStory) where
  -- each certificate that passes lists where play begins, so there is none where no instruction stands there
  none_at_start : (obstacle : Obstacle) → IsAtStart story obstacle → HasNoneOf o story
  none_at_start obstacle start c passes = nowhere (passes.each (first_instruction story) first.entry first.listed Decodes)
    where
      first : HasFirstPlace o (claims_of o c) story
      first = passes.story_rules rules.FirstPlace

      nowhere : ((i : AnInstruction) × IsThere story (first_instruction story) i) → ⊥
      nowhere (i, there) = absurd (let e : false ≡ true = subst (λ (r : Result AnInstruction DecodeError). IsErr r) there.decodes start.1 in cc)

module _ (story : LoadedStory) where
  -- a fault where play begins is told
  pub told_at_start : (obstacle : Obstacle) → IsFaulty story (NotFound obstacle) → IsAtStart story obstacle → IsTold story (Some obstacle)
  told_at_start obstacle fault start = inl (fault, start, (none_at_start interval_operations story obstacle start, none_at_start values_operations story obstacle start))

  -- and none elsewhere
  pub untold_elsewhere : (obstacle : Obstacle) → IsFaulty story (NotFound obstacle) → (IsAtStart story obstacle → ⊥) → IsTold story None
  untold_elsewhere obstacle fault elsewhere = inr (obstacle, fault, elsewhere)

  -- and else what a certificate is tried with
  pub told_where_listed : (listing : ListedCode) → Lists story listing → (told : Result (Option Obstacle) FindError) → IfOk told (λ obstacle. IfSome obstacle (IsMet story)) → IfOk told (IsTold story)
  told_where_listed listing lists (Err other) met = tt
  told_where_listed listing lists (Ok None) met = inl (record { listing = listing; lists = lists })
  told_where_listed listing lists (Ok (Some obstacle)) met = inr (record { listing = listing; lists = lists }, met)

  -- what the checker says first of one
  pub met_where_wrong : (c : Certificate Values) (told : Option Obstacle) → IfSome told (IsWrongWith values_operations story c) → IfSome told (IsMet story)
  met_where_wrong c None wrong = tt
  met_where_wrong c (Some obstacle) wrong = inl (c, wrong)

  -- or a rule that is broken where it lists an instruction
  pub broken_where_listed : (c : Certificate Values) (i : Instruction Values) (rule : Rule) → listed_at c.instructions i.address ≡ Some i → IsLowestBroken values_operations (claims_of values_operations c) story i.address (entry_of i) rule → IsLasting rule → IsBrokenIn values_operations story c (obstacles.Place (cast_signed w32 i.address) rule)
  broken_where_listed c i rule listed lowest lasting = record {
    place = i.address;
    entry = entry_of i;
    rule = rule;
    listed = ap (option_map entry_of) listed;
    lowest = lowest;
    lasting = lasting;
    told = refl;
  }

  pub met_where_broken : (c : Certificate Values) (told : Option Obstacle) → IfSome told (IsBrokenIn values_operations story c) → IfSome told (IsMet story)
  met_where_broken c None broken = tt
  met_where_broken c (Some obstacle) broken = inr (c, broken)

-- A small story that passes with a certificate, and what is wrong first with others.
use Rattle.std.proofs.Common.{ℕ, ◌<◌, List, [], ◌∷◌, refl, arith}
use Rattle.zstate.specs.State.{scope_all}
use Rattle.zdomain.specs.Interval.{point, interval_operations}
use Rattle.zdomain.specs.IntervalLaw.{interval_sound}
use Rattle.zcert.specs.Format.{interval_format}
use Rattle.zcert.specs.Spelling.{IsIdentity, HasSpelling}
use Rattle.zcert.proofs.Bare.{has_spelling}
use Rattle.zlist.specs.declared.record.Record.{Record}
use Rattle.zrule.specs.declared.rule.Rule.{Rule}
use Rattle.zrule.specs.declared.rule.Rule.TheVariants as instruction_rules
use Rattle.zrule.specs.Claims.{claims_of}
use Rattle.zrule.specs.Rules.{Keeps}
use Rattle.zrule.proofs.Instances.{memory, story, certificate_at, claims_at, claims, at_bare, bare, bare_entry, each_listed, hello, line, stop, reads, no_first_place, supports, alone, loaded, plain, abbreviations_stay}
use Rattle.zplace.specs.Tables.{HasPropertyTables}
use Rattle.zcheck.specs.declared.refusal.StoryRule.{StoryRule}
use Rattle.zcheck.specs.declared.refusal.StoryRule.TheVariants as rules
use Rattle.zcheck.specs.declared.refusal.Refusal.TheVariants as refusals
use Rattle.zcheck.specs.Numbers.{number_of}
use Rattle.zcheck.specs.Tables.{HasAbbreviation}
use Rattle.zcheck.specs.Passes.{KeepsStory, KeepsBelow, Passes, IsLowestStoryRule, IsFirstBroken, IsCause, IsRefused}
use Rattle.zcheck.specs.Acceptance.{IsRecordOf, IsListingOf, RunsWithoutFault}
use Rattle.zcheck.proofs.Headline.{never_faults}

-- ---- what passes

unfoldable pub all_listed : List ℕ
all_listed = 798 ∷ 803 ∷ 804 ∷ []

-- it has no objects, and so no property tables
property_tables : HasPropertyTables story
unfolding story
property_tables = record {
  tables = λ object first last. absurd (omega (arith, first, last));
  frames_still = λ p frame. absurd (omega (arith, frame.first, frame.last));
  data_still = λ p its. absurd (omega (arith, its.first, its.last));
  data_open = λ p its. absurd (omega (arith, its.first, its.last));
}

keeps_story : (rule : StoryRule) → KeepsStory interval_operations story (certificate_at all_listed) rule
unfolding all_listed certificate_at claims claims_at
keeps_story rules.Identity = refl
keeps_story rules.FirstPlace = supports.first
keeps_story rules.RoutineHeads = tt
keeps_story rules.FirstGlobals = supports.values
keeps_story rules.PropertyTables = property_tables
keeps_story rules.Tree = supports.tree
keeps_story rules.Abbreviations = supports.abbreviations
keeps_story rules.Tables = supports.tables

pub passes : Passes interval_operations story (certificate_at all_listed)
unfolding all_listed claims claims_at
passes = record { story_rules = keeps_story; each = λ p e claimed. supports.each p e claimed refl }

abbreviation : HasAbbreviation story 95
unfolding story
abbreviation = record { plain = plain 95 (omega arith); unchanging = λ p part same. abbreviations_stay p part }

-- ---- its listing

-- a record is of an instruction at its address, as it is spelled there
record_of : IsRecordOf story (at_bare 798) (record { address = 798; routine = 0; instruction = hello })
unfolding at_bare story
record_of = record { address = refl; routine = refl; instruction = reads.0 }

no_record_of : (IsRecordOf story (at_bare 798) (record { address = 803; routine = 0; instruction = hello }) → ⊥) × (IsRecordOf story (at_bare 798) (record { address = 798; routine = 1; instruction = hello }) → ⊥)
unfolding at_bare
no_record_of = (λ r. omega (arith, r.address), λ r. omega (arith, r.routine))

unfoldable pub records : List Record
records = record { address = 798; routine = 0; instruction = hello } ∷ record { address = 803; routine = 0; instruction = line } ∷ record { address = 804; routine = 0; instruction = stop } ∷ []

pub lists : IsListingOf story (certificate_at all_listed) (record { records = records; routines = [] })
unfolding all_listed certificate_at at_bare story records
lists = record {
  records = (record { address = refl; routine = refl; instruction = reads.0 }, (record { address = refl; routine = refl; instruction = reads.1 }, (record { address = refl; routine = refl; instruction = reads.2 }, tt)));
  routines = refl;
}

-- the certificate can be spelled
spelled : HasSpelling interval_format (certificate_at all_listed)
unfolding all_listed certificate_at at_bare story memory
spelled = has_spelling interval_format _ (point 0) (798 ∷ 803 ∷ 804 ∷ []) identity (omega arith, omega arith) (omega arith) (omega arith, (omega arith, (omega arith, tt))) (omega arith, (omega arith, (omega arith, tt)))
  where
    identity : IsIdentity (certificate_at all_listed).identity
    identity = record {
      release = omega arith;
      serial = refl;
      serial_bytes = (omega arith, (omega arith, (omega arith, (omega arith, (omega arith, (omega arith, tt))))));
      checksum = omega arith;
      loaded_length = omega arith;
    }

-- so no run of it meets a fault, but for saves that aren't fine
runs : RunsWithoutFault interval_operations (claims_of interval_operations (certificate_at all_listed)) story (scope_all story)
runs = (never_faults interval_operations interval_sound interval_format story (certificate_at all_listed) spelled (record { records = records; routines = [] }) loaded passes lists).1

-- ---- what is refused

-- where only the second place is listed, the story's second rule is the first that is broken
lowest : IsLowestStoryRule interval_operations story (certificate_at (803 ∷ [])) rules.FirstPlace
unfolding certificate_at claims_at
lowest = record { broken = no_first_place; before = before }
  where
    before : (other : StoryRule) → number_of other < 2 → KeepsStory interval_operations story (certificate_at (803 ∷ [])) other
    before rules.Identity less = refl
    before rules.FirstPlace less = absurd (omega (arith, less))
    before rules.RoutineHeads less = absurd (omega (arith, less))
    before rules.FirstGlobals less = absurd (omega (arith, less))
    before rules.PropertyTables less = absurd (omega (arith, less))
    before rules.Tree less = absurd (omega (arith, less))
    before rules.Abbreviations less = absurd (omega (arith, less))
    before rules.Tables less = absurd (omega (arith, less))

refused : IsCause interval_operations story (certificate_at (803 ∷ [])) (refusals.Story rules.FirstPlace) × IsRefused interval_operations story (certificate_at (803 ∷ [])) (refusals.Story rules.FirstPlace)
refused = (lowest, lowest)

-- where nothing follows the first, it is the first instruction that breaks a rule
none_below : KeepsBelow interval_operations story (certificate_at (798 ∷ [])) 798
unfolding claims_at
none_below p e less listed = each_listed (λ q f. q < 798 → (rule : Rule) → Keeps interval_operations (claims_at (798 ∷ [])) story q f rule) (798 ∷ []) (λ l. absurd (omega (arith, l)), tt) p e listed less

keeps_alone : (rule : StoryRule) → KeepsStory interval_operations story (certificate_at (798 ∷ [])) rule
unfolding claims claims_at certificate_at at_bare story memory
keeps_alone rules.Identity = refl
keeps_alone rules.FirstPlace = record { entry = record { routine = 0; shape = record { locals = []; slots = [] } }; listed = refl; main = refl; no_locals = refl; no_slots = refl; implied = tt }
keeps_alone rules.RoutineHeads = tt
keeps_alone rules.FirstGlobals = supports.values
keeps_alone rules.PropertyTables = property_tables
keeps_alone rules.Tree = supports.tree
keeps_alone rules.Abbreviations = supports.abbreviations
keeps_alone rules.Tables = supports.tables

first_broken : IsFirstBroken interval_operations story (certificate_at (798 ∷ [])) 798 instruction_rules.Successor
unfolding claims_at certificate_at at_bare bare_entry bare
first_broken = record { story_rules = keeps_alone; entry = bare_entry; listed = refl; lowest = alone; before = none_below }

told : IsCause interval_operations story (certificate_at (798 ∷ [])) (refusals.Instruction 798 instruction_rules.Successor) × IsRefused interval_operations story (certificate_at (798 ∷ [])) (refusals.Instruction 798 instruction_rules.Successor)
told = (first_broken, first_broken)

-- memory is wanted only for a certificate that passes, and never by what only looks at it
memory_wanted : (IsCause interval_operations story (certificate_at all_listed) refusals.OutOfMemory → ⊥) × IsRefused interval_operations story (certificate_at all_listed) refusals.OutOfMemory
memory_wanted = (λ never. never, passes)

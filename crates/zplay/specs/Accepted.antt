-- What is known of an accepted story.
use Rattle.std.specs.Prelude.{◌≡◌, Some, Ok, drop}
use Rattle.zdomain.specs.Domain.{SetOperations}
use Rattle.zstory.specs.LoadedStory.{LoadedStory}
use Rattle.zcode.specs.Reading.{instruction_at}
use Rattle.zlist.specs.declared.record.Record.{Record}
use Rattle.zcert.specs.Format.{Format}
use Rattle.zcert.specs.Spelling.{HasSpelling}
use Rattle.zrule.specs.Claims.{Claims, Entry, claims_of}
use Rattle.zrule.specs.Described.{IsLoadedStory}
use Rattle.zcheck.specs.Acceptance.{AcceptanceOver, IsListingOf}
use Rattle.zcheck.specs.Passes.{Passes}

abbrev pub claims : {V : Type 0} → SetOperations V → AcceptanceOver V → Claims V
claims o a = claims_of o a.certificate

pub record IsAccepted {V : Type 0} (o : SetOperations V) (format : Format V) (a : AcceptanceOver V) : Type 0 where
  pub loaded : IsLoadedStory a.story
  pub spelling : HasSpelling format a.certificate
  pub passes : Passes o a.story a.certificate
  pub lists : IsListingOf a.story a.certificate a.listing

-- something is claimed of the instruction's place, and the instruction is the one that stands there
pub record IsJudged {V : Type 0} (story : LoadedStory) (claims : Claims V) (r : Record) : Type 0 where
  pub entry : Entry V
  pub listed : claims.entry r.address ≡ Some entry
  pub decodes : instruction_at (drop r.address story.memory) ≡ Ok r.instruction

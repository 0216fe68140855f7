use Rattle.ztext.proofs.Sameness.{text_at-local, abbreviation_at-local, output_at-local}
use Rattle.ztext.proofs.laws.reading_is_local.Goals as goal

pub returns-clause-text : goal.returns-clause-text
returns-clause-text c = text_at-local

pub returns-clause-abbreviation : goal.returns-clause-abbreviation
returns-clause-abbreviation c = abbreviation_at-local

pub returns-clause-output : goal.returns-clause-output
returns-clause-output c = output_at-local

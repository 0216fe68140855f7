use Rattle.std.proofs.Common.{◌∙◌, rules}
use Rattle.zquetzal.proofs.Saves.{again, is_found}
use Rattle.zquetzal.proofs.Lowest.{is_lowest, is_free}
use Rattle.zquetzal.proofs.reading.read.Goals as goal

pub returns-clause-found : goal.returns-clause-found
returns-clause-found c = is_found c.args.story.now c.args.bytes.now c.view_of.result (λ i. search rules) c.view_of.ensures

pub returns-clause-only : goal.returns-clause-only
returns-clause-only c = λ s r. c.view_of.ensures ∙ again c.args.story.now c.args.bytes.now s r

pub returns-clause-lowest_cause : goal.returns-clause-lowest_cause
returns-clause-lowest_cause c = is_lowest c.args.story.now c.args.bytes.now c.view_of.result (λ i. search rules) c.view_of.ensures

pub returns-clause-no_cause : goal.returns-clause-no_cause
returns-clause-no_cause c = is_free c.args.story.now c.args.bytes.now c.view_of.result (λ i. search rules) c.view_of.ensures

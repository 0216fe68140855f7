use Rattle.std.proofs.Common.{rules}
use Rattle.zcheck.proofs.Apart.{abbreviation_where}
use Rattle.zcheck.proofs.tables.has_abbreviation.Goals as goal

pub returns-then-is_entry_unchanging : goal.returns-then-is_entry_unchanging
returns-then-is_entry_unchanging c =
    let parts = abbreviation_where c.args.story.now c.args.number c.in-Some.text.place c.in-Some.text.size c.requires (search rules) (search rules) (search rules) (search rules) in
    (λ t. parts.1 (search rules, search (rules, t)), λ has. let text = (parts.0 has).1 in search (rules, text))

pub returns-else-is_entry_unchanging : goal.returns-else-is_entry_unchanging
returns-else-is_entry_unchanging c =
    let parts = abbreviation_where c.args.story.now c.args.number c.in-Some.text.place c.in-Some.text.size c.requires (search rules) (search rules) (search rules) (search rules) in
    (λ t. absurd (search (rules, t)), λ has. let word = (parts.0 has).0 in search (rules, word))

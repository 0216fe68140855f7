use Rattle.std.proofs.Common.{◌-◌, length, take, drop, map, refl, ap, ◌∙◌}
use Rattle.std.specs.List.{list_all}
use Rattle.zdomain.specs.Few.{Gathering, with_words}
use Rattle.zpairs.specs.Pairs.{is_exact, pairs, word_of}
use Rattle.zpairs.proofs.Listed.{no_pairs, none_exact, row_by_row, both_exact, by_first, not_first}
use Rattle.zpairs.proofs.properties.Properties.+add_pairs.Goals as goal

pub returns-in_default-clause-exact : goal.returns-in_default-clause-exact
returns-in_default-clause-exact t c = none_exact c.args.self.now c.args.question c.args.columns.now c.args.objects.now c.in_default.len_below

pub returns-in_default-clause-words : goal.returns-in_default-clause-words
returns-in_default-clause-words t c passed = no_pairs c.args.self.now c.args.question c.args.columns.now c.args.objects.now c.args.all.now c.in_default.len_below

pub returns-then-add_row-clause-exact : goal.returns-then-add_row-clause-exact
returns-then-add_row-clause-exact t c =
    by_first c.add_row.result c.add_pairs.result _ c.if-add_row.true (both_exact c.args.self.now c.args.question c.args.columns.now c.args.objects.now c.add_row.result c.add_pairs.result c.in-len1-up.len_at_least c.add_row.ensures.exact c.add_pairs.ensures.exact)

pub returns-then-add_row-clause-words : goal.returns-then-add_row-clause-words
returns-then-add_row-clause-words t c passed =
    let objects = c.args.objects.now in
    c.add_pairs.ensures.words passed
    ∙ ap (λ (g : Gathering). with_words (map word_of (pairs c.args.self.now c.args.question (take (length objects - 1) (drop 1 objects)) c.args.columns.now)) g) (c.add_row.ensures.words c.if-add_row.true)
    ∙ row_by_row c.args.self.now c.args.question c.args.columns.now objects c.args.all.now c.in-len1-up.len_at_least

pub returns-else-add_row-clause-exact : goal.returns-else-add_row-clause-exact
returns-else-add_row-clause-exact t c =
    let objects = c.args.objects.now in
    not_first c.add_row.result (list_all is_exact (pairs c.args.self.now c.args.question (take (length objects - 1) (drop 1 objects)) c.args.columns.now)) _ c.if-add_row.false (both_exact c.args.self.now c.args.question c.args.columns.now objects c.add_row.result _ c.in-len1-up.len_at_least c.add_row.ensures.exact refl)

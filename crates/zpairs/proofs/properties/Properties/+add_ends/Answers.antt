use Rattle.std.proofs.Common.{ℕ, ◌-◌, length, take, drop, map, ap, ◌∙◌}
use Rattle.zdomain.specs.Few.{Gathering, with_word, with_words}
use Rattle.zpairs.specs.Cells.{cell_at}
use Rattle.zpairs.specs.Frozen.{FrozenStory}
use Rattle.zpairs.specs.Pairs.{answer_ends, ends_of, word_of}
use Rattle.zpairs.proofs.Listed.{no_ends, ends_by_ends}
use Rattle.zpairs.proofs.Regrouped.{cell_told}
use Rattle.zpairs.proofs.properties.Properties.+add_ends.Goals as goal

pub returns-in_default-clause-words : goal.returns-in_default-clause-words
returns-in_default-clause-words t c passed = no_ends (ends_of c.args.self.now c.args.question c.args.object) c.args.columns.now c.args.all.now c.in_default.len_below

pub returns-clause-words : goal.returns-clause-words
returns-clause-words t c passed =
    let columns = c.args.columns.now in
    let story = ap (λ (told : FrozenStory). told.story) c.requires.told in
    let ranges = ap (λ (told : FrozenStory). told.ranges) c.requires.told in
    let cell = cell_told c.args.self.now c.args.marked.now.story.now c.args.marked.now.ranges.now c.args.object c.column-number.result c.property.result.now story ranges c.property.ensures.found in
    let ends = c.answer_ends-ends.ensures ∙ ap (answer_ends c.args.question) (cell ∙ ap (λ (n : ℕ). cell_at c.args.self.now c.args.object n) c.column-number.ensures.value) in
    c.add_ends.ensures.words passed
    ∙ ap (λ (g : Gathering). with_words (map word_of (map (ends_of c.args.self.now c.args.question c.args.object) (take (length columns - 1) (drop 1 columns)))) g) (c.add.ensures ∙ ap (λ (v : ℕ). with_word v c.args.all.now) (c.turned.ensures ∙ ap word_of ends))
    ∙ ends_by_ends (ends_of c.args.self.now c.args.question c.args.object) columns c.args.all.now c.in-len1-up.len_at_least

use Rattle.std.proofs.Common.{ℕ, ◌-◌, length, take, drop, map, ap, ◌∙◌}
use Rattle.zdomain.specs.Few.{Gathering, with_word, with_words}
use Rattle.zpairs.specs.Pairs.{column}
use Rattle.zpairs.proofs.Listed.{no_columns, column_by_column}
use Rattle.zpairs.proofs.columns.+add_columns.Goals as goal

pub returns-in_default : goal.returns-in_default
returns-in_default t c = no_columns column c.args.numbers.now c.args.all.now c.in_default.len_below

pub returns-in-len1-up : goal.returns-in-len1-up
returns-in-len1-up t c =
    let numbers = c.args.numbers.now in
    c.add_columns.ensures
    ∙ ap (λ (g : Gathering). with_words (map column (take (length numbers - 1) (drop 1 numbers))) g) (c.add.ensures ∙ ap (λ (v : ℕ). with_word v c.args.all.now) c.column.ensures.value)
    ∙ column_by_column column numbers c.args.all.now c.in-len1-up.len_at_least

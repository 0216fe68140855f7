use Rattle.std.proofs.Common.{ℕ, ◌-◌, length, take, drop, map, sym, ap, ◌∙◌}
use Rattle.zarray.specs.Arrays.{place_of, value_at}
use Rattle.zdomain.specs.Few.{Gathering, with_word, with_words}
use Rattle.zpairs.specs.Fixed.{is_fixed}
use Rattle.zpairs.specs.Frozen.{told_by}
use Rattle.zruns.proofs.Summing.{known_value, no_place, place_by_place}
use Rattle.zruns.proofs.sums.+add_row.Goals as goal

pub returns-in_default-clause-words : goal.returns-in_default-clause-words
returns-in_default-clause-words t c passed = no_place c.args.width (value_at c.args.width c.args.memory.now) c.args.array c.args.indices.now c.args.all.now c.in_default.len_below

pub returns-clause-words : goal.returns-clause-words
returns-clause-words t c passed =
    let indices = c.args.indices.now in
    c.add_row.ensures.words passed
    ∙ ap (λ (g : Gathering). with_words (map (value_at c.args.width c.args.memory.now) (map (place_of c.args.width c.args.array) (take (length indices - 1) (drop 1 indices)))) g) (c.add.ensures ∙ ap (λ (v : ℕ). with_word v c.args.all.now) (known_value (is_fixed (told_by c.args.marked.now.story.now c.args.marked.now.ranges.now)) c.args.width c.args.memory.now c.from-place.result c.in-Some.value (sym c.in-Some.is ∙ c.fixed_value.ensures) ∙ ap (value_at c.args.width c.args.memory.now) (c.from-place.ensures ∙ c.place.ensures)))
    ∙ place_by_place c.args.width (value_at c.args.width c.args.memory.now) c.args.array indices c.args.all.now c.in-len1-up.len_at_least

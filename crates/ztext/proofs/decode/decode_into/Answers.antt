use Rattle.std.proofs.Common.{◌∙◌}
use Rattle.ztext.proofs.Outcomes.{outside_for, not_nested_for, IsWritten-at, error_of-at, outside_since, nested_since, refused_since, never_refused, front_since, appended_since, not_outside_since, not_nested_since}
use Rattle.ztext.proofs.decode.decode_into.Goals as goal

pub returns-in_default-clause-outside : goal.returns-in_default-clause-outside
returns-in_default-clause-outside c = outside_for _ _ c.in_default.ensures

pub returns-in_default-clause-nested : goal.returns-in_default-clause-nested
returns-in_default-clause-nested c = not_nested_for _ _ c.in_default.ensures

pub returns-in_default-write_words-clause-outside : goal.returns-in_default-write_words-clause-outside
returns-in_default-write_words-clause-outside c =
    outside_since _ _ (error_of-at c.args.memory.now c.args.at _ _ _ c.in-Some.ensures c.new.ensures c.error_of_text.ensures)

pub returns-in_default-write_words-clause-nested : goal.returns-in_default-write_words-clause-nested
returns-in_default-write_words-clause-nested c =
    nested_since _ _ (error_of-at c.args.memory.now c.args.at _ _ _ c.in-Some.ensures c.new.ensures c.error_of_text.ensures)

pub returns-in_default-write_words-clause-refused : goal.returns-in_default-write_words-clause-refused
returns-in_default-write_words-clause-refused c =
    refused_since _ _ _ _ _ _ (never_refused c.args.memory.now c.args.at) c.args.text.now.ok.0 (error_of-at c.args.memory.now c.args.at _ _ _ c.in-Some.ensures c.new.ensures c.error_of_text.ensures) (IsWritten-at c.args.memory.now c.args.at _ _ _ _ _ c.in-Some.ensures c.in_default-write_words.ensures.written)

pub returns-in_default-write_words-clause-unchanged : goal.returns-in_default-write_words-clause-unchanged
returns-in_default-write_words-clause-unchanged c =
    front_since _ _ _ _ _ _ (c.len-start.ensures ∙ c.args.text.now.ok.0) c.truncate.ensures.items (IsWritten-at c.args.memory.now c.args.at _ _ _ _ _ c.in-Some.ensures c.in_default-write_words.ensures.written)

pub returns-clause-appended : goal.returns-clause-appended
returns-clause-appended c =
    appended_since _ _ _ _ _ (IsWritten-at c.args.memory.now c.args.at _ _ _ _ _ c.in-Some.ensures c.in-Some-write_words.ensures.written)

pub returns-clause-outside : goal.returns-clause-outside
returns-clause-outside c =
    not_outside_since _ _ _ _ _ _ (IsWritten-at c.args.memory.now c.args.at _ _ _ _ _ c.in-Some.ensures c.in-Some-write_words.ensures.written)

pub returns-clause-nested : goal.returns-clause-nested
returns-clause-nested c =
    not_nested_since _ _ _ _ _ _ (IsWritten-at c.args.memory.now c.args.at _ _ _ _ _ c.in-Some.ensures c.in-Some-write_words.ensures.written)

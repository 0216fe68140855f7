use Rattle.std.proofs.Common.{◌∙◌, rules}
use Rattle.zperform.proofs.AcceptLemmas.{for_value}
use Rattle.zperform.proofs.verdict.verdict_text.Goals as goal

pub returns : goal.returns
returns c =
    for_value _ _ c.verdict_line.result
    (λ text is. (
      record {
        file = c.as_str.result;
        digest = c.lent-digest.result;
        release = c.release_of.result;
        serial = c.lent-serial.result;
        checksum = c.checksum_of.result;
        outcome = c.as_str-2.result;
        marks = c.marks_in.result;
        code = c.lent-code.result;
        address = c.lent-address.result;
        text = c.lent-text.result;
      },
      record {
        file_is = search rules;
        digest_is = c.lent-digest.ensures ∙ c.in_ok-digest.ensures;
        release_is = c.release_of.ensures;
        serial_is = c.lent-serial.ensures ∙ c.in_ok-serial.ensures;
        checksum_is = c.checksum_of.ensures;
        outcome_is = search rules;
        marks_are = c.marks_in.ensures;
        code_is = c.lent-code.ensures ∙ c.in_ok-code.ensures;
        address_is = c.lent-address.ensures ∙ c.in_ok-address.ensures;
        text_is = c.lent-text.ensures ∙ c.in_ok-text.ensures;
      },
      is,
    ))
    c.verdict_line.ensures

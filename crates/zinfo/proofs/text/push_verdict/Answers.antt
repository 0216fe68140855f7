use Rattle.std.proofs.Common.{◌≡◌, ◌++◌, ◌∙◌, ap, append_assoc, codes, rules, subst, sym}
use Rattle.std.specs.Prelude.{string_bytes}
use Rattle.zinfo.specs.Text.{checksum_text, four_digits}
use Rattle.zinfo.specs.declared.facts.Checksum.{Checksum}
use Rattle.zinfo.proofs.text.push_verdict.Goals as goal

pub returns-in_ok-push_str-in-Right : goal.returns-in_ok-push_str-in-Right
returns-in_ok-push_str-in-Right c =
    let old = string_bytes c.args.text.now in
    let one : string_bytes c.push_word.new.text ≡ string_bytes c.args.text.now ++ four_digits c.in-Right.sum = search rules in
    let two : string_bytes c.push_str.new.self ≡ string_bytes c.push_word.new.text ++ codes ", right" = search rules in
    subst (λ (k : Checksum). string_bytes c.push_str.new.self ≡ string_bytes c.args.text.now ++ checksum_text k) (sym c.in-Right.is)
    (two ∙ ap (λ l. l ++ codes ", right") one ∙ append_assoc old (four_digits c.in-Right.sum) (codes ", right"))

pub returns-in_ok-push_word-in-Unstated : goal.returns-in_ok-push_word-in-Unstated
returns-in_ok-push_word-in-Unstated c =
    let old = string_bytes c.args.text.now in
    let sum = four_digits c.in-Unstated.sum in
    let one : string_bytes c.push_str-in-Unstated.new.self ≡ string_bytes c.args.text.now ++ codes "none, the sum is " = c.in_ok-push_str-in-Unstated.ensures.bytes in
    let two : string_bytes c.push_word-in-Unstated.new.text ≡ string_bytes c.push_str-in-Unstated.new.self ++ four_digits c.in-Unstated.sum = search rules in
    subst (λ (k : Checksum). string_bytes c.push_word-in-Unstated.new.text ≡ string_bytes c.args.text.now ++ checksum_text k) (sym c.in-Unstated.is)
    (two ∙ ap (λ l. l ++ sum) one ∙ append_assoc old (codes "none, the sum is ") sum)

pub returns-in_ok-push_word-in-Wrong-2 : goal.returns-in_ok-push_word-in-Wrong-2
returns-in_ok-push_word-in-Wrong-2 c =
    let old = string_bytes c.args.text.now in
    let stated = four_digits c.in-Wrong.stated in
    let sum = four_digits c.in-Wrong.sum in
    let one : string_bytes c.push_word-in-Wrong.new.text ≡ string_bytes c.args.text.now ++ four_digits c.in-Wrong.stated = search rules in
    let two : string_bytes c.push_str-in-Wrong.new.self ≡ string_bytes c.push_word-in-Wrong.new.text ++ codes ", wrong, the sum is " = c.in_ok-push_str-in-Wrong.ensures.bytes in
    let three : string_bytes c.push_word-in-Wrong-2.new.text ≡ string_bytes c.push_str-in-Wrong.new.self ++ four_digits c.in-Wrong.sum = search rules in
    subst (λ (k : Checksum). string_bytes c.push_word-in-Wrong-2.new.text ≡ string_bytes c.args.text.now ++ checksum_text k) (sym c.in-Wrong.is)
    (three ∙ ap (λ l. l ++ sum) (two ∙ ap (λ l. l ++ codes ", wrong, the sum is ") one) ∙ append_assoc (old ++ stated) (codes ", wrong, the sum is ") sum ∙ append_assoc old stated (codes ", wrong, the sum is " ++ sum))

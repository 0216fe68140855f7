use Rattle.std.proofs.Common.{◌∙◌, sym, arith}
use Rattle.std.proofs.lemmas.Bool.{false≢true}
use Rattle.zdict.proofs.Found.{answer_found, answer_none}
use Rattle.zdict.proofs.entries.lookup.Goals as goal

pub returns-then-has_text : goal.returns-then-has_text
returns-then-has_text c =
    let entries = c.of-entries.result in
    let found = c.first_from-entry in
    let listed = c.has_text.ensures.listed c.if-has_text.true in
    rw (← c.of-entries.ensures) (c.place.ensures.value ∙ sym (answer_found entries.memory.now c.args.word found.result entries.sound.bytes c.text_of-text.ensures.bytes (omega (arith, listed, entries.all_counted)) (rw c.text_of-text.ensures.value at found.ensures.below) ((c.has_text.ensures.same listed).0 c.if-has_text.true ∙ c.text_of-text.ensures.value)))

pub returns-else-has_text : goal.returns-else-has_text
returns-else-has_text c =
    let entries = c.of-entries.result in
    let found = c.first_from-entry in
    let text = c.text_of-text.ensures.value in
    rw (← c.of-entries.ensures) (sym (answer_none entries.memory.now c.args.word found.result entries.sound.entries_ordered (rw text at found.ensures.below) (λ other h l. omega (arith, text, found.ensures.above other h (omega (arith, l, entries.all_counted)))) (λ listed e. false≢true (sym c.if-has_text.false ∙ (c.has_text.ensures.same (omega (arith, listed, entries.all_counted))).1 (e ∙ sym text)))))

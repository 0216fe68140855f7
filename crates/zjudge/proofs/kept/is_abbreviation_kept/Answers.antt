use Rattle.std.proofs.Common.{ℕ, ◌↔◌, ◌∙◌, Option, refl, ap, subst}
use Rattle.std.specs.Prelude.{IsTrue}
use Rattle.ztext.specs.Abbreviations.{readable_word}
use Rattle.zjudge.specs.Memory.{AreKept}
use Rattle.zjudge.specs.Parts.{IsInText}
use Rattle.zjudge.proofs.Closed.{led_where}
use Rattle.zjudge.proofs.kept.is_abbreviation_kept.Goals as goal

pub returns-then-are_kept : goal.returns-then-are_kept
returns-then-are_kept c =
    let parts = led_where c.args.story.now c.args.saved.now c.args.entry in
    let text : IsTrue c.is_text_kept.result ↔ AreKept c.args.story.now c.args.saved.now (IsInText c.args.story.now.memory (readable_word c.args.story.now.memory c.args.entry)) = subst (λ (found : Option ℕ). IsTrue c.is_text_kept.result ↔ AreKept c.args.story.now c.args.saved.now (IsInText c.args.story.now.memory found)) (c.readable_word-word.ensures ∙ ap (λ m. readable_word m c.args.entry) c.memory.ensures.value) c.is_text_kept.ensures in
    (λ yes. parts.1 (c.if-are_kept.ensures.0 refl, text.0 yes), λ all. text.1 (parts.0 all).1)

pub returns-else-are_kept : goal.returns-else-are_kept
returns-else-are_kept c =
    let parts = led_where c.args.story.now c.args.saved.now c.args.entry in
    (λ yes. absurd (let e = c.if-are_kept.false in cc), λ all. c.are_kept.ensures.1 (parts.0 all).0)

use Rattle.std.proofs.Common.{rules, sym, ap, ◌∙◌, ◌≡◌, true, ◌<◌, length, get_or, subst, ℕ}
use Rattle.zword.specs.Binary.{apply, is_defined}
use Rattle.zdomain.specs.declared.values.Values.TheVariants.{Run}
use Rattle.zdomain.specs.Interval.{point}
use Rattle.zdomain.proofs.One.{one_of_each}
use Rattle.zdomain.proofs.values_domain.results.Goals as goal

pub returns-in-len1-len1 : goal.returns-in-len1-len1
returns-in-len1-len1 c =
    let words = c.args.words.now in
    let more = c.args.more.now in
    let one : length words ≡ 1 = search rules in
    let another : length more ≡ 1 = search rules in
    let defined : is_defined c.args.operation (get_or more 0 0) ≡ true = search rules in
    let small : apply c.args.operation (get_or words 0 0) (get_or more 0 0) < 65536 = subst (λ (n : ℕ). n < 65536) c.apply.ensures c.apply.type_inv in
    ap Run (c.of_word.ensures ∙ ap point c.apply.ensures) ∙ sym (one_of_each c.args.operation words more one another defined small)

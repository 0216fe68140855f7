use Rattle.std.proofs.Common.{rules, ◌≡◌, ◌++◌, ap, sym, refl, ◌∙◌}
use Rattle.std.proofs.lemmas.Result.{err_from_is_err_and}
use Rattle.zcert.specs.FormatLaw.{IsBytes}
use Rattle.zcert.specs.Numbers.{Kind, WordCount, Word, End, number, HasRoom}
use Rattle.zcert.specs.Unfinished.{set_came}
use Rattle.zcert.specs.Lists.{values_format}
use Rattle.zcert.specs.Coming.{list_bytes}
use Rattle.zcert.proofs.Words.{number_bytes, run_read, whole_ends, came_more}
use Rattle.zcert.proofs.values_spelled.ValuesSpelled.read_next.Goals as goal

pub returns-in_err-run-in-Lower-clause-refused : goal.returns-in_err-run-in-Lower-clause-refused
returns-in_err-run-in-Lower-clause-refused c =
    let p = err_from_is_err_and c.from_residual-in_err-run-in-Lower.result c.from_residual-in_err-run-in-Lower.ensures.1 in
    let lo = c.in-Lower.lo in
    let room : HasRoom End lo = search rules in
    let came : set_came c.args.partial.now ≡ number Kind 0 ++ number End lo = ap set_came c.in-Lower.is in
    rw (p.1, p.2) (
      rw came (run_read c.args.number.now lo c.word_of-in-Lower.result room c.word_of-in-Lower.ensures ∙ rw (← c.in_err-run-in-Lower.ensures) refl),
      whole_ends _ c.in_err-run-in-Lower.field-0.0 (sym c.in_err-run-in-Lower.ensures),
    )

pub returns-in_err-of-in-List-clause-refused : goal.returns-in_err-of-in-List-clause-refused
returns-in_err-of-in-List-clause-refused c =
    let p = err_from_is_err_and c.from_residual-in_err-of-in-List.result c.from_residual-in_err-of-in-List.ensures.1 in
    let fits : IsBytes c.args.number.now = λ i. search rules in
    let came : set_came c.args.partial.now ≡ number Kind 1 = ap set_came c.in-List.is in
    let same : number WordCount c.byte_of-in-List.result ≡ c.args.number.now = number_bytes WordCount c.args.number.now c.byte_of-in-List.result fits (search rules) c.byte_of-in-List.ensures in
    rw (p.1, p.2) (rw (came, ← same) c.in_err-of-in-List.ensures.refused)

pub returns-in_err-list-in-Words-clause-refused : goal.returns-in_err-list-in-Words-clause-refused
returns-in_err-list-in-Words-clause-refused c =
    let p = err_from_is_err_and c.from_residual-in_err-list-in-Words.result c.from_residual-in_err-list-in-Words.ensures.1 in
    let fits : IsBytes c.args.number.now = λ i. search rules in
    let list = c.in-Words.list in
    let word = c.word_of-in-Words.result in
    let came : set_came c.args.partial.now ≡ list_bytes list.count list.words.items = ap set_came c.in-Words.is in
    let same : number Word word ≡ c.args.number.now = number_bytes Word c.args.number.now word fits (search rules) c.word_of-in-Words.ensures in
    rw (p.1, p.2) (rw (came, ← same) (ap values_format.value_at (sym (came_more list.count word list.words.items)) ∙ c.in_err-list-in-Words.ensures.refused.0, c.in_err-list-in-Words.ensures.refused.1))

pub returns-in_ok-run-in-Lower-clause-whole : goal.returns-in_ok-run-in-Lower-clause-whole
returns-in_ok-run-in-Lower-clause-whole c =
    let lo = c.in-Lower.lo in
    let room : HasRoom End lo = search rules in
    let came : set_came c.args.partial.now ≡ number Kind 0 ++ number End lo = ap set_came c.in-Lower.is in
    (rw came (run_read c.args.number.now lo c.word_of-in-Lower.result room c.word_of-in-Lower.ensures ∙ rw (← c.in_ok-run-in-Lower.ensures) refl), refl)

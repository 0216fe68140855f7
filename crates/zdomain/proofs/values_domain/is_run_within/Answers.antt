use Rattle.std.proofs.Common.{rules, ◌≡◌, ◌<◌, ◌+◌, ◌-◌, ℕ, List, FitsSigned, ap, ◌∙◌, arith}
use Rattle.std.specs.Int.{w16}
use Rattle.std.specs.Prelude.{◌↔◌, IsTrue}
use Rattle.zword.specs.Binary.{signed}
use Rattle.zdomain.specs.Few.{turned}
use Rattle.zdomain.specs.Sides.{has_row}
use Rattle.zdomain.specs.declared.values.Values.TheVariants.{List as AList}
use Rattle.zdomain.specs.ValuesLaw.{rising}
use Rattle.zdomain.proofs.Orders.{row_is, HasRow}
use Rattle.zdomain.proofs.Reaching.{run_in_run, each_within, low_end, high_end}
use Rattle.zdomain.proofs.values_domain.is_run_within.Goals as goal

pub returns-in-Run : goal.returns-in-Run
returns-in-Run c = rw c.in-Run.is (run_in_run c.args.run c.in-Run.other c.is_within.result c.is_within.ensures)

pub returns-in-List : goal.returns-in-List
returns-in-List c =
    let i = c.args.run in
    let s = c.in-List.list in
    let a = c.lowest-least.result in let b = c.highest.result in
    let fits : FitsSigned w16 i.lo × FitsSigned w16 i.hi = (search rules, search rules) in
    let low : signed a ≡ i.lo = ap signed c.lowest-least.ensures ∙ low_end i fits.0 in
    let high : signed b ≡ i.hi = ap signed c.highest.ensures ∙ high_end i fits.1 in
    let small : a < 65536 = search rules in
    let great : b < 65536 = search rules in
    let more : c.saturating_sub.result ≡ turned b - turned a = search rules in
    let within : turned a + (turned b - turned a) < 65536 = omega (arith, small, great) in
    let is : c.has_row.result ≡ has_row s.few a (turned b - turned a) = c.has_row.ensures ∙ ap (λ (ws : List ℕ). has_row ws a c.saturating_sub.result) c.as_slice.ensures.words ∙ ap (λ (m : ℕ). has_row s.few a m) more in
    let row : IsTrue c.has_row.result ↔ HasRow s.few a (turned b - turned a) = rw is (row_is s.few a (turned b - turned a) small within (rising s)) in
    rw c.in-List.is (each_within i a b low high small great (AList s) c.has_row.result row)

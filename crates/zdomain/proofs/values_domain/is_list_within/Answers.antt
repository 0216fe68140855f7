use Rattle.std.proofs.Common.{◌≡◌, ◌<◌, ℕ, List, ap, ◌∙◌, subst, get_or}
use Rattle.std.specs.Prelude.{◌↔◌, IsTrue}
use Rattle.zdomain.specs.Domain.{Within}
use Rattle.zdomain.specs.declared.values.Values.TheVariants.{List as AList}
use Rattle.zdomain.specs.Sides.{are_among}
use Rattle.zdomain.specs.Values.{values_operations}
use Rattle.zdomain.specs.ValuesLaw.{rising}
use Rattle.zdomain.proofs.Orders.{within_is}
use Rattle.zdomain.proofs.values_domain.is_list_within.Goals as goal

pub returns-in-List : goal.returns-in-List
returns-in-List c =
    let s = c.args.list in
    let t = c.in-List.other in
    let small : (i : ℕ) → get_or s.few i 0 < 65536 = λ i. subst (λ (ws : List ℕ). get_or ws i 0 < 65536) c.as_slice-in-List.ensures.words (c.are_words.ensures i) in
    let is : c.are_among.result ≡ are_among s.few t.few = c.are_among.ensures ∙ ap (λ (ws : List ℕ). are_among ws c.as_slice-in-List-3.result.now) c.as_slice-in-List-2.ensures.words ∙ ap (λ (ws : List ℕ). are_among s.few ws) c.as_slice-in-List-3.ensures.words in
    let within : IsTrue c.are_among.result ↔ Within values_operations (AList s) (AList t) = rw is (within_is s t small (rising s) (rising t)) in
    rw c.in-List.is within

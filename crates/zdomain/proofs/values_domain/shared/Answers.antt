use Rattle.std.proofs.Common.{◌≡◌, ℕ, List, ap, ◌∙◌, refl}
use Rattle.std.specs.List.{filter}
use Rattle.zdomain.specs.declared.values.Values.TheVariants.{List as AList}
use Rattle.zdomain.specs.Few.{is_among, with_words, gathered, Gathering}
use Rattle.zdomain.specs.Sides.{shared}
use Rattle.zdomain.specs.Values.{has}
use Rattle.zdomain.specs.ValuesLaw.{rising}
use Rattle.zdomain.proofs.Orders.{shared_is, filter_alike}
use Rattle.zdomain.proofs.values_domain.shared.Goals as goal

pub returns-in-List : goal.returns-in-List
returns-in-List c =
    let s = c.args.list in
    let t = c.in-List.other in
    let lists : shared c.as_slice.result.now c.as_slice-in-List.result.now ≡ shared s.few t.few = ap (λ (ws : List ℕ). shared ws c.as_slice-in-List.result.now) c.as_slice.ensures.words ∙ ap (λ (ws : List ℕ). shared s.few ws) c.as_slice-in-List.ensures.words in
    let common : shared s.few t.few ≡ filter (has (AList t)) s.few = shared_is s.few t.few (rising s) (rising t) ∙ filter_alike (λ v. is_among v t.few) (has (AList t)) s.few (λ v h. refl) in
    rw c.in-List.is (c.add_shared.ensures ∙ ap (λ (g : Gathering). with_words (shared c.as_slice.result.now c.as_slice-in-List.result.now) g) c.none-all.ensures ∙ ap gathered (lists ∙ common))

use Rattle.std.proofs.Common.{◌≡◌, ℕ, List, rules, sym, subst, ◌∙◌}
use Rattle.std.specs.Prelude.{IsTrue}
use Rattle.zpairs.specs.Cells.{cell_at, passes}
use Rattle.zpairs.specs.Pairs.{EachWord}
use Rattle.zpairs.proofs.Words.{by_words}
use Rattle.zpairs.proofs.properties.Properties.words_pass.Goals as goal

pub returns-in-Some : goal.returns-in-Some
returns-in-Some g c passed =
    let first : c.as_slice.result.now ≡ c.in-Some.few = search rules in
    let second : c.as_slice-in-Some.result.now ≡ c.in-Some.others = search rules in
    let Holds : ℕ → ℕ → Type 0 = λ x n. IsTrue (passes c.args.test n (cell_at c.args.self.now x n)) in
    by_words g.V.Domain.operations g.met.V.Domain.sound c.args.self.now.story c.args.objects c.args.numbers c.in-Some.few c.in-Some.others Holds (sym c.members.ensures ∙ c.in-Some.is)
    (subst (λ (xs : List ℕ). EachWord c.args.self.now.story xs c.in-Some.others Holds) first (subst (λ (ys : List ℕ). EachWord c.args.self.now.story c.as_slice.result.now ys Holds) second (c.lists_pass.ensures passed)))

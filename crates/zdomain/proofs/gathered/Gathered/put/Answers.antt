use Rattle.std.proofs.Common.{◌≡◌, ◌⊎◌, inl, inr, ◌≤◌, ℕ, Bool, List, true, sym, subst, ap, ◌∙◌, ◌||◌, ◌==◌}
use Rattle.std.proofs.lemmas.Bool.{or_cases, eqb-true}
use Rattle.zdomain.specs.Few.{Gathering, is_among, turned}
use Rattle.zdomain.specs.Marks.{is_marked}
use Rattle.zdomain.proofs.Among.{among_insert}
use Rattle.zdomain.proofs.gathered.Gathered.put.Goals as goal

pub invariant_of-self-2 : goal.invariant_of-self-2
invariant_of-self-2 c = (
  λ few p.
      let words = c.self.inside.few.items in
      c.add.ensures p
      ∙ ap (λ (b : Bool). b || p == c.from.result) (c.self.invariant.0 few p)
      ∙ ap (λ (w : ℕ). is_among p words || p == w) c.from.ensures
      ∙ sym (among_insert words c.place_in.result c.args.word p)
      ∙ ap (λ (ws : List ℕ). is_among p ws) (sym c.insert.ensures.items),
  λ p marked. lies p (or_cases (is_marked c.self.inside.marks p) (p == c.from.result) (sym (c.add.ensures p) ∙ marked)),
)
  where
    lies : (p : ℕ) → (is_marked c.self.inside.marks p ≡ true) ⊎ ((p == c.from.result) ≡ true) → (c.self.inside.least ≤ turned p) × (turned p ≤ c.self.inside.greatest)
    lies p (inl before) = c.self.invariant.1 p before
    lies p (inr new) = let same : c.args.word ≡ p = sym (eqb-true p c.from.result new ∙ c.from.ensures) in subst (λ (w : ℕ). (c.self.inside.least ≤ turned w) × (turned w ≤ c.self.inside.greatest)) same (subst (λ (g : Gathering). g.least ≤ turned c.args.word) (sym c.self.view_is) c.requires.least, subst (λ (g : Gathering). turned c.args.word ≤ g.greatest) (sym c.self.view_is) c.requires.greatest)

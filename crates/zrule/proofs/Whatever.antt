-- What holds of both edges of an instruction holds of whatever may come of it.
use Rattle.std.proofs.Common.{◌≡◌, ◌↔◌, ℕ, ◌<◌, ◌≤◌, arith, Bool, true, false, List, Option, Some, None, sym, ap, subst, ◌∙◌, length}
use Rattle.std.specs.Prelude.{IfSome, slice_get, slice_index_or, nat_lt, ◌-◌}
use Rattle.std.proofs.lemmas.Option.{same_Some, get_or_from_slice_get}
use Rattle.std.proofs.lemmas.Bool.{le-ltb}
use Rattle.zstory.specs.LoadedStory.{LoadedStory}
use Rattle.zcode.specs.Instruction.{Instruction}
use Rattle.zcode.specs.Operation.{target}
use Rattle.zdomain.specs.Domain.{SetOperations, Within}
use Rattle.zflow.specs.declared.parts.Lead.{Lead}
use Rattle.zflow.specs.declared.parts.Outcome.{Outcome}
use Rattle.zflow.specs.declared.flow.Edge.{Edge}
use Rattle.zflow.specs.declared.flow.Flow.{Flow}
use Rattle.zflow.specs.Transfer.{Shape, slots_with, outcome_at, after, leading, globals_after}
use Rattle.zflow.specs.Flow.{IsEdge, IsFlow}
use Rattle.zrule.specs.declared.rule.Rule.TheVariants as rules
use Rattle.zrule.specs.Claims.{Claims, told_of, globals_at}
use Rattle.zrule.specs.Rules.{Enters, GoesOn, Returns, Takes, TakesInPlace, TakesBack, comes_back, Whatever, OnEdge, IsLow}
use Rattle.zrule.specs.Edges.{EdgesKeep}
use Rattle.zrule.proofs.Sets.{some_at}

module _ {V : Type 0} (o : SetOperations V) (claims : Claims V) (story : LoadedStory) (p : ℕ) (i : Instruction) (e : Shape V) (flow : Flow V) (is : IsFlow o (globals_at claims p) (told_of claims story) i e flow) where
  -- something that is asked of what is known after an edge, of where it leads, and of what came to it
  module _ (P : Option (Shape V) → Lead V → Outcome V → Type 0) where
    Asked : Option (Edge V) → Type 0
    Asked edge = IfSome edge (λ x. P x.after x.lead x.outcome)

    Holds : Outcome V → Type 0
    Holds w = P (after o (globals_at claims p) i e w) (leading o w i.branch) w

    same : (x : Edge V) → x.after ≡ after o (globals_at claims p) i e x.outcome → x.lead ≡ leading o x.outcome i.branch → P x.after x.lead x.outcome ↔ Holds x.outcome
    unfolding Holds
    same x a l = (λ held. subst (λ (k : Lead V). P (after o (globals_at claims p) i e x.outcome) k x.outcome) l (subst (λ (f : Option (Shape V)). P f x.lead x.outcome) a held), λ h. subst (λ (f : Option (Shape V)). P f x.lead x.outcome) (sym a) (subst (λ (k : Lead V). P (after o (globals_at claims p) i e x.outcome) k x.outcome) (sym l) h))

    there : (c : Bool) (edge : Option (Edge V)) → IsEdge o (globals_at claims p) (told_of claims story) i e c edge → Asked edge → (w : Outcome V) → outcome_at o (globals_at claims p) i e (told_of claims story) c ≡ Some w → Holds w
    unfolding Asked
    there c None is asked w comes = absurd (let none = is.outcome ∙ comes in cc)
    there c (Some x) is asked w comes = subst Holds (same_Some x.outcome w (is.outcome ∙ comes)) ((same x is.behind is.lead).0 asked)

    back : (c : Bool) (edge : Option (Edge V)) → IsEdge o (globals_at claims p) (told_of claims story) i e c edge → ((w : Outcome V) → outcome_at o (globals_at claims p) i e (told_of claims story) c ≡ Some w → Holds w) → Asked edge
    unfolding Asked
    back c None is all = tt
    back c (Some x) is all = (same x is.behind is.lead).1 (all x.outcome (sym is.outcome))

    whatever : (Asked flow.held × Asked flow.failed) ↔ Whatever o claims p story i e Holds
    whatever = (all, λ h. (back true flow.held is.held (λ w comes. h w (true, comes)), back false flow.failed is.failed (λ w comes. h w (false, comes))))
      where
        all : Asked flow.held × Asked flow.failed → Whatever o claims p story i e Holds
        all asked w (true, comes) = there true flow.held is.held asked.0 w comes
        all asked w (false, comes) = there false flow.failed is.failed asked.1 w comes

  module _ (args : List V) (routine next : ℕ) where
    pub leads_on : EdgesKeep o claims story (globals_at claims p) args routine next (target i) rules.Successor flow ↔ Whatever o claims p story i e (λ w. IsLow o claims p i e w → OnEdge o claims p w i e (λ f. GoesOn o claims routine (target i) (globals_after (globals_at claims p) (target i) w) f next (leading o w i.branch)))
    unfolding Asked Holds
    leads_on = whatever (λ f lead w. IfSome f (λ f. length (slots_with (comes_back o claims lead) (target i) f.slots) ≤ 64) → IfSome f (λ f. GoesOn o claims routine (target i) (globals_after (globals_at claims p) (target i) w) f next lead))

    pub called : EdgesKeep o claims story (globals_at claims p) args routine next (target i) rules.Called flow ↔ Whatever o claims p story i e (λ w. OnEdge o claims p w i e (λ f. Enters o claims story args (leading o w i.branch)))
    unfolding Asked Holds
    called = whatever (λ f lead w. IfSome f (λ f. Enters o claims story args lead))

    pub returned : EdgesKeep o claims story (globals_at claims p) args routine next (target i) rules.Returned flow ↔ Whatever o claims p story i e (λ w. OnEdge o claims p w i e (λ f. Returns o claims routine (leading o w i.branch)))
    unfolding Asked Holds
    returned = whatever (λ f lead w. IfSome f (λ f. Returns o claims routine lead))

    pub stored : EdgesKeep o claims story (globals_at claims p) args routine next (target i) rules.Stored flow ↔ Whatever o claims p story i e (λ w. OnEdge o claims p w i e (λ f. Takes o claims w.gives (target i) × TakesInPlace o claims w.assigns × TakesBack o claims (target i) (leading o w i.branch)))
    unfolding Asked Holds
    stored = whatever (λ f lead w. IfSome f (λ f. Takes o claims w.gives (target i) × TakesInPlace o claims w.assigns × TakesBack o claims (target i) lead))

    pub high : EdgesKeep o claims story (globals_at claims p) args routine next (target i) rules.High flow ↔ Whatever o claims p story i e (IsLow o claims p i e)
    unfolding Asked Holds
    high = whatever (λ f lead w. IfSome f (λ f. length (slots_with (comes_back o claims lead) (target i) f.slots) ≤ 64))

-- a global takes what lies in its set
takes_where : {V : Type 0} (o : SetOperations V) (claims : Claims V) (x : V) (v : ℕ) (values : V) → nat_lt v 16 ≡ false → slice_get claims.globals (v - 16) ≡ Some values → Takes o claims (Some x) v ↔ Within o x values
takes_where o claims x v values above is = rw (above, is) (λ t. t, λ t. t)

got : {V : Type 0} (xs : List V) (k : ℕ) (d x : V) → k < length xs → x ≡ slice_index_or xs k d → slice_get xs k ≡ Some x
got xs k d x within is = let s = some_at xs k within in s.1 ∙ ap (λ y. Some y) (sym (is ∙ get_or_from_slice_get xs k s.0 d s.1))

pub takes_there : {V : Type 0} (o : SetOperations V) (claims : Claims V) (x : V) (v index : ℕ) (globals : List V) (values d : V) → globals ≡ claims.globals → length globals ≡ 240 → index ≡ v → 16 ≤ v → v < 256 → values ≡ slice_index_or globals (index - 16) d → Takes o claims (Some x) v ↔ Within o x values
takes_there o claims x v index globals values d same count is above few value =
    let there = got globals (index - 16) d values (omega (arith, count, is, above, few)) value in
    takes_where o claims x v values (le-ltb v 16 above) (subst (λ k. slice_get claims.globals (k - 16) ≡ Some values) is (subst (λ xs. slice_get xs (index - 16) ≡ Some values) same there))

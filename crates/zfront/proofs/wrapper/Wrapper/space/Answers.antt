use Rattle.std.proofs.Common.{◌<◌, ◌≤◌, ◌∷◌, [], ◌∙◌, ap, sym, subst, arith}
use Rattle.zfront.specs.Wrapping.{FeedsTo, Wrapping}
use Rattle.zfront.proofs.Taking.{space_broken_fed, space_held_fed, space_wide_fed}
use Rattle.zfront.proofs.wrapper.Wrapper.space.Goals as goal

pub returns-then-self-clause-fed : goal.returns-then-self-clause-fed
returns-then-self-clause-fed c =
    space_held_fed c.args.self.now c.settle.ensures.fits c.args.out.now.items c.settle.new.out.items c.settle.new.out.items c.settle.ensures.given _ c.push_reserved.new.self.items (c.self.view_is ∙ c.settle.ensures.settled) c.if-self.true c.push_reserved.ensures.items

pub returns-then-self-eq0-clause-fed : goal.returns-then-self-eq0-clause-fed
returns-then-self-eq0-clause-fed c =
    space_wide_fed c.args.self.now c.settle.ensures.fits c.args.out.now.items c.settle.new.out.items c.push_reserved-then-self-eq0.new.self.items c.settle.ensures.given c.settle.new.self c.settle.ensures.settled
    (sym (ap (λ (w : Wrapping). w.width) c.self.view_is) ∙ c.if-self-eq0.true) c.push_reserved-then-self-eq0.ensures.items

pub returns-else-self-eq0-clause-fed : goal.returns-else-self-eq0-clause-fed
returns-else-self-eq0-clause-fed c =
    let wide : 0 < c.settle.new.self.width = subst (λ (w : Wrapping). 0 < w.width) c.self.view_is (omega (arith, c.if-self-eq0.false)) in
    let full : c.settle.new.self.width ≤ c.settle.new.self.column = subst (λ (w : Wrapping). w.width ≤ w.column) c.self.view_is c.if-self.false in
    subst (λ (w : Wrapping). FeedsTo c.args.self.now w (32 ∷ []) c.args.out.now.items c.end_here.new.out.items) (sym c.end_here.ensures.column)
    (space_broken_fed c.args.self.now c.settle.ensures.fits c.args.out.now.items c.settle.new.out.items c.end_here.new.out.items c.settle.ensures.given c.settle.new.self c.settle.ensures.settled wide full c.end_here.ensures.given)

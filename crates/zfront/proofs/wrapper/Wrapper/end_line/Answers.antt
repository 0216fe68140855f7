use Rattle.std.proofs.Common.{◌∷◌, [], sym, subst}
use Rattle.zfront.specs.Wrapping.{FeedsTo, Wrapping}
use Rattle.zfront.proofs.Taking.{newline_fed}
use Rattle.zfront.proofs.wrapper.Wrapper.end_line.Goals as goal

pub returns-clause-fed : goal.returns-clause-fed
returns-clause-fed c =
    subst (λ (w : Wrapping). FeedsTo c.args.self.now w (10 ∷ []) c.args.out.now.items c.end_here.new.out.items) (sym c.end_here.ensures.column)
    (newline_fed c.args.self.now c.settle.ensures.fits c.args.out.now.items c.settle.new.out.items c.end_here.new.out.items c.settle.ensures.given c.settle.new.self c.settle.ensures.settled c.end_here.ensures.given)

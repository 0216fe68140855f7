use Rattle.std.proofs.Common.{◌+◌, ◌-◌, ◌*◌, arith, subst}
use Rattle.zpairs.specs.Frozen.{FrozenStory}
use Rattle.zpairs.specs.Rows.{AreFound}
use Rattle.zpairs.proofs.Found.{found_readable}
use Rattle.zpairs.proofs.Regrouped.{found_read}
use Rattle.zpairs.proofs.properties.Properties.property.Goals as goal

pub returns-clause-found : goal.returns-clause-found
returns-clause-found c =
    let are = subst (λ (told : FrozenStory). AreFound told.story c.self.inside.found.now) c.self.view_is c.self.invariant.2 in
    let object = c.from.ensures in
    let number = c.from-2.ensures in
    let small = c.requires.small in
    found_read c.args.self.now c.self.inside.found.now c.args.object c.args.number (33 * (c.from.result - 1) + c.from-2.result) are c.requires.least c.requires.most (omega (arith, small)) (omega (arith, object, number))

pub returns-clause-readable : goal.returns-clause-readable
returns-clause-readable c = found_readable c.args.self.now.story.memory c.args.object c.args.number _ (returns-clause-found c)

use Rattle.std.proofs.Common.{◌+◌, ◌*◌, arith, subst}
use Rattle.zpairs.specs.Frozen.{FrozenStory}
use Rattle.zpairs.specs.Blocks.{AreBlocks}
use Rattle.zpairs.proofs.Regrouped.{block_read}
use Rattle.zpairs.proofs.properties.Properties.block_cell.Goals as goal

pub returns : goal.returns
returns c =
    let are = subst (λ (told : FrozenStory). AreBlocks told c.self.inside.blocks.now) c.self.view_is c.self.invariant.3 in
    let block = c.from.ensures in
    let number = c.from-2.ensures in
    block_read c.args.self.now c.self.inside.blocks.now c.args.block c.args.number (33 * c.from.result + c.from-2.result) are c.requires.few c.requires.small (omega (arith, block, number))

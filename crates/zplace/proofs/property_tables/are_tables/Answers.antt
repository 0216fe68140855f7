use Rattle.std.proofs.Common.{refl, subst}
use Rattle.zstory.specs.Objects.{property_table}
use Rattle.zplace.specs.Tables.{IsPropertyTable}
use Rattle.zplace.proofs.Each.{one_more}
use Rattle.zplace.proofs.property_tables.are_tables.Goals as goal

pub loop-below-preserved : goal.loop-below-preserved
loop-below-preserved c =
    one_more (λ object. IsPropertyTable c.args.story.now (property_table c.args.story.now.memory object)) c.loop-below.below c.loop-below.invariant (subst (IsPropertyTable c.args.story.now) c.table_of.ensures.value (c.if-not-is_table.ensures.0 refl))

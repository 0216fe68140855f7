use Rattle.std.proofs.Common.{◌↔◌, subst}
use Rattle.std.specs.Prelude.{IsTrue}
use Rattle.zpairs.specs.Frozen.{FrozenStory, frozen_by}
use Rattle.zruns.specs.Names.{AreFixedNames}
use Rattle.zruns.proofs.tables.Tables.are_names_fixed.Goals as goal

pub returns-else-self : goal.returns-else-self
returns-else-self g c = subst (λ (told : FrozenStory). IsTrue c.are_named_fixed.result ↔ AreFixedNames g.V.Domain.operations told.story (frozen_by told.ranges) c.args.objects) c.texts.ensures c.are_named_fixed.ensures

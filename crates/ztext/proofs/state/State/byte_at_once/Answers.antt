use Rattle.ztext.proofs.Table.{at_once-some}
use Rattle.ztext.proofs.state.State.byte_at_once.Goals as goal

pub returns-else-byte-eq0 : goal.returns-else-byte-eq0
returns-else-byte-eq0 c = at_once-some _ _ _ _ c.self.view_is c.self.invariant c.from.ensures c.requires c.if-byte-eq0.false

use Rattle.std.proofs.Common.{rules}
use Rattle.zcode.specs.Reading.{instruction_at}
use Rattle.zcode.proofs.Found.{well_formed}
use Rattle.zcode.proofs.Tails.{text_tail}
use Rattle.zcode.proofs.reading.instruction_at.Goals as goal

pub text_if-requires : goal.text_if-requires
text_if-requires c =
    text_tail _ c.args.bytes.now _ _ _ _ _ _ _ _ _ _ _ c.requires c.in_ok-head.ensures c.in-Ok.ensures c.in_ok-store.ensures c.in_ok-branch.ensures

pub new-requires : goal.new-requires
unfolding instruction_at
new-requires c = well_formed c.args.bytes.now _ (search rules)

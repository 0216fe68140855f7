use Rattle.zcert.specs.Listed.{seen}
use Rattle.zcert.specs.Spelling.{instruction_bytes}
use Rattle.zcert.proofs.Taken.{one_more_taken}
use Rattle.zcert.proofs.writing.put_instructions.Goals as goal

pub loop-index-preserved : goal.loop-index-preserved
loop-index-preserved g c = one_more_taken (instruction_bytes g.V.Spelled.format) c.args.contents.now.instructions.instructions c.loop-index.index (seen c.get.result) _ c.loop-index.out.items _ c.get.ensures c.loop-index.invariant c.in_ok-put_instruction.ensures

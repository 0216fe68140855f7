use Rattle.std.proofs.Common.{◌∙◌, arith}
use Rattle.zfault.proofs.DeviceLemmas.{on_err}
use Rattle.zfront.proofs.Spaces.{spaces_begun, spaces_more}
use Rattle.zfront.proofs.drawing.write_spaces.Goals as goal

pub returns-in_err-write_whole-clause-err : goal.returns-in_err-write_whole-clause-err
returns-in_err-write_whole-clause-err g c = on_err _ (spaces_begun _ _ _ c.args.count c.loop-left.left c.min-some.result c.loop-left.invariant.within c.min-some.ensures c.loop-left.invariant.grown c.in_err-write_whole.ensures.begun)

pub loop-left-preserved : goal.loop-left-preserved
loop-left-preserved g c = record {
  within = omega arith;
  grown = spaces_more _ _ _ c.args.count c.loop-left.left c.min-some.result c.loop-left.invariant.within c.min-some.ensures c.loop-left.invariant.grown c.in_ok-write_whole.ensures.ok;
  quiet = c.in_ok-write_whole.ensures.quiet ∙ c.loop-left.invariant.quiet;
}

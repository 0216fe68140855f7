use Rattle.std.proofs.Common.{◌≤◌, ◌∙◌, arith, length, take}
use Rattle.std.proofs.lemmas.List.{length-take}
use Rattle.zfault.specs.declared.line.TheConstants.{LINE_LIMIT}
use Rattle.zfault.proofs.LineLemmas.{IsPadded-front, take-front, take-min-length}
use Rattle.zfault.proofs.line.Line.new.Goals as goal

pub invariant_of-result : goal.invariant_of-result
invariant_of-result c =
    let within : length (take c.min.result c.args.bytes.now) ≤ LINE_LIMIT = rw length-take (omega (arith, c.min.ensures)) in
    IsPadded-front _ _ within c.copy_to_front.ensures

pub returns : goal.returns
returns c = take-front _ _ _ c.copy_to_front.ensures ∙ rw c.min.ensures (take-min-length _ _)

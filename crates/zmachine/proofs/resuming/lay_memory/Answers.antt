use Rattle.std.proofs.Common.{◌∙◌, arith, refl}
use Rattle.zmachine.proofs.Restoring.{flags_of}
use Rattle.zmachine.proofs.resuming.lay_memory.Goals as goal

pub returns-clause-value : goal.returns-clause-value
returns-clause-value c =
    let long = c.length-size.ensures.value in
    let least = c.length-size.ensures.least in
    let size = c.requires.size in
    c.reload.ensures.value ∙ flags_of c.args.memory.now c.args.now.now _ _ (omega (arith, long, least, size)) refl

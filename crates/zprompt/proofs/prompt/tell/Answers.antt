use Rattle.std.proofs.Common.{refl, rules, subst, List, ℕ}
use Rattle.zfault.specs.Devices.{AppendsBeginning}
use Rattle.zfault.proofs.DeviceLemmas.{AppendsBeginning-whole}
use Rattle.zprompt.proofs.prompt.tell.Goals as goal

pub returns-in-Err-flush-clause-err : goal.returns-in-Err-flush-clause-err
returns-in-Err-flush-clause-err g c =
    (refl, subst (λ (text : List ℕ). AppendsBeginning (g.W.Sink.contents c.args.writer.now) (g.W.Sink.contents c.flush.new.self) text) c.text.ensures (AppendsBeginning-whole _ _ _ _ c.in-Ok.ensures.ok c.flush.ensures.bytes), search rules)

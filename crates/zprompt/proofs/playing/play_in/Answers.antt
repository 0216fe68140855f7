use Rattle.std.proofs.Common.{List, [], append-nil, subst}
use Rattle.zquetzal.specs.declared.error.SaveError.{SaveError}
use Rattle.zprompt.specs.Prompts.{ComesPrompted, at_first}
use Rattle.zprompt.proofs.playing.play_in.Goals as goal

pub returns-then-manner-clause-comes : goal.returns-then-manner-clause-comes
returns-then-manner-clause-comes g c =
    let m = c.args.machine.now in
    let setting = g.M.Promptable.setting m in
    let comes = c.play_prompted.ensures.comes in
    let start = at_first g.R.Source.remaining g.G.Words.coming g.S.SaveStore.kept g.S.SaveStore.failures g.W.Sink.contents (g.M.Promptable.state m) c.args.world.now [] in
    let last = at_first g.R.Source.remaining g.G.Words.coming g.S.SaveStore.kept g.S.SaveStore.failures g.W.Sink.contents (g.M.Promptable.state c.play_prompted.new.machine) c.play_prompted.new.world in
    rw c.if-manner.true (
      comes.0,
      subst (λ (refusals : List SaveError). ComesPrompted setting (g.M.Promptable.Takes m) (g.M.Promptable.Wants setting) c.args.manner.options start (last refusals) c.play_prompted.result) (append-nil comes.0) (comes.2 []),
      comes.1,
    )

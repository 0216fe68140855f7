use Rattle.std.proofs.Common.{[], rules, sym, subst, IsErrOf}
use Rattle.zplayer.specs.declared.end.PlayError.{PlayError}
use Rattle.zplayer.specs.declared.end.PlayError.TheVariants as errors
use Rattle.zplayer.specs.Playing.{Breaks, stage}
use Rattle.zplayer.specs.World.{told as told_store, world}
use Rattle.zplayer.proofs.Stages.{end_unflushed, handed_on}
use Rattle.zplayer.proofs.player.play_machine.Goals as goal
use Rattle.zplayer.proofs.player.play_machine.Goals.{in_default-via-in-Err+in-OutOfMemory-1, in_default-via-in-Ok-1}

pub returns-in_err-flush-in_default-clause-comes : goal.returns-in_err-flush-in_default-clause-comes
returns-in_err-flush-in_default-clause-comes g c =
    let no_write = elim c.in_default-1.branch as (λ _. ¬ IsErrOf c.play_turns.result errors.Write) [ in_default-via-in-Err+in-OutOfMemory-1 w ↦ search (rules, w.played-is) | in_default-via-in-Ok-1 w ↦ search (rules, w.played-is) ] in
    let comes = c.play_turns.ensures.comes in
    let told = comes.1 in
    let part = end_unflushed _ _ (g.M.Machine.Wants (g.M.Machine.setting c.args.machine.now)) _ _ _ _ _ _ c.flush.ensures.kept _ no_write told.2 in (
      comes.0,
      (
        told.0,
        told.1,
        handed_on _ _ _ _ c.from_residual.ensures
            (subst (λ (e : PlayError). Breaks (g.M.Machine.setting c.args.machine.now) (g.M.Machine.Takes c.args.machine.now) (g.M.Machine.Wants (g.M.Machine.setting c.args.machine.now)) c.args.options.status (stage c.args.options.budget (g.M.Machine.state c.args.machine.now) (world (g.R.Source.remaining c.args.world.now.reader.now) (g.G.Words.coming c.args.world.now.words.now) (told_store g.S.SaveStore.kept g.S.SaveStore.failures c.args.world.now.store.now []))) (stage told.0 (g.M.Machine.state c.play_turns.new.machine) (world told.1 (g.G.Words.coming c.play_turns.new.world.words.now) (told_store g.S.SaveStore.kept g.S.SaveStore.failures c.play_turns.new.world.store.now comes.0))) (g.W.Sink.contents c.args.world.now.writer.now) (g.W.Sink.contents c.flush.new.writer) e) (sym c.in_err-flush-in_default.ensures.failed.0) part),
      ),
      comes.2,
    )

use Rattle.std.proofs.Common.{◌≡◌, [], rules, sym, subst, IsErrOf}
use Rattle.std.specs.Prelude.{⊤}
use Rattle.zref.specs.Machine.{setting}
use Rattle.zplayer.specs.declared.end.PlayError.{PlayError}
use Rattle.zplayer.specs.declared.end.PlayError.TheVariants as errors
use Rattle.zplayer.specs.Leniently.{BreaksLeniently, WantsLeniently, reach}
use Rattle.zplayer.specs.World.{told as told_store, world}
use Rattle.zplayer.proofs.Reaches.{end_flushed, end_unflushed}
use Rattle.zplayer.proofs.Stages.{handed_on}
use Rattle.zplayer.proofs.lenient.play_leniently.Goals as goal
use Rattle.zplayer.proofs.lenient.play_leniently.Goals.{in_default-via-in-Err+in-OutOfMemory-1, in_default-via-in-Ok-1}

pub returns-in_err-flush-in_default-clause-comes : goal.returns-in_err-flush-in_default-clause-comes
returns-in_err-flush-in_default-clause-comes g c =
    let no_write = elim c.in_default-1.branch as (λ _. ¬ IsErrOf c.play_turns.result errors.Write) [ in_default-via-in-Err+in-OutOfMemory-1 w ↦ search (rules, w.played-is) | in_default-via-in-Ok-1 w ↦ search (rules, w.played-is) ] in
    let comes = c.play_turns.ensures.comes in
    let told = comes.2 in
    let part = end_unflushed _ _ (WantsLeniently (setting c.args.machine.now)) _ _ _ _ _ _ _ c.flush.ensures.kept _ no_write told.2 in (
      comes.0,
      comes.1,
      (
        told.0,
        told.1,
        handed_on _ _ _ _ c.from_residual.ensures
            (subst (λ (e : PlayError). BreaksLeniently (setting c.args.machine.now) (λ _. ⊤) (WantsLeniently (setting c.args.machine.now)) c.args.options.status comes.0 (reach c.args.options.budget c.args.machine.now.state (world (g.R.Source.remaining c.args.world.now.reader.now) (g.G.Words.coming c.args.world.now.words.now) (told_store g.S.SaveStore.kept g.S.SaveStore.failures c.args.world.now.store.now [])) c.args.lenience.now.front) (reach told.0 c.play_turns.new.machine.state (world told.1 (g.G.Words.coming c.play_turns.new.world.words.now) (told_store g.S.SaveStore.kept g.S.SaveStore.failures c.play_turns.new.world.store.now comes.1)) c.play_turns.new.lenience.front) (g.W.Sink.contents c.args.world.now.writer.now) (g.W.Sink.contents c.flush.new.writer) e) (sym c.in_err-flush-in_default.ensures.failed.0) part),
      ),
      comes.3,
      comes.4,
    )

pub returns-in_ok-flush-in_default-clause-comes : goal.returns-in_ok-flush-in_default-clause-comes
returns-in_ok-flush-in_default-clause-comes g c =
    let no_write = elim c.in_default-1.branch as (λ _. ¬ IsErrOf c.play_turns.result errors.Write) [ in_default-via-in-Err+in-OutOfMemory-1 w ↦ search (rules, w.played-is) | in_default-via-in-Ok-1 w ↦ search (rules, w.played-is) ] in
    let played : c.play_turns.result ≡ c.in_default-1.played = elim c.in_default-1.branch [ in_default-via-in-Err+in-OutOfMemory-1 w ↦ search (rules, w.played-is) | in_default-via-in-Ok-1 w ↦ search (rules, w.played-is) ] in
    let comes = c.play_turns.ensures.comes in
    let told = comes.2 in
    rw (sym played) (comes.0, comes.1, (told.0, told.1, end_flushed _ _ (WantsLeniently (setting c.args.machine.now)) _ _ _ _ _ _ _ c.flush.ensures.kept _ no_write told.2), comes.3, comes.4)

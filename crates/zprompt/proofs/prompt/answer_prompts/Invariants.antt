use Rattle.std.proofs.Common.{◌≡◌, ◌+◌, ◌-◌, ◌^◌, ℕ, List, All, false}
use Rattle.zplayer.specs.Devices.{SameDevices}
use Rattle.zplayer.specs.Lines.{KnowsEnd}
use Rattle.zprompt.specs.Prompts.{Comes, ComesWith, at_first, at_prompt}
use Rattle.zprompt.proofs.prompt.answer_prompts.Given as goal

-- so many prompts were answered
abbrev pub invariant-prompts : goal.invariant-prompts
invariant-prompts g l = record {
  play : g.M.Promptable.IsSamePlay l.fn.machine l.machine;
  devices : SameDevices l.fn.world l.world;
  kept : All (g.M.Promptable.IsKept l.machine) l.turns;
  ended : KnowsEnd l.lines (g.R.Source.remaining l.world.reader.now);
  flushed : g.W.Sink.waits l.world.writer.now ≡ false;
  unread : g.R.Source.failures l.world.reader.now ≡ g.R.Source.failures l.fn.world.reader.now;
  quiet : g.W.Sink.failures l.world.writer.now ≡ g.W.Sink.failures l.fn.world.writer.now;
  so_far : (n : ℕ) × (n + l.left ≡ 2 ^ 64 - 1)
      × ComesWith g.S.SaveStore.Follows l.fn.world.store.now l.world.store.now (λ before after. Comes (g.M.Promptable.setting l.fn.machine) (g.M.Promptable.Takes l.fn.machine) (g.M.Promptable.Wants (g.M.Promptable.setting l.fn.machine)) l.fn.options n
      (at_first g.R.Source.remaining g.G.Words.coming g.S.SaveStore.kept g.S.SaveStore.failures g.W.Sink.contents (g.M.Promptable.state l.fn.machine) l.fn.world before)
      (at_prompt g.R.Source.remaining g.G.Words.coming g.S.SaveStore.kept g.S.SaveStore.failures g.W.Sink.contents (g.M.Promptable.state l.machine) l.turns l.lines l.world after));
}

abbrev pub decreases-prompts : goal.decreases-prompts
decreases-prompts g l = l.left

use Rattle.std.proofs.Common.{ap, inl, refl}
use Rattle.zprompt.specs.Prompts.{at_first}
use Rattle.zprompt.proofs.Plays.{from_first}
use Rattle.zprompt.proofs.prompt.play_prompted.Goals as goal

pub returns-in-Ok-None-clause-comes : goal.returns-in-Ok-None-clause-comes
returns-in-Ok-None-clause-comes g c =
    let m = c.args.machine.now in
    let there = c.play_on.new in
    let began = rw c.in-Ok-None.field-0-is at c.in-Ok-None.ensures.comes in
    let start = at_first g.R.Source.remaining g.G.Words.coming g.S.SaveStore.kept g.S.SaveStore.failures g.W.Sink.contents (g.M.Promptable.state m) c.args.world.now in
    let first = at_first g.R.Source.remaining g.G.Words.coming g.S.SaveStore.kept g.S.SaveStore.failures g.W.Sink.contents (g.M.Promptable.state there.machine) there.world in
    let last = at_first g.R.Source.remaining g.G.Words.coming g.S.SaveStore.kept g.S.SaveStore.failures g.W.Sink.contents (g.M.Promptable.state c.answer_prompts.new.machine) c.answer_prompts.new.world in
    from_first g.S.SaveStore.Follows g.met.S.SaveStore.through g.M.Promptable.Wants c.args.options (g.M.Promptable.setting m) (g.M.Promptable.Takes m) (g.M.Promptable.setting there.machine) (g.M.Promptable.Takes there.machine) (g.met.M.Promptable.same_prompts _ _ c.in-Ok-None.ensures.play c.args.options) _ _ _ start first last c.answer_prompts.result (λ after. refl) (λ before after. ap g.R.Source.remaining c.in-Ok-None.ensures.same) began c.answer_prompts.ensures.comes

pub returns-in-Ok-Some-clause-comes : goal.returns-in-Ok-Some-clause-comes
returns-in-Ok-Some-clause-comes g c = let ended = rw c.in-Ok-Some.field-0-is at c.in-Ok-Some.ensures.comes in (ended.0, ended.1, λ before. inl (ended.2 before))

use Rattle.std.proofs.Common.{◌∙◌, ℕ, List, Option, ap, ap₂, arith, refl, rules, suc, []}
use Rattle.zstate.specs.State.{State}
use Rattle.zplayer.specs.Lines.{Ahead, unused}
use Rattle.zprompt.specs.Prompts.{at, at_first, at_prompt}
use Rattle.zprompt.proofs.Plays.{all_left, broke_there, ended_there, heard_out, one_more}
use Rattle.zprompt.proofs.prompt.answer_prompts.Goals as goal

pub prompts-init : goal.prompts-init
prompts-init g c =
    let there = c.args.world.now in
    let left = g.R.Source.remaining there.reader.now in
    let unheard = ap (λ (lines : Ahead). unused lines left) c.new-lines.ensures ∙ all_left left in
    record {
      play = g.met.M.Promptable.itself _;
      devices = record { reader = refl; writer = refl; store = refl; words = refl };
      kept = search rules;
      ended = search rules;
      flushed = search rules;
      unread = refl;
      quiet = refl;
      so_far = (
        0,
        search rules,
        (
          [],
          g.met.S.SaveStore.itself _,
          λ before. ap₂ (λ (turns : List State) (input : Option (List ℕ)). at g.R.Source.remaining g.G.Words.coming g.S.SaveStore.kept g.S.SaveStore.failures g.W.Sink.contents (g.M.Promptable.state c.args.machine.now) turns input there before) c.new-turns.ensures unheard,
        ),
      );
    }

pub prompts-preserved : goal.prompts-preserved
prompts-preserved g c =
    let so_far = c.prompts.invariant in
    let m = c.args.machine.now in
    let first = at_first g.R.Source.remaining g.G.Words.coming g.S.SaveStore.kept g.S.SaveStore.failures g.W.Sink.contents (g.M.Promptable.state m) c.args.world.now in
    let before = at_prompt g.R.Source.remaining g.G.Words.coming g.S.SaveStore.kept g.S.SaveStore.failures g.W.Sink.contents (g.M.Promptable.state c.prompts.machine) c.prompts.turns c.prompts.lines c.prompts.world in
    let now = at_prompt g.R.Source.remaining g.G.Words.coming g.S.SaveStore.kept g.S.SaveStore.failures g.W.Sink.contents (g.M.Promptable.state c.answer_line.new.machine) c.answer_line.new.turns c.answer_line.new.lines c.answer_line.new.world in
    let e = c.in-Ok-None.ensures in
    let answers = rw c.in-Ok-None.field-0-is at e.answers in
    let more = c.prompts-test.true in
    let n = so_far.so_far.1 in
    record {
      play = g.met.M.Promptable.through _ _ _ so_far.play e.play;
      devices = search rules;
      kept = e.kept;
      ended = e.ended;
      flushed = search rules;
      unread = search rules;
      quiet = search rules;
      so_far = (
        suc so_far.so_far.0,
        omega (arith, n, more),
        one_more g.S.SaveStore.Follows g.met.S.SaveStore.through g.M.Promptable.Wants c.args.options (g.M.Promptable.setting m) (g.M.Promptable.Takes m) (g.M.Promptable.setting c.prompts.machine) (g.M.Promptable.Takes c.prompts.machine) (g.met.M.Promptable.same_answers _ _ so_far.play c.args.options) _ _ _ so_far.so_far.0 first before now so_far.so_far.2 answers,
      );
    }

pub returns-in-Ok-Some-clause-comes : goal.returns-in-Ok-Some-clause-comes
returns-in-Ok-Some-clause-comes g c =
    let so_far = c.prompts.invariant in
    let m = c.args.machine.now in
    let first = at_first g.R.Source.remaining g.G.Words.coming g.S.SaveStore.kept g.S.SaveStore.failures g.W.Sink.contents (g.M.Promptable.state m) c.args.world.now in
    let before = at_prompt g.R.Source.remaining g.G.Words.coming g.S.SaveStore.kept g.S.SaveStore.failures g.W.Sink.contents (g.M.Promptable.state c.prompts.machine) c.prompts.turns c.prompts.lines c.prompts.world in
    let last = at_first g.R.Source.remaining g.G.Words.coming g.S.SaveStore.kept g.S.SaveStore.failures g.W.Sink.contents (g.M.Promptable.state c.answer_line.new.machine) c.answer_line.new.world in
    let answers = rw c.in-Ok-Some.field-0-is at c.in-Ok-Some.ensures.answers in
    ended_there g.S.SaveStore.Follows g.met.S.SaveStore.through g.M.Promptable.Wants c.args.options (g.M.Promptable.setting m) (g.M.Promptable.Takes m) (g.M.Promptable.setting c.prompts.machine) (g.M.Promptable.Takes c.prompts.machine) (g.met.M.Promptable.same_answers _ _ so_far.play c.args.options) _ _ _ so_far.so_far.0 first before last c.answer_line.new.turns (unused c.answer_line.new.lines (g.R.Source.remaining c.answer_line.new.world.reader.now)) c.in-Ok-Some.end so_far.so_far.2 answers

pub returns-in-Err-clause-comes : goal.returns-in-Err-clause-comes
returns-in-Err-clause-comes g c =
    let so_far = c.prompts.invariant in
    let m = c.args.machine.now in
    let first = at_first g.R.Source.remaining g.G.Words.coming g.S.SaveStore.kept g.S.SaveStore.failures g.W.Sink.contents (g.M.Promptable.state m) c.args.world.now in
    let before = at_prompt g.R.Source.remaining g.G.Words.coming g.S.SaveStore.kept g.S.SaveStore.failures g.W.Sink.contents (g.M.Promptable.state c.prompts.machine) c.prompts.turns c.prompts.lines c.prompts.world in
    let last = at_first g.R.Source.remaining g.G.Words.coming g.S.SaveStore.kept g.S.SaveStore.failures g.W.Sink.contents (g.M.Promptable.state c.answer_line.new.machine) c.answer_line.new.world in
    broke_there g.S.SaveStore.Follows g.met.S.SaveStore.through g.M.Promptable.Wants c.args.options (g.M.Promptable.setting m) (g.M.Promptable.Takes m) (g.M.Promptable.setting c.prompts.machine) (g.M.Promptable.Takes c.prompts.machine) (g.met.M.Promptable.same_answers _ _ so_far.play c.args.options) _ _ _ so_far.so_far.0 first before last c.answer_line.new.turns (unused c.answer_line.new.lines (g.R.Source.remaining c.answer_line.new.world.reader.now)) c.in-Err.error so_far.so_far.2 c.in-Err.ensures.answers

pub returns-clause-comes : goal.returns-clause-comes
returns-clause-comes g c =
    let so_far = c.prompts.invariant in
    let m = c.args.machine.now in
    let n = so_far.so_far.1 in
    let none = c.prompts-test.false in
    let first = at_first g.R.Source.remaining g.G.Words.coming g.S.SaveStore.kept g.S.SaveStore.failures g.W.Sink.contents (g.M.Promptable.state m) c.args.world.now in
    let last = at_first g.R.Source.remaining g.G.Words.coming g.S.SaveStore.kept g.S.SaveStore.failures g.W.Sink.contents (g.M.Promptable.state c.prompts.machine) c.prompts.world in
    heard_out g.S.SaveStore.Follows g.met.S.SaveStore.through g.M.Promptable.Wants c.args.options (g.M.Promptable.setting m) (g.M.Promptable.Takes m) _ _ so_far.so_far.0 first last c.prompts.turns (unused c.prompts.lines (g.R.Source.remaining c.prompts.world.reader.now)) (omega (arith, n, none)) so_far.so_far.2

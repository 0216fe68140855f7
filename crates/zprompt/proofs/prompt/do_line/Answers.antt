use Rattle.std.proofs.Common.{ℕ, List, [], ◌++◌, refl, subst}
use Rattle.zprompt.specs.Prompts.{Plays, at_line, played_of}
use Rattle.zprompt.proofs.Plays.{of_turn}
use Rattle.zprompt.proofs.prompt.do_line.Goals as goal

pub returns-in-None-clause-comes : goal.returns-in-None-clause-comes
returns-in-None-clause-comes g c =
    let m = c.args.machine.now in
    let setting = g.M.Promptable.setting m in
    let comes = c.play_on.ensures.comes in
    let before = at_line g.R.Source.remaining g.G.Words.coming g.S.SaveStore.kept g.S.SaveStore.failures g.W.Sink.contents (g.M.Promptable.state m) c.args.turns.now c.args.world.now in
    let now = at_line g.R.Source.remaining g.G.Words.coming g.S.SaveStore.kept g.S.SaveStore.failures g.W.Sink.contents (g.M.Promptable.state c.play_on.new.machine) c.keep.new.self c.play_on.new.world in
    rw c.in-None.is (
      comes.0,
      comes.1,
      λ refusals. of_turn setting (g.M.Promptable.Takes m) (g.M.Promptable.Wants setting) c.args.options c.args.line.now (before refusals) (now (comes.0 ++ refusals)) c.play_on.result c.keep.ensures.keeps
          (subst (λ (bytes : List ℕ). Plays setting (g.M.Promptable.Takes m) (g.M.Promptable.Wants setting) c.args.options bytes (before refusals) (now (comes.0 ++ refusals)) (played_of c.play_on.result)) c.given_of.ensures (comes.2 refusals)),
    )

pub returns-in-None-obey-clause-comes : goal.returns-in-None-obey-clause-comes
returns-in-None-obey-clause-comes g c =
    let quits = c.in-None-obey.ensures.obeys in
    rw c.in-Some.is ([], g.met.S.SaveStore.itself _, λ before. (quits.0, refl, record { state = quits.2; turns = quits.1; words = refl; store = refl; written = refl }))

pub returns-in-Ok-clause-comes : goal.returns-in-Ok-clause-comes
returns-in-Ok-clause-comes g c =
    rw c.in-Some.is
    ([], g.met.S.SaveStore.itself _, λ before. record { answer = c.in-Some-obey.answer; obeys = c.in-Some-obey.ensures.obeys; words = refl; store = refl; written = c.in-Ok.ensures.ok.0 })

pub returns-in-Err-clause-comes : goal.returns-in-Err-clause-comes
returns-in-Err-clause-comes g c =
    let failed = c.in-Err.ensures.err in
    rw c.in-Some.is
    ([], g.met.S.SaveStore.itself _, λ before. (failed.0, record { answer = c.in-Some-obey.answer; obeys = c.in-Some-obey.ensures.obeys; words = refl; store = refl; written = failed.1 }))

use Rattle.std.proofs.Common.{◌∙◌, ℕ, List, [], inl, inr, ap, refl, rules, subst, sym}
use Rattle.std.specs.Prelude.{Option}
use Rattle.zstory.specs.LoadedStory.{LoadedStory}
use Rattle.zperform.specs.Accepting.{HoldsStory}
use Rattle.zperform.specs.Beside.{Excused}
use Rattle.zperform.specs.Excusing.{none_noted}
use Rattle.zperform.specs.Played.{file_of}
use Rattle.zperform.proofs.ExcusingLemmas.{accepted_story, says_nothing, stopped_so}
use Rattle.zperform.proofs.excusing.play_excused.Goals as goal

pub returns-in_err-story-in-None-clause-comes : goal.returns-in_err-story-in-None-clause-comes
returns-in_err-story-in-None-clause-comes g c =
    rw c.in-None.is (Excused none_noted, [], (none_noted, refl, inl (_, stopped_so _ _ c.from_residual.ensures, c.in_err-story-in-None.ensures.refused, refl, refl, refl)), says_nothing c.args.asked.tell (file_of c.args.asked) _)

pub returns-in_err-accepted-in-Some-clause-comes : goal.returns-in_err-accepted-in-Some-clause-comes
returns-in_err-accepted-in-Some-clause-comes g c =
    rw c.in-Some.is (Excused none_noted, [], (none_noted, refl, inl (_, stopped_so _ _ c.from_residual-in_err-accepted-in-Some.ensures, c.in_err-accepted-in-Some.ensures.refused, refl, refl, refl)), says_nothing c.args.asked.tell (file_of c.args.asked) _)

pub returns-in_ok-story-in-None-clause-comes : goal.returns-in_ok-story-in-None-clause-comes
returns-in_ok-story-in-None-clause-comes g c =
    let came = c.play_noting.ensures.comes (g.F.Files.known c.args.devices.now.files.now c.args.story.now) c.in_ok-story-in-None.ensures.held in
    rw c.in-None.is (Excused came.0, came.1, (came.0, refl, inr came.2), came.3)

pub returns-in_ok-accepted-in-Some-clause-comes : goal.returns-in_ok-accepted-in-Some-clause-comes
returns-in_ok-accepted-in-Some-clause-comes g c =
    let known = g.F.Files.known c.args.devices.now.files.now c.args.story.now in
    let holds = subst (λ (s : LoadedStory). HoldsStory known s) (sym c.story-in-Some.ensures) (accepted_story known _ _ c.in_ok-accepted-in-Some.ensures.accepted) in
    let came = c.play_noting-in-Some.ensures.comes known holds in
    rw c.in-Some.is (Excused came.0, came.1, (came.0, refl, inr came.2), came.3)

pub returns-in_ok-accepted-in-Some-clause-files : goal.returns-in_ok-accepted-in-Some-clause-files
returns-in_ok-accepted-in-Some-clause-files g c = record {
  unread = search rules;
  unfailed = search rules;
  kept = search rules;
  spared = λ other another. c.play_noting-in-Some.ensures.spared other another ∙ ap (λ (known : List ℕ → Option (List ℕ)). known other) c.in_ok-accepted-in-Some.ensures.files.kept;
}

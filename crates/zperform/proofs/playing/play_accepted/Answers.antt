use Rattle.std.proofs.Common.{inl, inr, subst}
use Rattle.zperform.specs.Accepting.{IsAcceptedStory}
use Rattle.zperform.specs.declared.accepting.AcceptedStory.{AcceptedStory}
use Rattle.zperform.proofs.MarkLemmas.{ends_of}
use Rattle.zperform.proofs.playing.play_accepted.Goals as goal

pub returns-in-Intervals-clause-comes : goal.returns-in-Intervals-clause-comes
returns-in-Intervals-clause-comes g c =
    let came = c.play_saving.ensures.comes in
    λ story certificate is.
    let accepted = subst (λ (a : AcceptedStory). IsAcceptedStory story certificate a) c.in-Intervals.is is in
    (came.0, inl (ends_of _ _ story certificate c.args.asked.manner _ _ came.0 _ _ _ c.in-Intervals.judged accepted came.1), came.2)

pub returns-clause-comes : goal.returns-clause-comes
returns-clause-comes g c =
    let came = c.play_saving-in-Lists.ensures.comes in
    λ story certificate is.
    let accepted = subst (λ (a : AcceptedStory). IsAcceptedStory story certificate a) c.in-Lists.is is in
    (came.0, inr (ends_of _ _ story certificate c.args.asked.manner _ _ came.0 _ _ _ c.in-Lists.judged accepted came.1), came.2)

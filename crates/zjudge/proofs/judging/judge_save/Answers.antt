use Rattle.std.proofs.Common.{◌≡◌, ◌≤◌, ◌+◌, length, inl, inr, leb-false, leb-true, nat_le, true, false, rules, arith}
use Rattle.zcert.specs.Certificate.{frame_limit}
use Rattle.zrule.specs.Claims.{claims_of}
use Rattle.zstate.specs.State.{scope_only}
use Rattle.zstate.specs.Step.{fetch}
use Rattle.zstate.specs.Saves.{save_place, saves}
use Rattle.zjudge.proofs.Going.{judged_described, judged_place, judged_there, judged_too_deep}
use Rattle.zjudge.proofs.judging.judge_save.Goals as goal

pub returns-then-not-is_save_before-clause-value : goal.returns-then-not-is_save_before-clause-value
returns-then-not-is_save_before-clause-value g c = λ s held.
    let no : saves (fetch (scope_only c.args.listing.now) (save_place c.args.view.now) c.args.story.now.memory) ≡ false = search rules in
    judged_place g.V.Domain.operations (claims_of g.V.Domain.operations c.args.certificate.now) c.args.story.now c.are_known.ensures.sound c.are_known.ensures.counted c.are_known.ensures.globals c.are_known.ensures.facts c.args.listing.now (frame_limit c.args.certificate.now) c.args.view.now c.requires.saved c.are_known.ensures.bytes c.requires.fixed s held no

pub returns-then-not-are_few-clause-value : goal.returns-then-not-are_few-clause-value
returns-then-not-are_few-clause-value g c = λ s held.
    let yes : saves (fetch (scope_only c.args.listing.now) (save_place c.args.view.now) c.args.story.now.memory) ≡ true = search rules in
    let no : nat_le (length c.args.view.now.frames) (frame_limit c.args.certificate.now + 1) ≡ false = search rules in
    inl (judged_too_deep g.V.Domain.operations (claims_of g.V.Domain.operations c.args.certificate.now) c.args.story.now c.are_known.ensures.sound c.are_known.ensures.counted c.are_known.ensures.globals c.are_known.ensures.facts c.args.listing.now (frame_limit c.args.certificate.now) c.args.view.now c.requires.saved c.are_known.ensures.bytes c.requires.fixed s held yes (leb-false _ _ no))

pub returns-then-not-is_described-clause-value : goal.returns-then-not-is_described-clause-value
returns-then-not-is_described-clause-value g c = λ s held.
    let yes : saves (fetch (scope_only c.args.listing.now) (save_place c.args.view.now) c.args.story.now.memory) ≡ true = search rules in
    let some : 1 ≤ c.args.view.now.place = search (rules, arith) in
    let within : nat_le (length c.args.view.now.frames) (frame_limit c.args.certificate.now + 1) ≡ true = search rules in
    let low : length c.args.view.now.frames ≤ frame_limit c.args.certificate.now + 1 = leb-true _ _ within in
    let where_described = judged_described g.V.Domain.operations (claims_of g.V.Domain.operations c.args.certificate.now) c.args.story.now c.are_known.ensures.sound c.are_known.ensures.counted c.are_known.ensures.globals c.are_known.ensures.facts c.args.listing.now (frame_limit c.args.certificate.now) c.args.view.now c.requires.saved c.are_known.ensures.bytes c.requires.fixed s held some low in inr (
      judged_there g.V.Domain.operations (claims_of g.V.Domain.operations c.args.certificate.now) c.args.story.now c.are_known.ensures.sound c.are_known.ensures.counted c.are_known.ensures.globals c.are_known.ensures.facts c.args.listing.now (frame_limit c.args.certificate.now) c.args.view.now c.requires.saved c.are_known.ensures.bytes c.requires.fixed s held yes low,
      λ d. let both = where_described.1 d in search (rules, both),
    )

pub returns-clause-value : goal.returns-clause-value
returns-clause-value g c = λ s held.
    let yes : saves (fetch (scope_only c.args.listing.now) (save_place c.args.view.now) c.args.story.now.memory) ≡ true = search rules in
    let some : 1 ≤ c.args.view.now.place = search (rules, arith) in
    let within : nat_le (length c.args.view.now.frames) (frame_limit c.args.certificate.now + 1) ≡ true = search rules in
    let low : length c.args.view.now.frames ≤ frame_limit c.args.certificate.now + 1 = leb-true _ _ within in
    let where_described = judged_described g.V.Domain.operations (claims_of g.V.Domain.operations c.args.certificate.now) c.args.story.now c.are_known.ensures.sound c.are_known.ensures.counted c.are_known.ensures.globals c.are_known.ensures.facts c.args.listing.now (frame_limit c.args.certificate.now) c.args.view.now c.requires.saved c.are_known.ensures.bytes c.requires.fixed s held some low in (
      judged_there g.V.Domain.operations (claims_of g.V.Domain.operations c.args.certificate.now) c.args.story.now c.are_known.ensures.sound c.are_known.ensures.counted c.are_known.ensures.globals c.are_known.ensures.facts c.args.listing.now (frame_limit c.args.certificate.now) c.args.view.now c.requires.saved c.are_known.ensures.bytes c.requires.fixed s held yes low,
      where_described.0 (search rules),
    )

pub returns-clause-few : goal.returns-clause-few
returns-clause-few g c =
    let within : nat_le (length c.args.view.now.frames) (frame_limit c.args.certificate.now + 1) ≡ true = search rules in
    leb-true _ _ within

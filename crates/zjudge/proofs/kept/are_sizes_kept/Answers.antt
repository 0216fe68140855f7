use Rattle.std.proofs.Common.{ℕ, List, ◌≡◌, length, refl, subst}
use Rattle.zstory.specs.Bytes.{byte_at}
use Rattle.zobj.specs.Properties.{data_end}
use Rattle.std.specs.Prelude.{◌≢◌, ◌<◌}
use Rattle.zjudge.proofs.Closed.{sizes_more, sizes_last}
use Rattle.zjudge.proofs.kept.are_sizes_kept.Goals as goal

pub returns-then-not-is_kept : goal.returns-then-not-is_kept
returns-then-not-is_kept c =
    let parts = sizes_more c.args.story.now c.args.saved.now c.loop-end.at c.in-Some.end (subst (λ (m : List ℕ). byte_at m c.loop-end.at ≢ 0) c.memory.ensures.value c.in-Some.ensures.value.0) (subst (λ (m : List ℕ). c.in-Some.end ≡ data_end m c.loop-end.at) c.memory.ensures.value c.in-Some.ensures.value.1) (subst (λ (m : List ℕ). c.loop-end.at < length m) c.memory.ensures.value c.in-Some.ensures.inside.0) in
    (λ no. absurd cc, λ all. c.if-not-is_kept.ensures.1 (parts.0 (c.loop-end.invariant.0 all)).0)

pub loop-end-preserved : goal.loop-end-preserved
loop-end-preserved c =
    let parts = sizes_more c.args.story.now c.args.saved.now c.loop-end.at c.in-Some.end (subst (λ (m : List ℕ). byte_at m c.loop-end.at ≢ 0) c.memory.ensures.value c.in-Some.ensures.value.0) (subst (λ (m : List ℕ). c.in-Some.end ≡ data_end m c.loop-end.at) c.memory.ensures.value c.in-Some.ensures.value.1) (subst (λ (m : List ℕ). c.loop-end.at < length m) c.memory.ensures.value c.in-Some.ensures.inside.0) in
    (λ all. (parts.0 (c.loop-end.invariant.0 all)).1, λ rest. c.loop-end.invariant.1 (parts.1 (c.if-not-is_kept.ensures.0 refl, rest)))

pub returns : goal.returns
returns c =
    let last = sizes_last c.args.story.now c.args.saved.now c.loop-end.at (subst (λ (m : List ℕ). byte_at m c.loop-end.at ≡ 0) c.memory.ensures.value c.in_default.ensures.value) c.memory.ensures.sound.static_base_within in
    (λ yes. c.loop-end.invariant.1 (last.1 (c.is_kept-2.ensures.0 yes)), λ all. c.is_kept-2.ensures.1 (last.0 (c.loop-end.invariant.0 all)))

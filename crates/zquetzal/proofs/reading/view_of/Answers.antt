use Rattle.std.proofs.Common.{◌≡◌, ℕ, length, true, Result, Ok, sym, ap, ◌∙◌, rules, tests}
use Rattle.zstory.specs.LoadedStory.{static_base}
use Rattle.zquetzal.specs.declared.error.SaveError.{SaveError}
use Rattle.zquetzal.specs.Saved.{Saved}
use Rattle.zquetzal.specs.Reading.{is_of}
use Rattle.zquetzal.specs.View.{seen_parts, frames_in}
use Rattle.zquetzal.proofs.Saves.{stacks_fit, frames_read, all_read}
use Rattle.zquetzal.proofs.reading.view_of.Goals as goal

pub new-requires-clause-counted : goal.new-requires-clause-counted
new-requires-clause-counted c =
    let fit = stacks_fit c.args.bytes.now c.in_ok-body_of.field-0.now (seen_parts c.in_ok-parts.parts) (λ i. search rules) c.in_ok-body_of.ensures c.in_ok-parts.ensures.value in
    (frames_read c.in_ok-parts.parts.stacks.now c.in_ok-frame_count.frame_count fit c.in_ok-frame_count.ensures).count

pub new-requires-clause-frames : goal.new-requires-clause-frames
new-requires-clause-frames c =
    let fit = stacks_fit c.args.bytes.now c.in_ok-body_of.field-0.now (seen_parts c.in_ok-parts.parts) (λ i. search rules) c.in_ok-body_of.ensures c.in_ok-parts.ensures.value in
    (frames_read c.in_ok-parts.parts.stacks.now c.in_ok-frame_count.frame_count fit c.in_ok-frame_count.ensures).are

pub returns : goal.returns
returns c =
    let p = seen_parts c.in_ok-parts.parts in
    let fit = stacks_fit c.args.bytes.now c.in_ok-body_of.field-0.now p (λ i. search rules) c.in_ok-body_of.ensures c.in_ok-parts.ensures.value in
    let frames = frames_read p.stacks c.in_ok-frame_count.frame_count fit c.in_ok-frame_count.ensures in
    let of_story : is_of c.args.story.now p.header ≡ true = sym c.is_of.ensures ∙ search (rules, tests) in
    let long : length p.memory ≡ static_base c.args.story.now = search (rules, tests) in
    let tells : ℕ → Result Saved SaveError = λ place. Ok (record { memory = p.memory; place = place; frames = frames_in p.stacks }) in
    let done : Saved → Result Saved SaveError = λ s. Ok s in
    ap done c.new.ensures ∙ ap tells c.place_of-place.ensures.value ∙ sym (all_read c.args.story.now c.args.bytes.now c.in_ok-body_of.field-0.now p c.in_ok-frame_count.frame_count c.in_ok-body_of.ensures c.in_ok-parts.ensures.value of_story long frames)

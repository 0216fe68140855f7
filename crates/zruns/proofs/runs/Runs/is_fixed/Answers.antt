use Rattle.std.proofs.Common.{◌∙◌, ℕ, ap}
use Rattle.zpairs.specs.Frozen.{FrozenStory}
use Rattle.zpairs.specs.Fixed.{is_fixed}
use Rattle.zruns.proofs.runs.Runs.is_fixed.Goals as goal

pub returns : goal.returns
returns c =
    c.is_fixed.ensures
    ∙ ap (λ (p : ℕ). is_fixed (record { story = c.marked.result.story.now; ranges = c.marked.result.ranges.now }) p) c.from.ensures
    ∙ ap (λ (told : FrozenStory). is_fixed told c.args.address) c.marked.ensures

use Rattle.std.proofs.Common.{refl, subst, ◌+◌}
use Rattle.zpairs.specs.Frozen.{FrozenStory}
use Rattle.zstory.specs.LoadedStory.{IsSound, LoadedStory}
use Rattle.zruns.proofs.Buffers.{free_of, no_end_free}
use Rattle.zruns.proofs.runs.Runs.are_free.Goals as goal

pub returns-then-end-le-PLACES : goal.returns-then-end-le-PLACES
returns-then-end-le-PLACES c = free_of c.args.self.now c.args.from c.args.size (c.args.from + c.args.size) c.piece_cell.result refl c.piece_cell.ensures

pub returns-else-end-le-PLACES : goal.returns-else-end-le-PLACES
returns-else-end-le-PLACES c = no_end_free c.args.self.now c.args.from c.args.size c.requires.from c.if-end-le-PLACES.false (subst (λ (told : FrozenStory). IsSound told.story.memory) c.self.view_is (subst (λ (story : LoadedStory). IsSound story.memory) c.story.ensures c.memory-memory.ensures.sound))

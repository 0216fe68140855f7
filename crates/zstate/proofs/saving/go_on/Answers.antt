use Rattle.std.proofs.Common.{ℕ, List, ◌+◌, ◌*◌, ◌/◌, ◌%◌, ◌∙◌, ap, slice_set, sym}
use Rattle.zstory.specs.Bytes.{byte_at}
use Rattle.zstate.specs.Saves.{taken_memory}
use Rattle.zstate.proofs.saving.go_on.Goals as goal

pub returns-clause-memory : goal.returns-clause-memory
returns-clause-memory c = λ story now is kept.
    c.keep_flags.ensures
    ∙ ap (λ (ms : List ℕ). slice_set ms 17 (byte_at ms 17 / 4 * 4 + c.args.kept % 4)) (c.take_memory.ensures.memory story is)
    ∙ ap (λ (k : ℕ). slice_set (taken_memory story c.args.saved.now) 17 (byte_at (taken_memory story c.args.saved.now) 17 / 4 * 4 + k % 4)) (sym kept)

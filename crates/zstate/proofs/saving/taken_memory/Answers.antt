use Rattle.std.proofs.Common.{◌∙◌, refl, sym}
use Rattle.std.proofs.lemmas.List.{take_at}
use Rattle.zstate.proofs.saving.taken_memory.Goals as goal

pub returns : goal.returns
returns c =
    let loaded = sym (c.as_mut_slice.ensures.value ∙ c.in_ok-memory.ensures ∙ c.memory.ensures.value) in
    take_at c.go_on.new.memory _ c.in_ok-memory.memory.len (c.go_on.ensures.size ∙ c.as_mut_slice.ensures.len) ∙ c.go_on.ensures.memory c.args.story.now c.args.now.now loaded refl

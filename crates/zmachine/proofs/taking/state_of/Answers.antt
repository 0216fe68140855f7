use Rattle.std.proofs.Common.{◌≡◌, rules}
use Rattle.zstory.specs.LoadedStory.{static_base}
use Rattle.zmachine.proofs.Stood.{taken_rest, taken_size}
use Rattle.zmachine.proofs.taking.state_of.Goals as goal

pub copy_memory-requires-clause-size : goal.copy_memory-requires-clause-size
copy_memory-requires-clause-size c = taken_size c.args.story.now c.args.view.now c.in_ok-opened.opened c.in_ok-state.state c.in_ok-state.ensures c.args.memory.now c.requires.size c.memory-loaded.ensures.sound c.requires.saved

pub copy_memory-requires-clause-rest : goal.copy_memory-requires-clause-rest
copy_memory-requires-clause-rest c =
    let end : c.from_be_bytes-end.result ≡ static_base c.args.story.now = search rules in
    taken_rest c.args.story.now c.args.view.now c.in_ok-opened.opened c.in_ok-state.state c.in_ok-state.ensures c.args.memory.now c.requires.size c.memory-loaded.ensures.sound c.requires.saved c.from_be_bytes-end.result end c.requires.loaded

use Rattle.std.proofs.Common.{◌+◌, ◌*◌, refl, arith}
use Rattle.zstory.specs.LoadedStory.{globals, object_table, abbreviations, static_base}
use Rattle.zpairs.proofs.Marking.{all_marked, same_piece, same_table}
use Rattle.zpairs.proofs.closed.mark_closed.Goals as goal

pub returns : goal.returns
returns c =
    let story = c.args.story.now in
    let count = c.objects.ensures.value in
    let entries = c.from-entries.ensures in
    all_marked (record { story = story; ranges = c.args.ranges.now }) c.mark_ranges.new.marks c.mark_header.new.marks c.mark.new.marks c.mark-2.new.marks c.mark_frames.new.marks c.mark_abbreviations.new.marks c.memory-memory.ensures.sound c.memory-memory.ensures.counted c.mark_ranges.ensures c.mark_header.ensures
    (same_piece c.mark_header.new.marks c.mark.new.marks c.globals.result 480 (globals story) 480 c.globals.ensures.value refl c.mark.ensures)
    (same_piece c.mark.new.marks c.mark-2.new.marks c.object_table.result (62 + 9 * c.from-entries.result) (object_table story) (62 + 9 * story.objects) c.object_table.ensures.value (omega (arith, count, entries)) c.mark-2.ensures)
    c.mark_frames.ensures
    (same_table c.mark_frames.new.marks c.mark_abbreviations.new.marks c.memory-memory.result.now story.memory c.abbreviations.result (abbreviations story) c.static_base.result (static_base story) c.memory-memory.ensures.value c.abbreviations.ensures.value c.static_base.ensures.value c.mark_abbreviations.ensures)

use Rattle.std.proofs.Common.{◌*◌, arith, rules}
use Rattle.zplace.proofs.Each.{text_where}
use Rattle.zplace.proofs.property_tables.text_leaves_data.Goals as goal

pub returns : goal.returns
returns c =
    let inside = c.if-entry-min.false in
    let least = c.min.ensures in
    let bytes = c.from_be_bytes.ensures in
    let word = c.from-place.ensures in
    let same = text_where c.args.story.now c.memory-memory.result.now c.args.entry (2 * c.from-place.result) c.read_length-size.result c.memory-memory.ensures.value (search (rules, arith, inside, least)) (omega (arith, bytes, word)) c.read_length-size.ensures in
    (λ yes. same.0 (c.leaves_data.ensures.0 yes), λ leaves. c.leaves_data.ensures.1 (same.1 leaves))

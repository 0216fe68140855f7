use Rattle.std.proofs.Common.{arith}
use Rattle.std.proofs.lemmas.Nat.{column_fits}
use Rattle.zstory.proofs.dictionary.Entries.encoded_text.Goals as goal

pub read_u32-requires : goal.read_u32-requires
read_u32-requires c =
    let entries = c.args.self.now in
    let fits = column_fits entries.length c.args.entry entries.length entries.count (omega arith) (omega arith) in
    grind (arith)

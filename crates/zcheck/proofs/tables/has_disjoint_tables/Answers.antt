use Rattle.std.proofs.Common.{rules}
use Rattle.zcheck.specs.Tables.{IsFrozenApart}
use Rattle.zcheck.proofs.Apart.{tables_where, each_of}
use Rattle.zcheck.proofs.tables.has_disjoint_tables.Goals as goal

pub returns-then-are_tables_apart : goal.returns-then-are_tables_apart
returns-then-are_tables_apart g c =
    let tables = tables_where c.args.story.now c.args.certificate.now.ranges c.ranges-then-are_tables_apart.ensures.keeps.ranges in
    let each = each_of (IsFrozenApart c.args.story.now) c.args.certificate.now.ranges in
    search (rules, tables, each)

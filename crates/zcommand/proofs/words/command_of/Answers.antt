use Rattle.std.proofs.Common.{refl}
use Rattle.clap.specs.Words.{subcommand_rows_of}
use Rattle.zcommand.proofs.Matched.{low_if_read, rows_named}
use Rattle.zcommand.proofs.words.command_of.Goals as goal

pub returns-in-Some-clause-read : goal.returns-in-Some-clause-read
returns-in-Some-clause-read c = rw (rows_named _ _ _ (c.in-Some.ensures.found.0 refl) c.in-Some.ensures.rows) c.list_of.ensures

pub returns-in-Some-clause-low : goal.returns-in-Some-clause-low
returns-in-Some-clause-low c = low_if_read (subcommand_rows_of c.args.matches.now) c.list_of.result (returns-in-Some-clause-read c)

pub returns-in-Some-subcommand_matches-clause-read : goal.returns-in-Some-subcommand_matches-clause-read
returns-in-Some-subcommand_matches-clause-read c = rw (rows_named _ _ _ (c.in-Some-subcommand_matches.ensures.found.0 refl) c.in-Some-subcommand_matches.ensures.rows) c.find_of.ensures

pub returns-in-Some-subcommand_matches-clause-low : goal.returns-in-Some-subcommand_matches-clause-low
returns-in-Some-subcommand_matches-clause-low c = low_if_read (subcommand_rows_of c.args.matches.now) c.find_of.result (returns-in-Some-subcommand_matches-clause-read c)

pub returns-in-Some-subcommand_matches-2-clause-read : goal.returns-in-Some-subcommand_matches-2-clause-read
returns-in-Some-subcommand_matches-2-clause-read c = rw (rows_named _ _ _ (c.in-Some-subcommand_matches-2.ensures.found.0 refl) c.in-Some-subcommand_matches-2.ensures.rows) c.check_of.ensures

pub returns-in-Some-subcommand_matches-2-clause-low : goal.returns-in-Some-subcommand_matches-2-clause-low
returns-in-Some-subcommand_matches-2-clause-low c = low_if_read (subcommand_rows_of c.args.matches.now) c.check_of.result (returns-in-Some-subcommand_matches-2-clause-read c)

pub returns-in-Some-subcommand_matches-3-clause-read : goal.returns-in-Some-subcommand_matches-3-clause-read
returns-in-Some-subcommand_matches-3-clause-read c = rw (rows_named _ _ _ (c.in-Some-subcommand_matches-3.ensures.found.0 refl) c.in-Some-subcommand_matches-3.ensures.rows) c.show_of.ensures

pub returns-in-Some-subcommand_matches-3-clause-low : goal.returns-in-Some-subcommand_matches-3-clause-low
returns-in-Some-subcommand_matches-3-clause-low c = low_if_read (subcommand_rows_of c.args.matches.now) c.show_of.result (returns-in-Some-subcommand_matches-3-clause-read c)

pub returns-in-Some-subcommand_matches-4-clause-read : goal.returns-in-Some-subcommand_matches-4-clause-read
returns-in-Some-subcommand_matches-4-clause-read c = rw (rows_named _ _ _ (c.in-Some-subcommand_matches-4.ensures.found.0 refl) c.in-Some-subcommand_matches-4.ensures.rows) c.play_of.ensures

pub returns-in-Some-subcommand_matches-4-clause-low : goal.returns-in-Some-subcommand_matches-4-clause-low
returns-in-Some-subcommand_matches-4-clause-low c = low_if_read (subcommand_rows_of c.args.matches.now) c.play_of.result (returns-in-Some-subcommand_matches-4-clause-read c)

pub returns-in-Some-subcommand_matches-5-clause-read : goal.returns-in-Some-subcommand_matches-5-clause-read
returns-in-Some-subcommand_matches-5-clause-read c = rw (rows_named _ _ _ (c.in-Some-subcommand_matches-5.ensures.found.0 refl) c.in-Some-subcommand_matches-5.ensures.rows) c.info_of.ensures

pub returns-in-Some-subcommand_matches-5-clause-low : goal.returns-in-Some-subcommand_matches-5-clause-low
returns-in-Some-subcommand_matches-5-clause-low c = low_if_read (subcommand_rows_of c.args.matches.now) c.info_of.result (returns-in-Some-subcommand_matches-5-clause-read c)

pub returns-in-Some-subcommand_matches-6-clause-read : goal.returns-in-Some-subcommand_matches-6-clause-read
returns-in-Some-subcommand_matches-6-clause-read c = rw (rows_named _ _ _ (c.in-Some-subcommand_matches-6.ensures.found.0 refl) c.in-Some-subcommand_matches-6.ensures.rows) c.explain_of.ensures

pub returns-in-Some-subcommand_matches-6-clause-low : goal.returns-in-Some-subcommand_matches-6-clause-low
returns-in-Some-subcommand_matches-6-clause-low c = low_if_read (subcommand_rows_of c.args.matches.now) c.explain_of.result (returns-in-Some-subcommand_matches-6-clause-read c)

pub returns-clause-read : goal.returns-clause-read
returns-clause-read c = rw (rows_named _ _ _ (c.in-Some-subcommand_matches-7.ensures.found.0 refl) c.in-Some-subcommand_matches-7.ensures.rows) c.unpack_of.ensures

pub returns-clause-low : goal.returns-clause-low
returns-clause-low c = low_if_read (subcommand_rows_of c.args.matches.now) c.unpack_of.result (returns-clause-read c)

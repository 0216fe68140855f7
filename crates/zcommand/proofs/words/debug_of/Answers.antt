use Rattle.clap.specs.Words.{found_of, subcommand_rows_of}
use Rattle.zcommand.proofs.Matched.{debug_given}
use Rattle.zcommand.proofs.words.debug_of.Goals as goal

pub returns-in-Some : goal.returns-in-Some
returns-in-Some c = debug_given (found_of c.in-Some.command.now) (subcommand_rows_of c.args.matches.now) _ c.get_str.ensures c.in-Some.ensures.rows

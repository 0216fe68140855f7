use Rattle.std.proofs.Common.{codes}
use Rattle.clap.specs.Words.{found_of}
use Rattle.zcommand.proofs.Matched.{flag_read}
use Rattle.zcommand.proofs.words.is_json_asked.Goals as goal

pub returns : goal.returns
returns c = flag_read (codes "json") _ (found_of c.args.matches.now) _ _ c.get_one.ensures.none c.get_one.ensures.value c.unwrap_or.ensures

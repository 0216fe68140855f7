use Rattle.clap.specs.Words.{found_of}
use Rattle.zcommand.proofs.Matched.{files_read}
use Rattle.zcommand.proofs.words.files_of.Goals as goal

pub returns : goal.returns
returns c = files_read (found_of c.args.matches.now) _ _ c.get_strs.ensures c.unwrap_or_default.ensures

use Rattle.std.proofs.Common.{refl}
use Rattle.clap.specs.Words.{found_of}
use Rattle.zcommand.proofs.Matched.{code_given}
use Rattle.zcommand.proofs.words.explain_of.Goals as goal

pub returns : goal.returns
returns c = (refl, code_given (found_of c.args.matches.now) _ c.get_str-code.ensures, c.is_json_asked-json.ensures)

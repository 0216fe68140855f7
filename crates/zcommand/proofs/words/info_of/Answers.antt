use Rattle.std.proofs.Common.{refl}
use Rattle.clap.specs.Words.{found_of}
use Rattle.zcommand.proofs.Matched.{story_read}
use Rattle.zcommand.proofs.words.info_of.Goals as goal

pub returns : goal.returns
returns c = (refl, story_read (found_of c.args.matches.now) _ _ _ c.get_str.ensures refl c.unwrap_or-story.ensures, c.is_json_asked-json.ensures)

use Rattle.std.proofs.Common.{refl}
use Rattle.clap.specs.Words.{found_of}
use Rattle.zcommand.proofs.Matched.{certificate_given, story_read}
use Rattle.zcommand.proofs.words.list_of.Goals as goal

pub returns : goal.returns
returns c =
    let found = found_of c.args.matches.now in
    (refl, story_read found _ _ _ c.get_str.ensures refl c.unwrap_or-story.ensures, certificate_given found _ c.get_str-certificate.ensures, c.is_json_asked-json.ensures)

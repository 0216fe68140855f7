use Rattle.std.proofs.Common.{refl}
use Rattle.clap.specs.Words.{found_of}
use Rattle.zcommand.proofs.Matched.{address_given, certificate_read, story_read}
use Rattle.zcommand.proofs.words.show_of.Goals as goal

pub returns : goal.returns
returns c =
    let found = found_of c.args.matches.now in
    (refl, story_read found _ _ _ c.get_str.ensures refl c.unwrap_or-story.ensures, certificate_read found _ _ _ c.get_str-2.ensures refl c.unwrap_or-certificate.ensures, address_given found _ c.get_str-address.ensures)

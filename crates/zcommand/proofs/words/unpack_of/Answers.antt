use Rattle.std.proofs.Common.{codes, refl}
use Rattle.clap.specs.Words.{found_of}
use Rattle.zcommand.proofs.Matched.{flag_read, out_read, packed_read, story_read}
use Rattle.zcommand.proofs.words.unpack_of.Goals as goal

pub returns : goal.returns
returns c =
    let found = found_of c.args.matches.now in
    (refl, story_read found _ _ _ c.get_str.ensures refl c.unwrap_or-story.ensures, packed_read found _ _ _ c.get_str-2.ensures refl c.unwrap_or-save.ensures, out_read found _ _ _ c.get_str-3.ensures refl c.unwrap_or-out.ensures, flag_read (codes "force") _ found _ _ c.get_one.ensures.none c.get_one.ensures.value c.unwrap_or-force.ensures)

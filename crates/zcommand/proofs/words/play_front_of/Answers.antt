use Rattle.std.proofs.Common.{codes}
use Rattle.clap.specs.Words.{found_of}
use Rattle.zcommand.proofs.Matched.{flag_read, front_read}
use Rattle.zcommand.proofs.words.play_front_of.Goals as goal

pub returns : goal.returns
returns c =
    let found = found_of c.args.matches.now in
    let plain = flag_read (codes "plain") _ found _ _ c.get_one.ensures.none c.get_one.ensures.value c.unwrap_or-plain.ensures in
    let no_save = flag_read (codes "no-save") _ found _ _ c.get_one-2.ensures.none c.get_one-2.ensures.value c.unwrap_or-no_save.ensures in
    let commands = flag_read (codes "commands") _ found _ _ c.get_one-3.ensures.none c.get_one-3.ensures.value c.unwrap_or-commands.ensures in
    front_read found _ c.width_of-width.ensures plain c.get_str-transcript.ensures c.get_str-record.ensures c.get_str-replay.ensures no_save commands

use Rattle.std.proofs.Common.{◌≡◌, ◌∙◌, None, ap, codes, refl, sym}
use Rattle.clap.specs.Words.{found_of, rows_of}
use Rattle.zcommand.specs.CommandLine.{files_of, output_of}
use Rattle.zcommand.proofs.Matched.{flag_read, names_of, no_output, no_target, no_target_there, output_given, output_there, target_read}
use Rattle.zcommand.proofs.words.find_of.Goals as goal
use Rattle.zcommand.proofs.words.find_of.Goals.{else-is_none-via-then-is_none+else-is_some, else-is_none-via-else-is_none}

pub returns-then-is_some : goal.returns-then-is_some
returns-then-is_some c =
    let found = found_of c.args.matches.now in
    let output = output_given found _ c.get_str-output.ensures in
    let read = target_read _ (files_of (rows_of found)) _ (output_of (rows_of found)) _ c.target_of-target.ensures c.files_of-stories.ensures output in
    (refl, sym read ∙ no_target _ _ c.is_none.ensures c.if-is_none.true, output_there _ _ _ c.is_some.ensures c.if-is_some.true output)

pub returns-in-Some : goal.returns-in-Some
returns-in-Some c =
    let found = found_of c.args.matches.now in
    let output = output_given found _ c.get_str-output.ensures in
    let read = target_read _ (files_of (rows_of found)) _ (output_of (rows_of found)) _ c.target_of-target.ensures c.files_of-stories.ensures output in
    (refl, sym read ∙ ap names_of c.in-Some.is, (c.frames_of-frames.ensures, flag_read (codes "strict") _ found _ _ c.get_one.ensures.none c.get_one.ensures.value c.unwrap_or-strict.ensures, flag_read (codes "places") _ found _ _ c.get_one-2.ensures.none c.get_one-2.ensures.value c.unwrap_or-places.ensures, flag_read (codes "force") _ found _ _ c.get_one-3.ensures.none c.get_one-3.ensures.value c.unwrap_or-force.ensures, c.is_json_asked-json.ensures))

pub returns-in-None : goal.returns-in-None
returns-in-None c =
    let found = found_of c.args.matches.now in
    let output = output_given found _ c.get_str-output.ensures in
    let read = target_read _ (files_of (rows_of found)) _ (output_of (rows_of found)) _ c.target_of-target.ensures c.files_of-stories.ensures output in
    let none : output_of (rows_of found) ≡ None = elim c.else-is_none.branch [
      | else-is_none-via-then-is_none+else-is_some w ↦ no_output _ _ _ w.is_some.ensures w.if-is_some.false output
      | else-is_none-via-else-is_none w ↦ absurd (no_target_there _ _ c.is_none.ensures w.if-is_none.false c.in-None.is)
    ] in
    (refl, sym read ∙ ap names_of c.in-None.is, none, c.files_of-stories.ensures, (c.frames_of-frames.ensures, flag_read (codes "strict") _ found _ _ c.get_one.ensures.none c.get_one.ensures.value c.unwrap_or-strict.ensures, flag_read (codes "places") _ found _ _ c.get_one-2.ensures.none c.get_one-2.ensures.value c.unwrap_or-places.ensures, flag_read (codes "force") _ found _ _ c.get_one-3.ensures.none c.get_one-3.ensures.value c.unwrap_or-force.ensures, c.is_json_asked-json.ensures))

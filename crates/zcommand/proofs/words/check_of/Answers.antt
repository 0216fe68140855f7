use Rattle.std.proofs.Common.{◌∙◌, ap, refl, sym}
use Rattle.clap.specs.Words.{found_of, rows_of}
use Rattle.zcommand.specs.CommandLine.{files_of}
use Rattle.zcommand.proofs.Matched.{names_of, pair_read}
use Rattle.zcommand.proofs.words.check_of.Goals as goal

pub returns-in-Some : goal.returns-in-Some
returns-in-Some c =
    let read = pair_read _ (files_of (rows_of (found_of c.args.matches.now))) _ c.pair_of.ensures c.files_of-stories.ensures in
    (refl, sym read ∙ ap names_of c.in-Some.is, c.is_json_asked-json.ensures)

pub returns-in-None : goal.returns-in-None
returns-in-None c =
    let read = pair_read _ (files_of (rows_of (found_of c.args.matches.now))) _ c.pair_of.ensures c.files_of-stories.ensures in
    (refl, sym read ∙ ap names_of c.in-None.is, c.files_of-stories.ensures, c.is_json_asked-json.ensures)

use Rattle.zcommand.proofs.Entered.{no_fault, command_fails, command_named, rows_same}
use Rattle.zcommand.proofs.words.read_words.Goals as goal

pub returns-in_err-matches-clause-fails : goal.returns-in_err-matches-clause-fails
returns-in_err-matches-clause-fails c = command_fails _ _ _ _ c.in_ok-program.ensures c.in_err-matches.ensures.kinds c.from_residual-in_err-matches.ensures

pub returns-clause-read : goal.returns-clause-read
returns-clause-read c =
    let parsed = c.in_ok-matches.ensures in
    rows_same _ _ _ c.in_ok-program.ensures parsed.kinds parsed.matches

pub returns-clause-named : goal.returns-clause-named
returns-clause-named c =
    let parsed = c.in_ok-matches.ensures in
    command_named _ _ _ c.in_ok-program.ensures parsed.kinds parsed.matches

pub returns-clause-fails : goal.returns-clause-fails
returns-clause-fails c = no_fault _ c.in_ok-matches.matches _ c.in_ok-program.ensures c.in_ok-matches.ensures.kinds

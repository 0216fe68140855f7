use Rattle.std.proofs.Common.{List, Option, subst, sym, IsSomeAnd}
use Rattle.clap.specs.Words.{Row, Text}
use Rattle.zcommand.specs.CommandLine.{Asks, request_of}
use Rattle.zperform.proofs.PerformLemmas.{performs_request, performs_lacking, told_same, writer_as_seen}
use Rattle.zperform.proofs.performing.perform.Goals as goal

pub returns-in-Err-clause-performs : goal.returns-in-Err-clause-performs
returns-in-Err-clause-performs g c = λ none. performs_lacking _ _ _ _ _ _ none (c.explain.ensures _ _ _ c.in-Err.ensures.fails)

pub returns-in-Err-clause-explains : goal.returns-in-Err-clause-explains
returns-in-Err-clause-explains g c = λ some. c.explain.ensures _ _ _ c.in-Err.ensures.fails

pub returns-in-Ok-clause-performs : goal.returns-in-Ok-clause-performs
returns-in-Ok-clause-performs g c = λ none.
    let did = c.carry_out-outcome.ensures in
    performs_request _ _ _ _ _ _ c.carry_out-outcome.result (writer_as_seen g.W.Sink.contents g.W.Sink.failures g.W.Sink.waits c.args.writer.now c.carry_out-outcome.new.writer _ did.writer) did.reader _ (rw (sym c.blame.ensures) c.report.ensures)
    (request_of c.command_of-asked.result) (request_of c.spoken-command.result) c.spoken-command.ensures.request did.comes.0 did.comes.1 did.comes.3 (λ one. let files = did.files one in record { unread = files.unread; unfailed = files.unfailed; kept = files.kept; spared = files.spared }) did.could did.blamed (λ idle. told_same g.R.Source.remaining g.R.Source.failures c.args.reader.now c.carry_out-outcome.new.reader (did.unasked idle)) did.comes.2 (subst (λ (o : Option (Text × List Row)). IsSomeAnd o (λ matches. Asks matches (request_of c.command_of-asked.result))) c.in-Ok.ensures.read c.command_of-asked.ensures.read)

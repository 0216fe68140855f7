use Rattle.std.proofs.Common.{◌∙◌, sym}
use Rattle.zfront.proofs.Tellings.{holds}
use Rattle.zfront.proofs.told_lines.ToldLines.take.Goals as goal

-- a line is held: the sink below isn't touched
pub returns-in-Ok-clause-ok : goal.returns-in-Ok-clause-ok
returns-in-Ok-clause-ok g c =
    holds _ _ _ c.hold.new.self c.args.piece.now c.in-Ok.count c.requires.nothing_decided (sym c.is_passing.ensures ∙ c.if-is_passing.false) c.in-Ok.ensures.count c.in-Ok.ensures.held

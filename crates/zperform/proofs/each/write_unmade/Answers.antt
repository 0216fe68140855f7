use Rattle.std.proofs.Common.{◌++◌, ◌∷◌, [], Bool, codes, rules, subst, sym}
use Rattle.zperform.specs.Devices.{Writes, seen}
use Rattle.zperform.specs.Each.{unmade_text}
use Rattle.zperform.proofs.EachLemmas.{broke_off, written_behind}
use Rattle.zperform.proofs.each.write_unmade.Goals as goal

pub returns-then-json : goal.returns-then-json
returns-then-json g c = rw c.if-json.true c.write_and_flush.ensures

pub returns-in_err-write_whole : goal.returns-in_err-write_whole
returns-in_err-write_whole g c =
    let of = seen g.W.Sink.contents g.W.Sink.failures g.W.Sink.waits in
    let begun = c.in_err-write_whole.ensures.begun in
    subst (λ (b : Bool). Writes (of c.args.writer.now) (of c.write_whole.new.sink) (unmade_text b c.args.name.now) c.from_residual.result) (sym c.if-json.false)
    (broke_off (of c.args.writer.now) (of c.write_whole.new.sink) c.args.name.now (codes ": failed: memory" ++ 10 ∷ []) c.from_residual.result c.from_residual.ensures.0 (search (rules, begun)) c.in_err-write_whole.ensures.blamed)

pub returns : goal.returns
returns g c =
    let of = seen g.W.Sink.contents g.W.Sink.failures g.W.Sink.waits in
    subst (λ (b : Bool). Writes (of c.args.writer.now) (of c.write_and_flush-2.new.writer) (unmade_text b c.args.name.now) c.write_and_flush-2.result) (sym c.if-json.false)
    (written_behind (of c.args.writer.now) (of c.write_whole.new.sink) (of c.write_and_flush-2.new.writer) c.args.name.now (codes ": failed: memory" ++ 10 ∷ []) c.write_and_flush-2.result (search rules) (search rules) c.write_and_flush-2.ensures)

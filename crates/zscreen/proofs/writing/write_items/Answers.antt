use Rattle.std.proofs.Common.{◌∙◌, List, ℕ, sym, subst, ap}
use Rattle.std.specs.Prelude.{OnErr, OnOk}
use Rattle.zfault.specs.Devices.{BreaksOff, LeavesWaiting}
use Rattle.zscreen.specs.declared.status_lines.StatusLines.{StatusLines}
use Rattle.zscreen.specs.Rendering.{render}
use Rattle.zscreen.proofs.Marks.{renders_text}
use Rattle.zscreen.proofs.Writes.{begun_of, err_map, ok_map}
use Rattle.zscreen.proofs.writing.write_items.Goals as goal

pub returns-in-Hidden-clause-waiting : goal.returns-in-Hidden-clause-waiting
returns-in-Hidden-clause-waiting g c =
    let same = c.text.ensures ∙ renders_text c.args.items.now.items ∙ ap (λ (lines : StatusLines). render lines c.args.items.now.items) (sym c.in-Hidden.is) in
    subst (λ (bytes : List ℕ). OnOk c.write_piece.result (LeavesWaiting (g.W.Sink.contents c.args.sink.now) (g.W.Sink.contents c.write_piece.new.sink) (g.W.Sink.waits c.args.sink.now) (g.W.Sink.waits c.write_piece.new.sink) bytes)) same c.write_piece.ensures.ok

pub returns-in-Hidden-clause-broken_off : goal.returns-in-Hidden-clause-broken_off
returns-in-Hidden-clause-broken_off g c =
    let same = c.text.ensures ∙ renders_text c.args.items.now.items ∙ ap (λ (lines : StatusLines). render lines c.args.items.now.items) (sym c.in-Hidden.is) in
    subst (λ (bytes : List ℕ). OnErr c.write_piece.result (BreaksOff (g.W.Sink.contents c.args.sink.now) (g.W.Sink.contents c.write_piece.new.sink) (g.W.Sink.waits c.args.sink.now) (g.W.Sink.waits c.write_piece.new.sink) bytes)) same c.write_piece.ensures.begun

pub returns-in-Hidden-clause-ok : goal.returns-in-Hidden-clause-ok
returns-in-Hidden-clause-ok g c = ok_map c.write_piece.result (λ whole. whole.grown) (returns-in-Hidden-clause-waiting g c)

pub returns-in-Hidden-clause-begun : goal.returns-in-Hidden-clause-begun
returns-in-Hidden-clause-begun g c = err_map c.write_piece.result (begun_of _ _ _ _ _) (returns-in-Hidden-clause-broken_off g c)

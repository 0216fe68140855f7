use Rattle.std.proofs.Common.{◌∙◌, ◌++◌, ◌-◌, length, reverse, subst, ap, arith}
use Rattle.std.specs.Prelude.{take, drop, slice_range}
use Rattle.zfault.specs.Devices.{BreaksOff, LeavesWaiting}
use Rattle.zfault.proofs.DeviceLemmas.{BreaksOff-after, LeavesWaiting-after}
use Rattle.zscreen.specs.Rendering.{render, status_shown}
use Rattle.zscreen.proofs.Marks.{before, shown_to, stands_in, items_in, next_within, next_behind, next_place, next_shown, next_begins, all_shown}
use Rattle.zscreen.proofs.Writes.{on_err, ok_map, err_map}
use Rattle.zscreen.proofs.writing.write_with_status.Goals as goal

pub write_up_to-requires-clause-order : goal.write_up_to-requires-clause-order
write_up_to-requires-clause-order g c =
    let marks = c.marks-mark-items.result.now in
    let text = c.text-text.result.now in
    let stands = stands_in text c.args.items.now.items (reverse marks) c.text-text.ensures c.marks-mark-items.ensures.order in
    let behind = next_behind text marks c.loop-mark.mark-index c.mark-item.result c.loop-mark-test.true c.mark-item.is stands in
    omega (arith, behind, c.loop-mark.invariant.0)

pub write_up_to-requires-clause-within : goal.write_up_to-requires-clause-within
write_up_to-requires-clause-within g c =
    let marks = c.marks-mark-items.result.now in
    let text = c.text-text.result.now in
    let stands = stands_in text c.args.items.now.items (reverse marks) c.text-text.ensures c.marks-mark-items.ensures.order in
    next_within text marks c.loop-mark.mark-index c.mark-item.result c.loop-mark-test.true c.mark-item.is stands

pub returns-in_err-write_up_to-clause-begun : goal.returns-in_err-write_up_to-clause-begun
returns-in_err-write_up_to-clause-begun g c =
    let marks = c.marks-mark-items.result.now in
    let text = c.text-text.result.now in
    let i = c.loop-mark.mark-index in
    let mark = c.mark-item.result in
    let from = c.loop-mark.written in
    let old = g.W.Sink.contents c.args.sink.now in
    let new = g.W.Sink.contents c.write_up_to.new.sink in
    let waited = g.W.Sink.waits c.args.sink.now in
    let waits = g.W.Sink.waits c.write_up_to.new.sink in
    let stands = stands_in text c.args.items.now.items (reverse marks) c.text-text.ensures c.marks-mark-items.ensures.order in
    let all = items_in text c.args.items.now.items (reverse marks) c.text-text.ensures c.marks-mark-items.ensures.items in
    let more = BreaksOff-after old (g.W.Sink.contents c.loop-mark.sink) new waited (g.W.Sink.waits c.loop-mark.sink) waits (shown_to c.args.lines text from (before i marks)) (slice_range text from mark.place ++ status_shown c.args.lines mark.status) c.loop-mark.invariant.1 c.in_err-write_up_to.ensures.begun in
    let begun = subst (BreaksOff old new waited waits) (next_shown text marks i mark c.loop-mark-test.true c.mark-item.is stands c.args.lines from c.loop-mark.invariant.0) more in
    let of_all = next_begins text marks i mark c.loop-mark-test.true c.mark-item.is stands c.args.lines old new waited waits begun in
    on_err c.from_residual.result (subst (λ given. BreaksOff old new waited waits (render c.args.lines given)) all of_all)

pub loop-mark-preserved : goal.loop-mark-preserved
loop-mark-preserved g c =
    let marks = c.marks-mark-items.result.now in
    let text = c.text-text.result.now in
    let i = c.loop-mark.mark-index in
    let mark = c.mark-item.result in
    let from = c.loop-mark.written in
    let old = g.W.Sink.contents c.args.sink.now in
    let new = g.W.Sink.contents c.write_up_to.new.sink in
    let waited = g.W.Sink.waits c.args.sink.now in
    let waits = g.W.Sink.waits c.write_up_to.new.sink in
    let stands = stands_in text c.args.items.now.items (reverse marks) c.text-text.ensures c.marks-mark-items.ensures.order in
    let more = LeavesWaiting-after old (g.W.Sink.contents c.loop-mark.sink) new waited (g.W.Sink.waits c.loop-mark.sink) waits (shown_to c.args.lines text from (before i marks)) (slice_range text from mark.place ++ status_shown c.args.lines mark.status) c.loop-mark.invariant.1 c.in_ok-write_up_to.ensures.ok in
    let whole = subst (LeavesWaiting old new waited waits) (next_shown text marks i mark c.loop-mark-test.true c.mark-item.is stands c.args.lines from c.loop-mark.invariant.0) more in
    (next_place text marks i mark c.loop-mark-test.true c.mark-item.is stands, whole, c.in_ok-write_up_to.ensures.quiet ∙ c.loop-mark.invariant.2)

pub returns-clause-ok : goal.returns-clause-ok
returns-clause-ok g c =
    let marks = c.marks-mark-items.result.now in
    let text = c.text-text.result.now in
    let from = c.loop-mark.written in
    let old = g.W.Sink.contents c.args.sink.now in
    let new = g.W.Sink.contents c.write_piece.new.sink in
    let waited = g.W.Sink.waits c.args.sink.now in
    let waits = g.W.Sink.waits c.write_piece.new.sink in
    let stands = stands_in text c.args.items.now.items (reverse marks) c.text-text.ensures c.marks-mark-items.ensures.order in
    let all = items_in text c.args.items.now.items (reverse marks) c.text-text.ensures c.marks-mark-items.ensures.items in
    let same = all_shown c.args.lines text marks c.loop-mark.mark-index from (omega (arith, c.loop-mark-test.false)) stands c.loop-mark.invariant.0 ∙ ap (render c.args.lines) all in
    ok_map c.write_piece.result (λ last. subst (LeavesWaiting old new waited waits) same (LeavesWaiting-after old (g.W.Sink.contents c.loop-mark.sink) new waited (g.W.Sink.waits c.loop-mark.sink) waits (shown_to c.args.lines text from (before c.loop-mark.mark-index marks)) (take (length text - from) (drop from text)) c.loop-mark.invariant.1 last)) c.write_piece.ensures.ok

pub returns-clause-begun : goal.returns-clause-begun
returns-clause-begun g c =
    let marks = c.marks-mark-items.result.now in
    let text = c.text-text.result.now in
    let from = c.loop-mark.written in
    let old = g.W.Sink.contents c.args.sink.now in
    let new = g.W.Sink.contents c.write_piece.new.sink in
    let waited = g.W.Sink.waits c.args.sink.now in
    let waits = g.W.Sink.waits c.write_piece.new.sink in
    let stands = stands_in text c.args.items.now.items (reverse marks) c.text-text.ensures c.marks-mark-items.ensures.order in
    let all = items_in text c.args.items.now.items (reverse marks) c.text-text.ensures c.marks-mark-items.ensures.items in
    let same = all_shown c.args.lines text marks c.loop-mark.mark-index from (omega (arith, c.loop-mark-test.false)) stands c.loop-mark.invariant.0 ∙ ap (render c.args.lines) all in
    err_map c.write_piece.result (λ last. subst (BreaksOff old new waited waits) same (BreaksOff-after old (g.W.Sink.contents c.loop-mark.sink) new waited (g.W.Sink.waits c.loop-mark.sink) waits (shown_to c.args.lines text from (before c.loop-mark.mark-index marks)) (take (length text - from) (drop from text)) c.loop-mark.invariant.1 last)) c.write_piece.ensures.begun

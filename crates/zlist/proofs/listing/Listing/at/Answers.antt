use Rattle.std.proofs.Common.{◌≡◌, ◌==◌, List, get_or, ap, sym, ◌∙◌}
use Rattle.zlist.specs.declared.record.Record.{Record}
use Rattle.zlist.specs.Listing.{ListedCode}
use Rattle.zlist.proofs.Tables.{find-at_index, find-at_no_position}
use Rattle.zlist.proofs.listing.Listing.at.Goals as goal

pub returns-in_err-index : goal.returns-in_err-index
returns-in_err-index c =
    rw c.from_residual.ensures (sym (find-at_no_position (λ r. r.address == c.args.address) c.args.self.now.records (sym c.in_err-index.ensures.value)))

pub returns : goal.returns
returns c =
    let k = c.in_ok-index.index in
    let r = c.index.result.now in
    let same : c.self.inside.records.items ≡ c.args.self.now.records = ap (λ (l : ListedCode). l.records) c.self.view_is in
    let read : r ≡ get_or c.args.self.now.records k r = c.index.ensures ∙ ap (λ (xs : List Record). get_or xs k r) same in
    sym (find-at_index (λ s. s.address == c.args.address) c.args.self.now.records k r (sym c.in_ok-index.ensures.value) c.in_ok-index.ensures.within read)

use Rattle.std.proofs.Common.{◌≡◌, Some, subst}
use Rattle.zcert.specs.Certificate.{Certificate as Content}
use Rattle.zcert.specs.Listed.{listed_at, seen}
use Rattle.zcert.proofs.Lookup.{listed}
use Rattle.zcert.proofs.certificate.Certificate.instruction.Goals as goal

pub returns-clause-listed : goal.returns-clause-listed
returns-clause-listed g c =
    let rise = c.self.invariant.instructions_rise in
    subst (λ (v : Content g.row.V.Denot). listed_at v.instructions c.get.result.address ≡ Some (seen c.get.result)) c.self.view_is (listed 0 _ c.args.index (seen c.get.result) rise c.get.ensures)

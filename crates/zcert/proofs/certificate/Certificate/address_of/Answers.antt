use Rattle.std.proofs.Common.{◌≡◌, ◌<◌, length, subst, sym}
use Rattle.std.specs.Prelude.{slice_get}
use Rattle.zcert.specs.Certificate.{Certificate as Content}
use Rattle.zcert.specs.Listed.{listed_at}
use Rattle.zcert.proofs.Lookup.{listed_index}
use Rattle.zcert.proofs.certificate.Certificate.address_of.Goals as goal

pub returns-clause-listed : goal.returns-clause-listed
returns-clause-listed g c =
    let there = c.address_of.ensures in
    subst (λ (v : Content g.row.V.Denot). listed_at v.instructions c.address_of.result ≡ slice_get v.instructions c.args.index) c.self.view_is (listed_index _ c.args.index c.address_of.result c.self.invariant.instructions_rise (subst (λ (v : Content g.row.V.Denot). c.args.index < length v.instructions) (sym c.self.view_is) c.requires) there)

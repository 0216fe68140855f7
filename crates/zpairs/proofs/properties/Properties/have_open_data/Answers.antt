use Rattle.zpairs.specs.declared.cell.Test.TheVariants.{Open}
use Rattle.zpairs.proofs.Each.{pairs_meet}
use Rattle.zpairs.proofs.properties.Properties.have_open_data.Goals as goal

pub returns : goal.returns
returns g c =
    let same = pairs_meet g.V.Domain.operations c.args.self.now Open c.args.objects c.args.numbers in
    (λ yes. same.0 (c.pass.ensures.0 yes), λ all. c.pass.ensures.1 (same.1 all))

use Rattle.std.proofs.Common.{◌≡◌, Some, rules}
use Rattle.zpairs.specs.Pairs.{columns}
use Rattle.zpairs.proofs.Words.{by_columns}
use Rattle.zpairs.proofs.properties.Properties.lists_pass.Goals as goal

pub returns-in-Some : goal.returns-in-Some
returns-in-Some c passed =
    let told : columns c.args.numbers.now ≡ Some c.in-Some.each.now = search rules in
    by_columns c.args.self.now c.args.test c.args.objects.now c.args.numbers.now c.in-Some.each.now told (c.objects_pass.ensures passed)

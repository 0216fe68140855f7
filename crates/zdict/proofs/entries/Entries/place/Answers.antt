use Rattle.std.proofs.Common.{arith}
use Rattle.zdict.proofs.Order.{entry_inside}
use Rattle.zdict.proofs.entries.Entries.place.Goals as goal

pub returns-clause-inside : goal.returns-clause-inside
returns-clause-inside c =
    let entries = c.args.self.now in
    omega (arith, entry_inside entries.memory.now c.args.entry entries.first entries.length entries.count entries.sound entries.first_place entries.one_length entries.all_counted c.requires)

pub returns-clause-word : goal.returns-clause-word
returns-clause-word c =
    let entries = c.args.self.now in
    omega (arith, entry_inside entries.memory.now c.args.entry entries.first entries.length entries.count entries.sound entries.first_place entries.one_length entries.all_counted c.requires)

use Rattle.std.proofs.Common.{◌∙◌, arith}
use Rattle.zstate.proofs.Locals.{argument_is, head_within, initial_is}
use Rattle.zstate.proofs.calling.local_at.Goals as goal

pub returns-in-Some : goal.returns-in-Some
returns-in-Some c =
    let found = c.in-Some.ensures.lookup in
    found.3.1 0 ∙ argument_is c.args.memory.now c.args.arguments.now c.args.place c.args.number c.requires.within found.3.0

pub read_word-requires : goal.read_word-requires
read_word-requires c =
    let within = (head_within c.args.memory.now c.args.place c.requires.head).2 in
    let below = c.requires.within in
    omega (arith, within, below)

pub returns-in-None : goal.returns-in-None
returns-in-None c = c.read_word.ensures ∙ initial_is c.args.memory.now c.args.arguments.now c.args.place c.args.number c.requires.within c.in-None.ensures.lookup.3

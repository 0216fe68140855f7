use Rattle.std.proofs.Common.{length, ap, arith}
use Rattle.std.proofs.lemmas.List.{take_rest}
use Rattle.zdict.proofs.Runs.{next_given, nothing_given}
use Rattle.zdict.proofs.token.TokensIterator.next.Goals as goal

pub returns-then-length-eq0-clause-steps : goal.returns-then-length-eq0-clause-steps
returns-then-length-eq0-clause-steps c =
    let it = c.args.self.now in
    nothing_given it.separators.now it.line.now it.place c.spaces.result c.token_length-length.result (rw take_rest at c.spaces.ensures.value) (rw take_rest at c.token_length-length.ensures.value) c.if-length-eq0.true

pub returns-clause-steps : goal.returns-clause-steps
returns-clause-steps c =
    let it = c.args.self.now in
    rw take_rest (next_given it.separators.now it.line.now it.place c.spaces.result c.token_length-length.result (rw take_rest at c.spaces.ensures.value) (rw take_rest at c.token_length-length.ensures.value) c.if-length-eq0.false)

pub returns-clause-goes : goal.returns-clause-goes
returns-clause-goes c =
    let it = c.args.self.now in
    let step = next_given it.separators.now it.line.now it.place c.spaces.result c.token_length-length.result (rw take_rest at c.spaces.ensures.value) (rw take_rest at c.token_length-length.ensures.value) c.if-length-eq0.false in
    record { on = λ finite. (tt, tt, omega (arith, ap length step)); keeps = tt; rests = λ finite. tt }

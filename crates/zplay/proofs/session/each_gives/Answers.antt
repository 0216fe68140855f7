use Rattle.std.proofs.Common.{◌≡◌, ℕ, List, length, refl, subst, arith}
use Rattle.std.proofs.lemmas.Option.{slice_get_read}
use Rattle.zcert.specs.declared.parts.Routine.{Routine}
use Rattle.zdomain.specs.Domain.{In}
use Rattle.zrule.specs.Claims.{result_of}
use Rattle.zplay.proofs.Giving.{give_each, give_more}
use Rattle.zplay.proofs.session.each_gives.Goals as goal

pub loop-routine-preserved : goal.loop-routine-preserved
loop-routine-preserved g c =
    let routines = c.routines-routine-items.result.now in
    let k = c.loop-routine.routine-index in
    let there = slice_get_read routines (length routines) k c.routine-item.result refl c.loop-routine-test.true c.routine-item.is in
    record { first = give_more g.V.Domain.operations routines k c.member-word.result c.routine-item.result there c.member-word.ensures c.loop-routine.invariant.first }

pub returns : goal.returns
returns g c =
    let o = g.V.Domain.operations in
    let routines = c.routines-routine-items.result.now in
    let same : routines ≡ c.args.accepted.now.certificate.routines = rw c.certificate.ensures.value at c.routines-routine-items.ensures.value in
    let each = give_each o g.met.V.Domain.sound routines c.loop-routine.routine-index (let past = c.loop-routine-test.false in omega (arith, past)) c.loop-routine.invariant.first in
    subst (λ (rs : List (Routine g.row.V.Denot)). (routine : ℕ) → (x : ℕ) × In o (result_of o.any rs routine) x) same each

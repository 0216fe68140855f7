use Rattle.std.proofs.Common.{rules, arith, ◌≡◌, Some}
use Rattle.std.specs.Prelude.{slice_get}
use Rattle.std.proofs.lemmas.Option.{slice_get_read, slice_get_within}
use Rattle.zdomain.specs.Domain.{In}
use Rattle.zrule.specs.Rules.{global_in}
use Rattle.zjudge.proofs.Values.{global_more}
use Rattle.zjudge.proofs.memory.has_globals.Goals as goal

pub loop-index-preserved : goal.loop-index-preserved
loop-index-preserved g c =
    let at : slice_get c.args.certificate.now.globals c.loop-index.index ≡ Some c.index-sets-index.result = search (rules, slice_get_read, arith) in
    let here : In g.V.Domain.operations c.index-sets-index.result (global_in c.args.story.now c.args.saved.now c.loop-index.index) = search rules in
    global_more g.V.Domain.operations c.args.story.now c.args.certificate.now c.args.saved.now c.loop-index.index c.index-sets-index.result at c.loop-index.invariant here

pub returns : goal.returns
returns g c = (λ t k values found. c.loop-index.invariant k (let l = slice_get_within c.args.certificate.now.globals k values found in search (rules, arith, l)) values found, λ has. search rules)

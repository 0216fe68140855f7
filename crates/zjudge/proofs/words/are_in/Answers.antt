use Rattle.std.proofs.Common.{◌≡◌, ◌<◌, Some, length, rules, arith}
use Rattle.std.specs.Prelude.{slice_get, slice_index}
use Rattle.std.proofs.lemmas.Option.{slice_get_read}
use Rattle.zdomain.specs.Domain.{In}
use Rattle.zquetzal.specs.Reading.{words_of}
use Rattle.zjudge.proofs.Zips.{at_here, at_is, at_more, zip_where}
use Rattle.zjudge.proofs.words.are_in.Goals as goal

pub returns-then-word_count-sets-clause-value : goal.returns-then-word_count-sets-clause-value
returns-then-word_count-sets-clause-value g c =
    let zip = zip_where (In g.V.Domain.operations) c.args.sets.now (words_of c.args.words.now) in
    (λ t. search rules, λ all. absurd (let long = (zip.0 all).0 in search (rules, arith, long)))

pub returns-then-not-contains-clause-value : goal.returns-then-not-contains-clause-value
returns-then-not-contains-clause-value g c =
    let sets = c.args.sets.now in let ws = words_of c.args.words.now in
    let at : slice_get sets c.loop-index.index ≡ Some c.index-sets-index.result = search (rules, slice_get_read, arith) in
    let below : c.loop-index.index < length sets = search (rules, arith) in
    (λ t. search rules, λ all. absurd (let member = at_here (In g.V.Domain.operations) sets ws c.loop-index.index c.index-sets-index.result at (((zip_where (In g.V.Domain.operations) sets ws).0 all).1 c.loop-index.index below) in search (rules, member)))

pub loop-index-preserved : goal.loop-index-preserved
loop-index-preserved g c =
    let sets = c.args.sets.now in let ws = words_of c.args.words.now in
    let at : slice_get sets c.loop-index.index ≡ Some c.index-sets-index.result = search (rules, slice_get_read, arith) in
    let member : In g.V.Domain.operations c.index-sets-index.result (slice_index ws c.loop-index.index) = search rules in
    at_more (In g.V.Domain.operations) sets ws c.loop-index.index c.loop-index.invariant (at_is (In g.V.Domain.operations) sets ws c.loop-index.index c.index-sets-index.result at member)

pub returns-clause-value : goal.returns-clause-value
returns-clause-value g c =
    let zip = zip_where (In g.V.Domain.operations) c.args.sets.now (words_of c.args.words.now) in
    (λ t. zip.1 (search (rules, arith), λ k below. c.loop-index.invariant k (search (rules, arith, below))), λ all. search rules)

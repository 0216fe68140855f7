use Rattle.std.proofs.Common.{rules, arith, slice_set}
use Rattle.std.proofs.lemmas.List.{length-set}
use Rattle.zdomain.specs.Domain.{In}
use Rattle.zquetzal.specs.Reading.{words_of}
use Rattle.zjudge.proofs.Zips.{zip_where}
use Rattle.zjudge.proofs.words.are_in_with.Goals as goal

pub returns-then-word_count-sets : goal.returns-then-word_count-sets
returns-then-word_count-sets g c =
    let some = c.has_word.ensures in
    let ws = words_of c.args.words.now in
    (λ t. search rules, λ all. absurd (let long = ((zip_where (In g.V.Domain.operations) c.args.sets.now (slice_set ws c.args.put some.0)).0 (all some.0 some.1)).0 in let same = length-set ws c.args.put some.0 in search (rules, arith, long, same)))

pub returns-then-not-is_in_with : goal.returns-then-not-is_in_with
returns-then-not-is_in_with g c =
    (λ no. absurd cc, λ all. c.if-not-is_in_with.ensures.1 (λ x member. ((zip_where (In g.V.Domain.operations) c.args.sets.now (slice_set (words_of c.args.words.now) c.args.put x)).0 (all x member)).1 c.loop-index.index (search (rules, arith))))

pub returns : goal.returns
returns g c =
    (λ t x member. (zip_where (In g.V.Domain.operations) c.args.sets.now (slice_set (words_of c.args.words.now) c.args.put x)).1 (let same = length-set (words_of c.args.words.now) c.args.put x in search (rules, arith, same), λ k below. c.loop-index.invariant k (search (rules, arith, below)) x member), λ all. search rules)

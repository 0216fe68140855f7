use Rattle.std.proofs.Common.{◌≡◌, [], rules, tests}
use Rattle.std.proofs.lemmas.List.{nil_from_length}
use Rattle.zunpack.specs.View.{seen_chunk, seen_found}
use Rattle.zunpack.proofs.Cutting.{all_found, in_front, nothing_yet, one_more, still_chunks}
use Rattle.zunpack.proofs.chunk.survey.Goals as goal

pub loop-rest-init : goal.loop-rest-init
loop-rest-init c = record { left = c.requires; so_far = nothing_yet c.args.body.now c.args.id }

pub chunk_of-requires : goal.chunk_of-requires
chunk_of-requires c =
    let some : (c.loop-rest.rest.now ≡ [] → ⊥) = λ n. search (rules, tests) in
    in_front c.loop-rest.rest.now c.loop-rest.invariant.left some

pub loop-rest-preserved : goal.loop-rest-preserved
loop-rest-preserved c =
    let rest = c.loop-rest.rest.now in
    let some : (rest ≡ [] → ⊥) = λ n. search (rules, tests) in
    let after = c.chunk_of.result.1.now in
    let seen = seen_chunk c.chunk_of.result.0 in
    let has = c.loop-rest.invariant.left in
    record {
      left = still_chunks rest after seen has some c.chunk_of.ensures.value;
      so_far = one_more c.args.body.now rest after seen c.args.id (seen_found c.loop-rest.found) (seen_found c.then-found.result) (in_front rest has some) c.chunk_of.ensures.value c.then-found.ensures c.loop-rest.invariant.so_far;
    }

pub returns : goal.returns
returns c = λ chunks cut.
    let none : c.loop-rest.rest.now ≡ [] = nil_from_length c.loop-rest.rest.now (search (rules, tests)) in
    all_found c.args.body.now c.loop-rest.rest.now c.args.id (seen_found c.loop-rest.found) chunks none c.loop-rest.invariant.so_far cut

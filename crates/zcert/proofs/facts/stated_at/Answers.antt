use Rattle.std.proofs.Common.{◌≤◌, ◌∙◌, ltb, leb, drop, length, sym, rules, arith}
use Rattle.std.specs.List.Sorted.{IsPartitionPoint}
use Rattle.std.proofs.lemmas.List.{take_rest}
use Rattle.std.proofs.lemmas.List.Sorted.{IsPartitionPoint-from_clause, IsPartitionedBy-leb, IsPartitionedBy-ltb}
use Rattle.zcert.specs.declared.parts.Fact.{Fact}
use Rattle.zcert.proofs.Stated.{facts_in_order, from_first, kept, order_behind, skipped}
use Rattle.zcert.proofs.facts.stated_at.Goals as goal

pub returns : goal.returns
returns g c =
    let facts = c.args.facts.now in
    let address = c.args.address in
    let start = c.partition_point-start.result in
    let count = c.partition_point-count.result in
    let up = facts_in_order 0 0 facts c.requires in
    let first = IsPartitionPoint-from_clause (λ (f : Fact _). ltb f.address address) facts start c.partition_point-start.ensures.partitioned (IsPartitionedBy-ltb (λ (f : Fact _). f.address) facts address up) (λ a r q k. search rules) in
    let behind = order_behind facts start up in
    let told = rw take_rest at c.partition_point-count.ensures.partitioned in
    let second = IsPartitionPoint-from_clause (λ (f : Fact _). leb f.address address) (drop start facts) count told (IsPartitionedBy-leb (λ (f : Fact _). f.address) (drop start facts) address behind) (λ a r q k. search rules) in
    let few : count ≤ length (drop start facts) = rw take_rest at c.partition_point-count.ensures.bound in
    rw take_rest (kept address (drop start facts) count few (from_first address facts start first.1) second ∙ sym (skipped address facts start first.0 c.partition_point-start.ensures.bound))

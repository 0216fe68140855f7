use Rattle.std.proofs.Common.{◌≡◌, rules, arith, subst, sym, ◌+◌, ◌++◌, ◌∷◌, [], ◌≤◌, List, length}
use Rattle.std.specs.Prelude.{ℕ}
use Rattle.zlist.specs.declared.record.Record.{Record}
use Rattle.zlist.specs.Labels.{AreListed}
use Rattle.zlist.proofs.Records.{listed_more, listed_not}
use Rattle.zlist.proofs.lister.records_of.Goals as goal
use Rattle.zlist.proofs.lister.records_of.Goals.{in-Some+in_ok-push, in_default}

pub loop-address-preserved : goal.loop-address-preserved
loop-address-preserved c =
    let story = c.args.story.now in
    let numbers = c.args.numbers.now in
    let at = c.loop-address.address in
    let before = c.loop-address.records.items in
    let listed = c.loop-address.invariant.listed in
    record {
      listed = elim c.match-record_at.branch as (λ _. AreListed story numbers (at + 1) c.match-record_at.records.items) [
        | in-Some+in_ok-push w ↦
            let items : c.match-record_at.records.items ≡ before ++ w.in-Some.record ∷ [] = search rules in
            subst (λ (rs : List Record). AreListed story numbers (at + 1) rs) (sym items) (listed_more story numbers at before w.in-Some.record listed w.in-Some.ensures.some.0 w.in-Some.ensures.some.1)
        | in_default w ↦
            let items : c.match-record_at.records.items ≡ before = search rules in
            subst (λ (rs : List Record). AreListed story numbers (at + 1) rs) (sym items) (listed_not story numbers at before listed w.in_default.ensures.none)
      ];
      same = search rules;
    }

pub returns-clause-listed : goal.returns-clause-listed
returns-clause-listed c =
    let end : c.loop-address.address ≡ length c.args.story.now.memory = search (rules, arith) in
    subst (λ (n : ℕ). AreListed c.args.story.now c.args.numbers.now n c.loop-address.records.items) end c.loop-address.invariant.listed

pub returns-clause-inside : goal.returns-clause-inside
returns-clause-inside c =
    let short : c.loop-address.address ≤ 131072 = search (rules, arith) in
    λ k d l. omega (arith, short, c.loop-address.invariant.listed.below k d l)

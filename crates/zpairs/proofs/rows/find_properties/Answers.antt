use Rattle.std.proofs.Common.{◌≡◌, None, ℕ, ◌+◌, ◌/◌, ◌%◌, ◌<◌, ◌∙◌, length, subst, arith}
use Rattle.std.specs.Prelude.{slice_index_or}
use Rattle.std.proofs.lemmas.List.{length-set}
use Rattle.zobj.specs.Properties.{property_of}
use Rattle.zpairs.specs.Rows.{IsObjectRow}
use Rattle.zpairs.proofs.Regrouped.{one_more_found}
use Rattle.zpairs.proofs.rows.find_properties.Goals as goal

within : (k : ℕ) → ((k + 1) % 33 ≡ 0 → ⊥) → k / 33 ≡ (k + 1) / 33
within k more = grind (arith, more)

pub loop-k-preserved : goal.loop-k-preserved
loop-k-preserved c =
    let i = c.loop-k.invariant in
    let long = i.long in
    let below = c.loop-k-test.true in
    let count = c.from-k-end.ensures in
    let objects = c.objects.ensures.value in
    let few = c.objects.type_inv in
    let there : c.loop-k.k / 33 < c.args.story.now.objects = omega (arith, below, count, objects) in
    let inside : c.loop-k.k < length c.loop-k.found = omega (arith, below, count, few, long) in
    let kept = slice_index_or c.renew.new.row (c.loop-k.k % 33) None in
    record {
      long = length-set c.loop-k.found c.loop-k.k kept ∙ long;
      same = λ more. let row : c.loop-k.k / 33 ≡ (c.loop-k.k + 1) / 33 = within c.loop-k.k more in subst (λ (b : ℕ). IsObjectRow c.args.story.now b c.renew.new.row) row c.renew.ensures;
      made = one_more_found c.loop-k.found (λ j. property_of c.args.story.now.memory (j / 33 + 1) (j % 33)) c.loop-k.k kept inside (c.renew.ensures there (c.loop-k.k % 33) (omega arith)) i.made;
    }

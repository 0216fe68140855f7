use Rattle.std.proofs.Common.{◌≡◌, ◌≤◌, ◌+◌, ◌++◌, suc, List, ℕ, length, take, drop, ap, ◌∙◌, arith}
use Rattle.zunpack.specs.Packing.{changed, Same, run_differences}
use Rattle.zunpack.proofs.Runs.{few_same, same_more}
use Rattle.zunpack.proofs.memory.put_run.Goals as goal

pub returns-in-Same-clause-items : goal.returns-in-Same-clause-items
returns-in-Same-clause-items c = λ ds.
    let n = c.in-Same.more in
    let old = c.args.out.now.items in
    let story = c.args.story.now in
    let fits : length (run_differences (Same n)) ≤ length story = rw c.in-Same.is at c.requires.fits in
    let count : c.from.result + 1 ≡ suc n = omega (arith, c.from.ensures) in
    let front : c.split_at.result.0.now ≡ take (suc n) story = c.split_at.ensures.front ∙ ap (λ (k : ℕ). take k story) count in
    let back : c.split_at.result.1.now ≡ drop (suc n) story = c.split_at.ensures.back ∙ ap (λ (k : ℕ). drop k story) count in
    rw c.in-Same.is (
    ap (λ (x : List ℕ). x ++ changed c.split_at.result.1.now ds) (c.put-in-Same.ensures.items ∙ ap (λ (x : List ℕ). old ++ x) front)
    ∙ ap (λ (x : List ℕ). (old ++ take (suc n) story) ++ changed x ds) back
    ∙ same_more old story n ds (few_same n story fits)
    )

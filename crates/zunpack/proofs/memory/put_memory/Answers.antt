use Rattle.std.proofs.Common.{◌++◌, List, ℕ, length, sym, ap, ◌∙◌, arith, length-append}
use Rattle.zunpack.specs.Packing.{changed, run_differences}
use Rattle.zunpack.specs.View.{seen_run, told}
use Rattle.zunpack.proofs.Runs.{run_told}
use Rattle.zunpack.proofs.memory.put_memory.Goals as goal

pub loop-run-preserved : goal.loop-run-preserved
loop-run-preserved c =
    let r = seen_run c.in-Some.run' in
    let after = c.in-Some.after.now in
    let tells = run_told c.loop-run.rest.now (r, after) c.in-Some.ensures.value in
    let long = ap (λ (x : List ℕ). length x) tells in
    record {
      fits = omega (arith, c.loop-run.invariant.fits, long, length-append (run_differences r) (told after), c.put_run-story.ensures.left);
      items = c.put_run-story.ensures.items (told after)
          ∙ ap (λ (x : List ℕ). c.loop-run.out.items ++ changed c.loop-run.story.now x) (sym tells)
          ∙ c.loop-run.invariant.items;
      len = omega (arith, c.put_run-story.ensures.len, c.loop-run.invariant.len);
      room = omega (arith, c.put_run-story.ensures.room, c.loop-run.invariant.room);
    }

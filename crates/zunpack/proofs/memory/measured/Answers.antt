use Rattle.std.proofs.Common.{◌∙◌, ap, length, List, ℕ, arith, length-append}
use Rattle.zunpack.specs.Packing.{run_differences, runs_of}
use Rattle.zunpack.specs.View.{seen_run, told}
use Rattle.zunpack.proofs.Runs.{read_none, read_some, run_read, run_told}
use Rattle.zunpack.proofs.memory.measured.Goals as goal

pub loop-rest-preserved : goal.loop-rest-preserved
loop-rest-preserved c =
    let rest = c.loop-rest.rest.now in
    let r = seen_run c.in-Some.run' in
    let after = c.in-Some.after.now in
    let read = run_read rest (r, after) c.in-Some.ensures.value in
    let tells = ap (λ (x : List ℕ). length x) (run_told rest (r, after) c.in-Some.ensures.value) in
    record {
      bound = omega (arith, c.loop-rest.invariant.bound, c.in-Some.ensures.shorter, c.length-total.ensures.few);
      so_far = omega (arith, c.loop-rest.invariant.so_far, c.length-total.ensures.value, tells, length-append (run_differences r) (told after));
      none = λ e. c.loop-rest.invariant.none (read ∙ read_none r (runs_of after) e);
      some = λ s. let t = read_some r (runs_of after) s in c.loop-rest.invariant.some (t.0, read ∙ t.1);
    }

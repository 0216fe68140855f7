use Rattle.std.proofs.Common.{◌∙◌, ap, subst, rules, arith, List, ℕ}
use Rattle.zplayer.specs.Lines.{line_of}
use Rattle.zplayer.specs.declared.lines.LineEnd.TheVariants.{Input}
use Rattle.zplayer.proofs.ReadLemmas.{SoFar, goes_on, ends, ends_too_late}
use Rattle.zplayer.proofs.lines.Lines.next_line.Goals as goal

pub bytes-preserved : goal.bytes-preserved
bytes-preserved g c = record {
  so_far = goes_on _ _ _ _ _ _ c.bytes.invariant.so_far c.bytes-test.true (rw c.in_default.is at c.in_ok-end.ensures.taken);
  ended = search rules;
  quiet = search rules;
}

pub returns-in-Some-clause-heard : goal.returns-in-Some-clause-heard
returns-in-Some-clause-heard g c =
    ends _ _ _ _ _ _ c.bytes.invariant.so_far _ (rw c.in-Some.is at c.in_ok-end.ensures.taken) _ (c.line_of.ensures ∙ ap (λ (kept : List ℕ). line_of kept c.in-Some.end) c.as_slice.ensures.value)

pub returns-clause-heard : goal.returns-clause-heard
returns-clause-heard g c =
    let so_far = c.bytes.invariant.so_far in
    ends_too_late _ _ _ (subst (SoFar _ _ _) (omega (arith, c.bytes-test.false)) so_far) _ (c.line_of-2.ensures ∙ ap (λ (kept : List ℕ). line_of kept Input) c.as_slice-2.ensures.value)

use Rattle.std.proofs.Common.{◌≡◌, ℕ, suc, ◌+◌, Bool, true, false, not, sym, subst, ap, ◌∙◌, arith}
use Rattle.zpairs.specs.Cells.{has_none}
use Rattle.zpairs.specs.Fixed.{is_closed}
use Rattle.zpairs.proofs.finding.are_open.Goals as goal
use Rattle.zpairs.proofs.finding.are_open.Goals.{then-free, else-free}

-- of one more place, where there is none before it, and where there is one
one_more : (holds : ℕ → Bool) (place k from : ℕ) (before found now : Bool) → before ≡ has_none holds place k → before ≡ true → from ≡ k → found ≡ holds (place + from) → now ≡ not found → now ≡ has_none holds place (suc k)
unfolding has_none
one_more holds place k from before found now so_far none here is e =
    let same : has_none holds place k ≡ true = sym so_far ∙ none in
    rw same (e ∙ ap not (is ∙ ap (λ (m : ℕ). holds (place + m)) here))

one_before : (holds : ℕ → Bool) (place k : ℕ) (before now : Bool) → before ≡ has_none holds place k → before ≡ false → now ≡ before → now ≡ has_none holds place (suc k)
unfolding has_none
one_before holds place k before now so_far some e =
    let same : has_none holds place k ≡ false = sym so_far ∙ some in
    rw same (e ∙ some)

next : (holds : ℕ → Bool) (place k : ℕ) (now : Bool) → now ≡ has_none holds place (suc k) → now ≡ has_none holds place (k + 1)
next holds place k now = let more : suc k ≡ k + 1 = omega arith in subst (λ (m : ℕ). now ≡ has_none holds place m) more

pub loop-behind-preserved : goal.loop-behind-preserved
loop-behind-preserved c =
    let closed = is_closed (record { story = c.args.marked.now.story.now; ranges = c.args.marked.now.ranges.now }) in
    next closed c.args.place c.loop-behind.behind c.if-free.free (elim c.if-free.branch [
      | then-free w ↦ one_more closed c.args.place c.loop-behind.behind w.from.result c.loop-behind.free w.is_closed.result c.if-free.free c.loop-behind.invariant w.if-free.true w.from.ensures w.is_closed.ensures w.free-is
      | else-free w ↦ one_before closed c.args.place c.loop-behind.behind c.loop-behind.free c.if-free.free c.loop-behind.invariant w.if-free.false w.free-is
    ])

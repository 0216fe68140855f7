use Rattle.std.proofs.Common.{rules, ◌≡◌, ◌+◌, [], ◌∷◌, ◌∙◌, List, ℕ, ap, arith, length, subst, sym}
use Rattle.std.specs.List.{AllByRecursion}
use Rattle.zquetzal.specs.Saved.{Frame as SavedFrame, IsFrame}
use Rattle.zquetzal.specs.View.{frames_left, seen_frame}
use Rattle.zengine.specs.Resuming.{base_laid, length_laid}
use Rattle.zengine.proofs.Laying.{lay_end, lay_on}
use Rattle.zengine.proofs.resuming.lay_frames.Goals as goal

pub loop-frame-preserved : goal.loop-frame-preserved
loop-frame-preserved c =
    let s = c.loop-frame.invariant in
    let f : SavedFrame = seen_frame c.in-Some.frame in
    let rest : List SavedFrame = frames_left c.loop-frame.rest in
    let more : List SavedFrame = frames_left c.next.new.self in
    let yields : frames_left c.loop-frame.rest ≡ seen_frame c.in-Some.frame ∷ frames_left c.next.new.self = search rules in
    let fit = subst (λ (fs : List SavedFrame). AllByRecursion IsFrame fs) yields s.fit in
    let locals = c.word_count.ensures in
    let stack = c.word_count-in-Some.ensures in
    let few = fit.0.locals in
    let high = fit.0.stack in
    let size : c.word_count.result + c.word_count-in-Some.result ≡ length f.locals + length f.stack = omega (arith, locals, stack) in
    let long : length rest ≡ length (f ∷ more) = ap (λ (fs : List SavedFrame). length fs) yields in
    let laid : length_laid rest ≡ length_laid (f ∷ more) = ap length_laid yields in
    record {
      fit = fit.1;
      low = omega (arith, size, few, high);
      least = omega (arith, s.least);
      backs = omega (arith, s.backs, long);
      size = c.lay_frame.ensures.size ∙ s.size;
      ends = omega (arith, s.ends, laid, size);
      newest = ap (λ (n : ℕ). base_laid (c.loop-frame.base + c.loop-frame.below + 5) n more) size ∙ ap (λ (fs : List SavedFrame). base_laid c.loop-frame.base c.loop-frame.below fs) (sym yields) ∙ s.newest;
      laid = lay_on c.loop-frame.words c.lay_frame.new.words c.loop-frame.base c.loop-frame.below (c.word_count.result + c.word_count-in-Some.result) c.loop-frame.number f rest more c.args.backs.now _ yields s.backs size c.lay_frame.ensures.laid s.laid;
    }

pub returns-clause-laid : goal.returns-clause-laid
returns-clause-laid c =
    let s = c.loop-frame.invariant in
    let none : frames_left c.loop-frame.rest ≡ [] = search rules in
    lay_end c.loop-frame.words (c.loop-frame.base + c.loop-frame.below) c.loop-frame.below _ (frames_left c.loop-frame.rest) _ _ none s.ends s.laid

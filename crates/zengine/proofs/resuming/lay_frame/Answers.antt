use Rattle.std.proofs.Common.{◌+◌, ◌*◌, ◌++◌, ◌∷◌, ◌/◌, ◌%◌, ◌≡◌, ◌∙◌, ℕ, ap, arith, refl, take}
use Rattle.zquetzal.specs.Reading.{words_of}
use Rattle.zengine.proofs.Begins.{laid_law}
use Rattle.zengine.proofs.resuming.lay_frame.Goals as goal

pub returns-clause-laid : goal.returns-clause-laid
returns-clause-laid c =
    let x = c.args in
    let marks : c.from.result + 256 * c.from-2.result ≡ x.frame.result + 256 * x.frame.supplied = rw (c.from.ensures, c.from-2.ensures) refl in
    laid_law x.words.now c.put_words.new.words c.put_words-2.new.words x.top (x.index % 65536) (x.index / 65536) (x.distance % 65536) (x.distance / 65536) (c.from.result + 256 * c.from-2.result) _ _ (words_of x.frame.locals.now) (words_of x.frame.stack.now) c.word_count.ensures (omega arith) c.put_words.ensures.put c.put_words-2.ensures.put refl
    ∙ ap (λ (m : ℕ). take x.top x.words.now ++ (x.index % 65536 ∷ x.index / 65536 ∷ x.distance % 65536 ∷ x.distance / 65536 ∷ m ∷ (words_of x.frame.locals.now ++ words_of x.frame.stack.now))) marks

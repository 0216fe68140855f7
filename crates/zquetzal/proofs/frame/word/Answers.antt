use Rattle.byteorder.specs.Endian.{big_number}
use Rattle.std.proofs.Common.{ℕ, List, ap, ◌*◌, ◌∙◌, arith, rules}
use Rattle.std.proofs.lemmas.List.{length-drop}
use Rattle.zquetzal.proofs.Words.{word_inside, word_read}
use Rattle.zquetzal.proofs.frame.word.Goals as goal

pub overflow_mul-number : goal.overflow_mul-number
overflow_mul-number c = let inside = word_inside c.args.words.now c.args.number c.requires in search rules

pub split_at-requires : goal.split_at-requires
split_at-requires c = let inside = word_inside c.args.words.now c.args.number c.requires in omega (arith, inside)

pub read_u16-requires : goal.read_u16-requires
read_u16-requires c = let inside = word_inside c.args.words.now c.args.number c.requires in omega (arith, inside, length-drop (2 * c.args.number) c.args.words.now)

pub returns : goal.returns
returns c = c.read_u16.ensures ∙ ap (λ (b : List ℕ). big_number 2 b) c.split_at.ensures.back ∙ word_read c.args.words.now c.args.number c.requires

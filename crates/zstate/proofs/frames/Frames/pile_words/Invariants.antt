use Rattle.std.proofs.Common.{◌≡◌, ◌++◌, take}
use Rattle.std.specs.Prelude.{reverse}
use Rattle.zquetzal.specs.Reading.{words_of}
use Rattle.zstate.specs.Packed.{with_top}
use Rattle.zstate.proofs.frames.Frames.pile_words.Given as goal

abbrev pub invariant-loop-number : goal.invariant-loop-number
invariant-loop-number l = (l.self ≡ with_top (reverse (take l.number (words_of l.fn.words)) ++ l.fn.self.newest.stack) l.fn.self)

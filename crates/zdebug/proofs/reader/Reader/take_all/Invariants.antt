use Rattle.std.proofs.Common.{◌≡◌, length}
use Rattle.zdebug.specs.Cutting.{parts}
use Rattle.zdebug.specs.Reading.{after_all}
use Rattle.zdebug.specs.View.{kept_of}
use Rattle.zdebug.proofs.reader.Reader.take_all.Given as goal

-- what is left goes on from what is kept
abbrev pub invariant-loop-part : goal.invariant-loop-part
invariant-loop-part l = after_all (kept_of l.fn.self) (parts 60 l.fn.bytes) ≡ after_all (kept_of l.self) (parts 60 l.rest)

abbrev pub decreases-loop-part : goal.decreases-loop-part
decreases-loop-part l = length l.rest

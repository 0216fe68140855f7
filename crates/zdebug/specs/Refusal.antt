-- Refusals of a file, by the numbers that are shown (own).
use Rattle.std.specs.Prelude.{ℕ}
use Rattle.zdebug.specs.declared.error.DebugError.{DebugError}
use Rattle.zdebug.specs.declared.error.DebugError.TheVariants as errors

abbrev pub number_of : DebugError → ℕ
number_of errors.TooLong = 1
number_of errors.NotDebug = 2
number_of errors.Version = 3
number_of errors.Tag = 4
number_of errors.Misplaced = 5
number_of errors.Unclosed = 6
number_of errors.NotNumber = 7
number_of errors.Entity = 8
number_of errors.Incomplete = 9
number_of errors.OutOfMemory = 10

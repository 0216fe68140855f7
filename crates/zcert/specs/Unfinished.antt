-- How a set of version 2 is read: its kind, and then the ends of an interval, or the count and the words of a list.
use Rattle.std.specs.Prelude.{ℕ, List, [], ◌++◌}
use Rattle.zcert.specs.declared.values_spelled.Unfinished.{Unfinished}
use Rattle.zcert.specs.declared.values_spelled.Unfinished.TheVariants as unfinished
use Rattle.zcert.specs.Numbers.{Kind, End, WordCount, Word, number, width}
use Rattle.zcert.specs.Coming.{list_bytes}
use Rattle.zcert.specs.Turns.{Turns}

-- the bytes of what has come
abbrev pub set_came : Unfinished → List ℕ
set_came unfinished.Nothing = []
set_came unfinished.Run = number Kind 0
set_came (unfinished.Lower lo) = number Kind 0 ++ number End lo
set_came unfinished.List = number Kind 1
set_came (unfinished.Words list) = list_bytes list.count list.words.items

abbrev pub set_awaited : Unfinished → ℕ
set_awaited unfinished.Nothing = width Kind
set_awaited unfinished.Run = width End
set_awaited (unfinished.Lower lo) = width End
set_awaited unfinished.List = width WordCount
set_awaited (unfinished.Words list) = width Word

abbrev pub values_turns : Turns Unfinished
values_turns = record { came = set_came; awaited = set_awaited }

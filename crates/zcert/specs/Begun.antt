-- How an interval is read: its lower end, and then its upper end.
use Rattle.std.specs.Prelude.{ℕ, List, []}
use Rattle.zcert.specs.declared.interval_spelled.Begun.{Begun}
use Rattle.zcert.specs.declared.interval_spelled.Begun.TheVariants.{Nothing, Lower}
use Rattle.zcert.specs.Numbers.{End, number, width}
use Rattle.zcert.specs.Turns.{Turns}

-- the bytes of the end that has come
abbrev pub end_bytes : Begun → List ℕ
end_bytes Nothing = []
end_bytes (Lower lo) = number End lo

abbrev pub ends_turns : Turns Begun
ends_turns = record { came = end_bytes; awaited = λ b. width End }

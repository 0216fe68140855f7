-- How plays end.
use Rattle.std.specs.Prelude.{⊤}
use Rattle.zplayer.specs.declared.end.End.{End}
use Rattle.zplayer.specs.declared.end.End.TheVariants as ends

-- a play ends with no fault
abbrev pub EndsWell : End → Type 0
EndsWell (ends.Fault fault place) = ⊥
EndsWell end = ⊤

-- How needs, pauses and events belong together.
use Rattle.std.specs.Prelude.{Bool, true, false}
use Rattle.zfault.specs.declared.event.Event.{Event}
use Rattle.zfault.specs.declared.event.Event.TheVariants.{Line, Random, Saved, NotRestored}
use Rattle.zfault.specs.declared.pause.Need.{Need}
use Rattle.zfault.specs.declared.pause.Need.TheVariants.{Line as ALine, Random as AWord, Saved as AnOutcome, Restore as ASave}
use Rattle.zfault.specs.declared.pause.Pause.{Pause}
use Rattle.zfault.specs.declared.pause.Pause.TheVariants.{NeedLine, NeedRandom, NeedSave, NeedRestore}

-- the pause in which a machine waits for what it needs
abbrev pub pause_for : Need → Pause
pause_for ALine = NeedLine
pause_for AWord = NeedRandom
pause_for AnOutcome = NeedSave
pause_for ASave = NeedRestore

-- the event is of the kind that is needed; a save that is accepted is no event of its own, but comes as `Saved true`
abbrev pub answers : Need → Event → Bool
answers ALine (Line line) = true
answers AWord (Random word) = true
answers AnOutcome (Saved kept) = true
answers ASave NotRestored = true
answers _ _ = false

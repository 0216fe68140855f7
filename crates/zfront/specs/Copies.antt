-- What a contract sees of a `Copied`.
use Rattle.std.specs.Borrow.{GName}
use Rattle.std.specs.Option.{ghost_name_of, option_copied_mut}
use Rattle.std.specs.Prelude.{Bool, Option}
use mathlib.Core.Option as maybe
use Rattle.zfront.specs.declared.copied.Copied.{Copied}

-- the sink below
abbrev pub below_of : {W C : Type 0} → Copied W C → W
below_of copied = copied.below.now

-- where what it takes is copied, if anywhere
abbrev pub copy_of : {W C : Type 0} → Copied W C → Option C
copy_of copied = option_copied_mut copied.record.copy

-- which reference to it that is
abbrev pub copy_name : {W C : Type 0} → Copied W C → maybe.Option GName
copy_name copied = ghost_name_of copied.record.copy

-- whether all that was taken is there
abbrev pub is_whole : {W C : Type 0} → Copied W C → Bool
is_whole copied = copied.record.whole

-- What a contract sees of a `Wrapped`.
use Rattle.zfront.specs.declared.wrapped.Wrapped.{Wrapped}
use Rattle.zfront.specs.Owed.{Owed}

-- the sink below
abbrev pub below_of : {W : Type 0} → Wrapped W → W
below_of sink = sink.below.now

-- what was taken and isn't given out
abbrev pub owed_of : {W : Type 0} → Wrapped W → Owed
owed_of sink = sink.pending

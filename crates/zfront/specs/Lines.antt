-- What a contract sees of a `Lined`.
use Rattle.std.specs.Prelude.{ℕ, List}
use Rattle.zfront.specs.declared.lined.Lined.{Lined}

-- the source below
abbrev pub source_of : {S : Type 0} → Lined S → S
source_of lined = lined.source.now

-- what was read of it and isn't given
abbrev pub held_of : {S : Type 0} → Lined S → List ℕ
held_of lined = lined.ahead

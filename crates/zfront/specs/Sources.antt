-- What a contract sees of a source that is made of others.
use Rattle.std.specs.Borrow.{GName}
use Rattle.std.specs.Option.{ghost_name_of, option_copied_mut}
use Rattle.std.specs.Prelude.{ℕ, ◌+◌, ◌-◌, ◌^◌, min, List, ◌++◌, Bool, true, false, Option, Some, None}
use mathlib.Core.Option as maybe
use Rattle.zfront.specs.declared.recorded.Recorded.{Recorded}
use Rattle.zfront.specs.declared.followed.Followed.{Followed}

-- the source that is recorded
abbrev pub source_of : {S W : Type 0} → Recorded S W → S
source_of recorded = recorded.source.now

-- where it is recorded, if anywhere
abbrev pub copy_of : {S W : Type 0} → Recorded S W → Option W
copy_of recorded = option_copied_mut recorded.record.copy

-- which reference to it that is
abbrev pub copy_name : {S W : Type 0} → Recorded S W → maybe.Option GName
copy_name recorded = ghost_name_of recorded.record.copy

-- whether all that was read is there
abbrev pub is_whole : {S W : Type 0} → Recorded S W → Bool
is_whole recorded = recorded.record.whole

-- the source that is read first, and the one behind it
abbrev pub first_of : {A B : Type 0} → Followed A B → A
first_of followed = followed.first.now

abbrev pub second_of : {A B : Type 0} → Followed A B → B
second_of followed = followed.second.now

-- whether the first has ended
abbrev pub has_ended : {A B : Type 0} → Followed A B → Bool
has_ended followed = followed.ended

-- what two sources have left, where both are known: of the first nothing, once it has ended
abbrev pub both_left : Bool → Option (List ℕ) → Option (List ℕ) → Option (List ℕ)
both_left true first second = second
both_left false None second = None
both_left false (Some xs) None = None
both_left false (Some xs) (Some ys) = Some (xs ++ ys)

-- how often a call of either failed, a u64 that stays at its last value
abbrev pub both_failures : ℕ → ℕ → ℕ
both_failures first second = min (first + second) (2 ^ 64 - 1)

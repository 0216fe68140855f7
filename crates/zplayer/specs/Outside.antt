-- What calls say of the devices that they use, and the words of a generator (own).
use Rattle.std.specs.Prelude.{◌≡◌, ℕ, zero, suc, ◌%◌, Bool, false, List, MatchBool}
use Rattle.rand_xoshiro.specs.SplitMix64.{splitmix_seed}
use Rattle.rand_xoshiro.specs.Xoshiro128.{of_seed, plus_plus}
use Rattle.zfault.specs.Devices.{RisesByOne}

-- the count rises just where the answer is false
abbrev pub CountsRefusal : ℕ → ℕ → Bool → Type 0
CountsRefusal old new done = MatchBool done (new ≡ old) (RisesByOne old new)

-- a device is blamed just where it fails: there its count of failures rises, by one, and else it stays
abbrev pub Blames : Type 0 → ℕ → ℕ → Type 0
Blames fails old new = (fails → RisesByOne old new) × (¬ fails → new ≡ old)

-- what a call says of its writer: it is blamed just where it fails, and where the call sees to that, nothing waits to be handed on
pub record BlamesWriter {W : Type 0} (failures : W → ℕ) (waits : W → Bool) (old new : W) (fails sees : Type 0) : Type 0 where
  pub blamed : Blames fails (failures old) (failures new)
  pub flushed : sees → waits new ≡ false

-- words that come, by their number from 0 on
abbrev pub Coming : Type 0
Coming = ℕ → ℕ

-- the words that a generator in this state gives: the low 16 bits of each of its numbers
abbrev pub words_from : List ℕ → Coming
words_from state zero = (plus_plus state).0 % 65536
words_from state (suc k) = words_from (plus_plus state).1 k

-- the words of a seed
abbrev pub words_of : ℕ → Coming
words_of seed = words_from (of_seed (splitmix_seed 16 seed))

-- What is known of texts that share an end (own).
use Rattle.std.specs.Prelude.{◌≡◌, ℕ, ◌-◌, ◌%◌, ◌<◌, ◌≤◌, List, IfSome, option_map}
use Rattle.ztext.specs.declared.ends.Known.{Known}
use Rattle.ztext.specs.Words.{length_at}

-- the place is the first or a second one after it, and not behind the end
abbrev pub Tells : Known → ℕ → Type 0
Tells known at = (known.from ≤ at) × ((at - known.from) % 2 ≡ 0) × IfSome known.end (λ end. at < end)

-- each text that it tells of ends where it says, or has no end
pub record IsKnown (memory : List ℕ) (known : Known) : Type 0 where
  pub told : (at : ℕ) → Tells known at → length_at memory at ≡ option_map (λ end. end - at) known.end

-- Two sets that tell their words one by one (own).
use Rattle.std.specs.Prelude.{ℕ, List, Option, Some, None}
use Rattle.zdomain.specs.Domain.{SetOperations}

abbrev pub both : Option (List ℕ) → Option (List ℕ) → Option (List ℕ × List ℕ)
both (Some xs) (Some ys) = Some (xs, ys)
both (Some xs) None = None
both None ys = None

-- all words of both sets, where each of them tells its own
abbrev pub members : {V : Type 0} → SetOperations V → V → V → Option (List ℕ × List ℕ)
members o first second = both (o.few first) (o.few second)

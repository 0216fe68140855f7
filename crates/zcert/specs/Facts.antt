-- Facts on globals: sets that globals lie in at places, narrower than their own (own). They stand in the order of their places, and at
-- one place in that of their globals.
use Rattle.std.specs.Prelude.{◌≡◌, ℕ, ◌+◌, ◌≤◌, Bool, true, false, List, [], ◌∷◌, filter, if◌then◌else◌, ◌==◌, ⊤}
use Rattle.zcert.specs.declared.parts.Fact.{Fact}

-- the least global that may be stated at an address, where this one may be at the address `floor`
abbrev pub least_global : ℕ → ℕ → ℕ → ℕ
least_global floor least address = if address == floor then least else 0

-- each is behind the one before it, the first of them at the address `floor` of the global `least`, or behind that
abbrev pub FactsRise : {V : Type 0} → ℕ → ℕ → List (Fact V) → Type 0
FactsRise floor least [] = ⊤
FactsRise floor least (f ∷ fs) = (floor ≤ f.address) × (least_global floor least f.address ≤ f.global) × FactsRise f.address (f.global + 1) fs

-- there are some only where they may be
abbrev pub AreStated : {V : Type 0} → Bool → List (Fact V) → Type 0
AreStated true facts = ⊤
AreStated false facts = facts ≡ []

-- whether a fact is stated at an address
abbrev pub is_at : {V : Type 0} → ℕ → Fact V → Bool
is_at address f = f.address == address

-- the facts that are stated at an address
abbrev pub facts_at : {V : Type 0} → List (Fact V) → ℕ → List (Fact V)
facts_at facts address = filter (is_at address) facts

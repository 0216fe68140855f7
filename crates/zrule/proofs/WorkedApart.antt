-- Values of what is asked of a story's tables and of what is frozen (S8), on both sides of each bound.
use Rattle.std.proofs.Common.{◌≡◌, ℕ, ◌<◌, ◌≤◌, ◌==◌, Bool, [], ◌∷◌, ◌++◌, replicate, inl, inr, refl, subst, arith, false}
use Rattle.std.proofs.lemmas.Bool.{eqb-true}
use Rattle.zstory.specs.LoadedStory.{LoadedStory, globals, object_table, static_base}
use Rattle.zplace.specs.Bytes.{IsChanging}
use Rattle.zrule.specs.Rules.{HasDisjointTables}

-- two objects, the object table at 64 with its entries up to 144, where the globals begin, and the static base at 656
story : LoadedStory
story = record { memory = replicate 10 0 ++ 0 ∷ 64 ∷ 0 ∷ 144 ∷ 2 ∷ 144 ∷ []; objects = 2 }

places : (object_table story ≡ 64) × (globals story ≡ 144) × (static_base story ≡ 656)
unfolding story
places = (refl, refl, refl)

few : story.objects ≡ 2
unfolding story
few = refl

-- the first byte behind the header and the last one of dynamic memory may be frozen, and neither byte beside them
frozen : (n : ℕ) → 64 ≤ n → n < 656 → (IsChanging story n → ⊥) → HasDisjointTables story (λ p. p == n)
frozen n above below still = record {
  apart = λ p a b. (let t = places.0 in let g = places.1 in let two = few in omega (arith, t, g, two, a.0, b.1));
  frozen_above = λ p e. (let is = eqb-true p n e in omega (arith, is, above));
  frozen_below = λ p e. (let is = eqb-true p n e in let s = places.2 in omega (arith, is, s, below));
  unchanging = λ p e changing. still (subst (λ (k : ℕ). IsChanging story k) (eqb-true p n e) changing);
}

first_unchanging : IsChanging story 64 → ⊥
first_unchanging (inl flags) = omega (arith, flags.1)
first_unchanging (inr (inl inside)) = let g = places.1 in omega (arith, g, inside.0)
first_unchanging (inr (inr state)) = let t = places.0 in omega (arith, t, state.inside.0)

last_unchanging : IsChanging story 655 → ⊥
last_unchanging (inl flags) = omega (arith, flags.1)
last_unchanging (inr (inl inside)) = let g = places.1 in omega (arith, g, inside.1)
last_unchanging (inr (inr state)) = let t = places.0 in let two = few in omega (arith, t, two, state.last, state.inside.1)

ends : HasDisjointTables story (λ p. p == 64) × HasDisjointTables story (λ p. p == 655) × (HasDisjointTables story (λ p. p == 63) → ⊥) × (HasDisjointTables story (λ p. p == 656) → ⊥)
ends = (
  frozen 64 (omega arith) (omega arith) first_unchanging,
  frozen 655 (omega arith) (omega arith) last_unchanging,
  λ tables. (let low = tables.frozen_above 63 refl in omega (arith, low)),
  λ tables. (let high = tables.frozen_below 656 refl in let s = places.2 in omega (arith, high, s)),
)

-- Where the globals begin a byte earlier, they share one with the last entry.
overlapping : LoadedStory
overlapping = record { memory = replicate 10 0 ++ 0 ∷ 64 ∷ 0 ∷ 143 ∷ 2 ∷ 144 ∷ []; objects = 2 }

overlaps : (is_frozen : ℕ → Bool) → HasDisjointTables overlapping is_frozen → ⊥
unfolding overlapping
overlaps is_frozen tables = tables.apart 143 (omega arith, omega arith) (omega arith, omega arith)

-- The globals from 64 on, and the object table right behind them, at 544, or a byte earlier.
globals_first : LoadedStory
globals_first = record { memory = replicate 10 0 ++ 2 ∷ 32 ∷ 0 ∷ 64 ∷ 3 ∷ 0 ∷ []; objects = 0 }

too_early : LoadedStory
too_early = record { memory = replicate 10 0 ++ 2 ∷ 31 ∷ 0 ∷ 64 ∷ 3 ∷ 0 ∷ []; objects = 0 }

behind_globals : HasDisjointTables globals_first (λ p. false) × ((is_frozen : ℕ → Bool) → HasDisjointTables too_early is_frozen → ⊥)
unfolding globals_first too_early
behind_globals = (
  record { apart = λ p a b. omega (arith, a.1, b.0); frozen_above = λ p e. absurd cc; frozen_below = λ p e. absurd cc; unchanging = λ p e changing. absurd cc },
  λ is_frozen tables. tables.apart 543 (omega arith, omega arith) (omega arith, omega arith),
)

-- Values of the definitions, computed.
use Rattle.std.proofs.Common.{◌≡◌, ℕ, ◌<◌, ◌≤◌, List, [], ◌∷◌, ◌++◌, replicate, inl, inr, refl, arith}
use Rattle.zstory.specs.Header as header
use Rattle.zstory.specs.LoadedStory.{LoadedStory}
use Rattle.zplace.specs.Bytes.{IsChanging}
use Rattle.zcheck.specs.declared.refusal.StoryRule.TheVariants.{Identity, FirstPlace, RoutineHeads, FirstGlobals, PropertyTables, Tree, Abbreviations, Tables}
use Rattle.zcheck.specs.Numbers.{number_of}
use Rattle.zcheck.specs.Passes.{HasHead}
use Rattle.zcheck.specs.Tables.{AreApart, IsFrozenApart}
use Rattle.zcert.specs.declared.parts.Routine.{Routine}

numbers : (number_of Identity ≡ 1) × (number_of FirstPlace ≡ 2) × (number_of RoutineHeads ≡ 3) × (number_of FirstGlobals ≡ 4) × (number_of PropertyTables ≡ 5) × (number_of Tree ≡ 6) × (number_of Abbreviations ≡ 7) × (number_of Tables ≡ 8)
numbers = (refl, refl, refl, refl, refl, refl, refl, refl)

-- an object table below 256, globals from 160 to 639, static memory from 656 on
memory : ℕ → List ℕ
memory table = replicate 10 0 ++ 0 ∷ table ∷ 0 ∷ 160 ∷ 2 ∷ 144 ∷ replicate 700 0

-- its places, with no object or with one
abbrev story : ℕ → ℕ → LoadedStory
story table objects = record { memory = memory table; objects = objects }

places : (table : ℕ) → (header.object_table (memory table) ≡ table) × (header.globals (memory table) ≡ 160) × (header.static_base (memory table) ≡ 656)
unfolding memory
places table = (omega arith, refl, refl)

-- tables that touch share no byte, and one byte further they share one
touching : AreApart (story 98 0) × AreApart (story 89 1)
touching =
    let a = places 98 in
    let b = places 89 in
    (λ p of_globals of_table. omega (arith, a.0, a.1, of_globals.0, of_table.1), λ p of_globals of_table. omega (arith, b.0, b.1, of_globals.0, of_table.1))

sharing : (AreApart (story 99 0) → ⊥) × (AreApart (story 90 1) → ⊥)
sharing =
    let a = places 99 in
    let b = places 90 in (
      λ apart. apart 160 (omega (arith, a.1), omega (arith, a.1)) (omega (arith, a.0), omega (arith, a.0)),
      λ apart. apart 160 (omega (arith, b.1), omega (arith, b.1)) (omega (arith, b.0), omega (arith, b.0)),
    )

-- of the bytes behind the header and before the object table none changes
still : (p : ℕ) → 64 ≤ p → p < 160 → IsChanging (story 98 0) p → ⊥
still p above below (inl flags) = omega (arith, above, flags.1)
still p above below (inr (inl a_global)) = let at = places 98 in omega (arith, at.1, below, a_global.0)
still p above below (inr (inr state)) = omega (arith, state.first, state.last)

-- one byte, and all up to the globals
frozen : IsFrozenApart (story 98 0) (record { first = 64; last = 64 }) × IsFrozenApart (story 98 0) (record { first = 64; last = 159 })
frozen =
    let at = places 98 in (
      record { above = omega arith; below = omega (arith, at.2); unchanging = record { still = λ p inside. still p inside.0 (omega (arith, inside.1)) } },
      record { above = omega arith; below = omega (arith, at.2); unchanging = record { still = λ p inside. still p inside.0 (omega (arith, inside.1)) } },
    )

-- not the header's last byte, the first global's or the first byte of static memory
unfit : (IsFrozenApart (story 98 0) (record { first = 63; last = 64 }) → ⊥) × (IsFrozenApart (story 98 0) (record { first = 159; last = 160 }) → ⊥) × (IsFrozenApart (story 98 0) (record { first = 655; last = 656 }) → ⊥)
unfit =
    let at = places 98 in
    (λ apart. omega (arith, apart.above), λ apart. apart.unchanging.still 160 (omega arith, omega arith) (inr (inl (omega (arith, at.1), omega (arith, at.1)))), λ apart. omega (arith, at.2, apart.below))

-- static memory from 656 on, with a head of one local there, and at 659 of two and at 660 of one, of which the end is missing
headed : List ℕ → LoadedStory
headed end = record { memory = replicate 10 0 ++ 0 ∷ 98 ∷ 0 ∷ 160 ∷ 2 ∷ 144 ∷ replicate 640 0 ++ 1 ∷ 0 ∷ 0 ∷ 2 ∷ 1 ∷ end; objects = 0 }

routine : ℕ → ℕ → Routine ℕ
routine address locals = record { address = address; locals = locals; result = 0 }

-- at the base of static memory, and up to the last byte
heads : HasHead (headed (0 ∷ [])) (routine 656 1) × HasHead (headed (0 ∷ 0 ∷ [])) (routine 660 1)
unfolding headed routine
heads = (
  record { even = refl; static = omega arith; counted = refl; within = omega arith },
  record { even = refl; static = omega arith; counted = refl; within = omega arith },
)

-- not with another count, at an odd place, below static memory, or one byte beyond
no_heads : (HasHead (headed (0 ∷ [])) (routine 656 2) → ⊥) × (HasHead (headed (replicate 9 0)) (routine 659 2) → ⊥) × (HasHead (headed (0 ∷ [])) (routine 654 0) → ⊥) × (HasHead (headed (0 ∷ [])) (routine 660 1) → ⊥)
unfolding headed routine
no_heads = (λ h. omega (arith, h.counted), λ h. omega (arith, h.even), λ h. omega (arith, h.static), λ h. omega (arith, h.within))

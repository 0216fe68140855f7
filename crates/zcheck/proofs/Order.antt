-- The rules on a story in their order.
use Rattle.std.proofs.Common.{◌≡◌, inl, inr, ℕ, suc, ◌+◌, ◌<◌, List, [], ◌∷◌, take, Some, refl, arith, subst}
use Rattle.std.specs.Prelude.{slice_get}
use Rattle.std.specs.List.{AllByRecursion}
use Rattle.zrule.proofs.Ordered.{IsAmong, Rises, among_kept, more_kept, lower_kept}
use Rattle.zcheck.specs.declared.refusal.StoryRule.{StoryRule}
use Rattle.zcheck.specs.declared.refusal.StoryRule.TheVariants.{Identity, FirstPlace, RoutineHeads, FirstGlobals, PropertyTables, Tree, Abbreviations, Tables}
use Rattle.zcheck.specs.Numbers.{number_of}

abbrev pub asked : List StoryRule
asked = Identity ∷ FirstPlace ∷ RoutineHeads ∷ FirstGlobals ∷ PropertyTables ∷ Tree ∷ Abbreviations ∷ Tables ∷ []

-- every rule is one of them
all_asked : (q : StoryRule) → IsAmong q asked
all_asked Identity = inl refl
all_asked FirstPlace = inr (inl refl)
all_asked RoutineHeads = inr (inr (inl refl))
all_asked FirstGlobals = inr (inr (inr (inl refl)))
all_asked PropertyTables = inr (inr (inr (inr (inl refl))))
all_asked Tree = inr (inr (inr (inr (inr (inl refl)))))
all_asked Abbreviations = inr (inr (inr (inr (inr (inr (inl refl))))))
all_asked Tables = inr (inr (inr (inr (inr (inr (inr (inl refl)))))))

-- and their numbers rise
rising : Rises number_of 0 asked
rising = (omega arith, (omega arith, (omega arith, (omega arith, (omega arith, (omega arith, (omega arith, (omega arith, tt))))))))

module _ (P : StoryRule → Type 0) where
  pub kept_all : AllByRecursion P asked → (q : StoryRule) → P q
  kept_all a q = among_kept P asked q a (all_asked q)

  pub kept_more : (k : ℕ) (rule : StoryRule) → slice_get asked k ≡ Some rule → P rule → AllByRecursion P (take k asked) → AllByRecursion P (take (k + 1) asked)
  kept_more k rule e p a =
      let next : suc k ≡ k + 1 = omega arith in
      subst (λ (n : ℕ). AllByRecursion P (take n asked)) next (more_kept P asked k rule e p a)

  pub kept_before : (k : ℕ) (rule : StoryRule) → slice_get asked k ≡ Some rule → AllByRecursion P (take k asked) → (q : StoryRule) → number_of q < number_of rule → P q
  kept_before k rule e a q l = lower_kept P number_of 0 asked k rule q rising e a (all_asked q) l

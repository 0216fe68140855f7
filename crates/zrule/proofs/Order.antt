-- The rules in their order.
use Rattle.std.proofs.Common.{◌≡◌, ◌⊎◌, inl, inr, ℕ, suc, ◌+◌, ◌<◌, List, [], ◌∷◌, take, Some, refl, arith, sym, ap, subst}
use Rattle.std.specs.Prelude.{slice_get, slice_index_or}
use Rattle.std.proofs.lemmas.Option.{get_or_from_slice_get}
use Rattle.zstory.specs.LoadedStory.{LoadedStory}
use Rattle.zdomain.specs.Domain.{SetOperations}
use Rattle.std.specs.List.{AllByRecursion}
use Rattle.zrule.specs.declared.rule.Rule.{Rule}
use Rattle.zrule.specs.declared.rule.Rule.TheVariants.{Decodes, Height, Local, Successor, Object, Attribute, Property, Divisor, Write, Read, Text, Called, Returned, Buffers, Known, Stored, High, Status}
use Rattle.zrule.specs.Claims.{Claims, Entry}
use Rattle.zrule.specs.Numbers.{number_of}
use Rattle.zrule.specs.Rules.{IsLowestBroken, Keeps}
use Rattle.zrule.proofs.Sets.{some_at}
use Rattle.zrule.proofs.Ordered.{IsAmong, Rises, among_above, among_kept, more_kept, lower_kept}

-- those that are asked of an instruction that is there
abbrev pub asked : List Rule
asked = Height ∷ Local ∷ Successor ∷ Object ∷ Attribute ∷ Property ∷ Divisor ∷ Write ∷ Read ∷ Text ∷ Called ∷ Returned ∷ Buffers ∷ Known ∷ Stored ∷ High ∷ Status ∷ []

-- every other rule is one of them
others : (q : Rule) → (q ≡ Decodes) ⊎ IsAmong q asked
others Decodes = inl refl
others Height = inr (inl refl)
others Local = inr (inr (inl refl))
others Successor = inr (inr (inr (inl refl)))
others Object = inr (inr (inr (inr (inl refl))))
others Attribute = inr (inr (inr (inr (inr (inl refl)))))
others Property = inr (inr (inr (inr (inr (inr (inl refl))))))
others Divisor = inr (inr (inr (inr (inr (inr (inr (inl refl)))))))
others Write = inr (inr (inr (inr (inr (inr (inr (inr (inl refl))))))))
others Read = inr (inr (inr (inr (inr (inr (inr (inr (inr (inl refl)))))))))
others Text = inr (inr (inr (inr (inr (inr (inr (inr (inr (inr (inl refl))))))))))
others Called = inr (inr (inr (inr (inr (inr (inr (inr (inr (inr (inr (inl refl)))))))))))
others Returned = inr (inr (inr (inr (inr (inr (inr (inr (inr (inr (inr (inr (inl refl))))))))))))
others Buffers = inr (inr (inr (inr (inr (inr (inr (inr (inr (inr (inr (inr (inr (inl refl)))))))))))))
others Known = inr (inr (inr (inr (inr (inr (inr (inr (inr (inr (inr (inr (inr (inr (inl refl))))))))))))))
others Stored = inr (inr (inr (inr (inr (inr (inr (inr (inr (inr (inr (inr (inr (inr (inr (inl refl)))))))))))))))
others High = inr (inr (inr (inr (inr (inr (inr (inr (inr (inr (inr (inr (inr (inr (inr (inr (inl refl))))))))))))))))
others Status = inr (inr (inr (inr (inr (inr (inr (inr (inr (inr (inr (inr (inr (inr (inr (inr (inr (inl refl)))))))))))))))))

-- and their numbers rise
rising : Rises number_of (number_of Decodes) asked
rising = (omega arith, (omega arith, (omega arith, (omega arith, (omega arith, (omega arith, (omega arith, (omega arith, (omega arith, (omega arith, (omega arith, (omega arith, (omega arith, (omega arith, (omega arith, (omega arith, (omega arith, tt)))))))))))))))))

module _ (P : Rule → Type 0) where
  pub kept_all : P Decodes → AllByRecursion P asked → (q : Rule) → P q
  kept_all d a q = by_others (others q)
    where
      by_others : (q ≡ Decodes) ⊎ IsAmong q asked → P q
      by_others (inl same) = subst P (sym same) d
      by_others (inr among) = among_kept P asked q a among

  pub kept_more : (k : ℕ) (rule : Rule) → slice_get asked k ≡ Some rule → P rule → AllByRecursion P (take k asked) → AllByRecursion P (take (k + 1) asked)
  kept_more k rule e p a =
      let next : suc k ≡ k + 1 = omega arith in
      subst (λ (n : ℕ). AllByRecursion P (take n asked)) next (more_kept P asked k rule e p a)

  -- so does the next, where it is one of them
  pub kept_next : (k : ℕ) (default : Rule) → k < 17 → P (slice_index_or asked k default) → AllByRecursion P (take k asked) → AllByRecursion P (take (k + 1) asked)
  kept_next k default within p a =
      let at = some_at asked k within in
      let same : slice_index_or asked k default ≡ at.0 = get_or_from_slice_get asked k at.0 default at.1 in
      kept_more k at.0 at.1 (subst P same p) a

  pub kept_before : P Decodes → (k : ℕ) (rule : Rule) → slice_get asked k ≡ Some rule → AllByRecursion P (take k asked) → (q : Rule) → number_of q < number_of rule → P q
  kept_before d k rule e a q l = by_others (others q)
    where
      by_others : (q ≡ Decodes) ⊎ IsAmong q asked → P q
      by_others (inl same) = subst P (sym same) d
      by_others (inr among) = lower_kept P number_of (number_of Decodes) asked k rule q rising e a among l

  -- none is below the first of all
  pub none_below : (q : Rule) → number_of q < number_of Decodes → P q
  none_below q l = absurd (by_others (others q))
    where
      by_others : (q ≡ Decodes) ⊎ IsAmong q asked → ⊥
      by_others (inl same) = let equal = ap number_of same in omega (arith, l, equal)
      by_others (inr among) = let above = among_above number_of (number_of Decodes) asked q rising among in omega (arith, l, above)

-- the first that doesn't hold is the lowest that is broken
pub lowest_broken : {V : Type 0} (o : SetOperations V) (claims : Claims V) (story : LoadedStory) (p : ℕ) (e : Entry V) (k : ℕ) (default : Rule) → k < 17 → (Keeps o claims story p e (slice_index_or asked k default) → ⊥) → Keeps o claims story p e Decodes → AllByRecursion (Keeps o claims story p e) (take k asked) → IsLowestBroken o claims story p e (slice_index_or asked k default)
lowest_broken o claims story p e k default within broken there kept =
    let at = some_at asked k within in
    let same : slice_index_or asked k default ≡ at.0 = get_or_from_slice_get asked k at.0 default at.1 in
    record { broken = broken; before = λ other less. kept_before (Keeps o claims story p e) there k at.0 at.1 kept other (subst (λ (r : Rule). number_of other < number_of r) same less) }

-- The first place, by the instruction that is listed there.
use Rattle.std.proofs.Common.{◌≡◌, ◌↔◌, [], reverse, Option, Some, None, refl, sym, ◌∙◌, ap, subst}
use Rattle.std.specs.Prelude.{MatchOption, option_map}
use Rattle.std.proofs.lemmas.List.{reverse-reverse}
use Rattle.std.proofs.lemmas.Option.{same_Some}
use Rattle.zstory.specs.LoadedStory.{LoadedStory, first_instruction}
use Rattle.zdomain.specs.Domain.{SetOperations}
use Rattle.zcert.specs.Certificate.{Instruction, Certificate}
use Rattle.zcert.specs.Listed.{listed_at}
use Rattle.zrule.specs.Claims.{Entry, claims_of, entry_of}
use Rattle.zcert.specs.Facts.{facts_at}
use Rattle.zrule.specs.Rules.{AreImplied, HasFirstPlace}
use Rattle.zcheck.specs.Bare.{IsBare}

module _ {V : Type 0} (o : SetOperations V) (c : Certificate V) (story : LoadedStory) where
  pub first_where : (i : Instruction V) → Some i ≡ listed_at c.instructions (first_instruction story) → HasFirstPlace o (claims_of o c) story ↔ ((i.routine ≡ 0) × (i.locals ≡ []) × (i.slots ≡ []) × AreImplied o c.globals (facts_at c.facts (first_instruction story)))
  first_where i listed = (there, back)
    where
      here : (claims_of o c).entry (first_instruction story) ≡ Some (entry_of i)
      here = ap (option_map entry_of) (sym listed)

      there : HasFirstPlace o (claims_of o c) story → (i.routine ≡ 0) × (i.locals ≡ []) × (i.slots ≡ []) × AreImplied o c.globals (facts_at c.facts (first_instruction story))
      there first =
          let same : first.entry ≡ entry_of i = same_Some first.entry (entry_of i) (sym first.listed ∙ here) in
          let none : reverse i.slots ≡ [] = subst (λ (e : Entry V). e.shape.slots ≡ []) same first.no_slots in
          (subst (λ (e : Entry V). e.routine ≡ 0) same first.main, subst (λ (e : Entry V). e.shape.locals ≡ []) same first.no_locals, sym (reverse-reverse i.slots) ∙ ap reverse none, first.implied)

      back : (i.routine ≡ 0) × (i.locals ≡ []) × (i.slots ≡ []) × AreImplied o c.globals (facts_at c.facts (first_instruction story)) → HasFirstPlace o (claims_of o c) story
      back (main, locals, slots, implied) = record { entry = entry_of i; listed = here; main = main; no_locals = locals; no_slots = ap reverse slots; implied = implied }

  pub first_nowhere : listed_at c.instructions (first_instruction story) ≡ None → HasFirstPlace o (claims_of o c) story → ⊥
  first_nowhere none first = let listed = first.listed in absurd (let nowhere = sym (ap (option_map entry_of) none) ∙ listed in cc)

  -- so it is told by what is listed there, and by the facts
  pub first_bare : HasFirstPlace o (claims_of o c) story ↔ (MatchOption (listed_at c.instructions (first_instruction story)) ⊥ IsBare × AreImplied o c.globals (facts_at c.facts (first_instruction story)))
  first_bare = by_listed (listed_at c.instructions (first_instruction story)) refl
    where
      by_listed : (l : Option (Instruction V)) → listed_at c.instructions (first_instruction story) ≡ l → HasFirstPlace o (claims_of o c) story ↔ (MatchOption l ⊥ IsBare × AreImplied o c.globals (facts_at c.facts (first_instruction story)))
      by_listed None e = (λ h. absurd (first_nowhere e h), λ h. absurd h.0)
      by_listed (Some i) e =
          let told = first_where i (sym e) in
          (λ h. let all = told.0 h in ((all.0, all.1, all.2), all.3), λ h. told.1 (h.0.0, h.0.1, h.0.2, h.1))

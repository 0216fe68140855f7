-- An edge to a listed place.
use Rattle.std.proofs.Common.{◌≡◌, ◌↔◌, ℕ, Bool, ℤ, pos, ◌+ℤ◌, true, false, List, Some, None, arith, ap, inl, inr, refl, sym, ◌∙◌, subst}
use Rattle.std.proofs.lemmas.Option.{same_Some}
use Rattle.std.specs.Prelude.{IfSome, IsTrue, option_map, slice_get}
use Rattle.std.proofs.lemmas.Option.{slice_get_cases}
use Rattle.zcert.specs.Certificate.{Certificate, Instruction}
use Rattle.zcert.specs.Listed.{Finds}
use Rattle.zdomain.specs.Domain.{SetOperations}
use Rattle.zflow.specs.Transfer.{Shape}
use Rattle.zrule.specs.Claims.{Entry, Claims, claims_of, entry_of}
use Rattle.zcert.specs.Facts.{facts_at}
use Rattle.zrule.specs.Rules.{AreImplied, Covers, Leads}

-- an edge to a place where this is listed
pub leads_where : {V : Type 0} (o : SetOperations V) (claims : Claims V) (routine : ℕ) (globals : List V) (shape : Shape V) (to : ℕ) (next : Entry V) → claims.entry to ≡ Some next → Leads o claims routine globals shape to ↔ ((next.routine ≡ routine) × Covers o shape next.shape × AreImplied o globals (claims.facts to))
leads_where o claims routine globals shape to next listed = (there, λ h. record { entry = next; listed = listed; same = h.0; covered = h.1; implied = h.2 })
  where
    there : Leads o claims routine globals shape to → (next.routine ≡ routine) × Covers o shape next.shape × AreImplied o globals (claims.facts to)
    there leads =
        let same : leads.entry ≡ next = same_Some leads.entry next (sym leads.listed ∙ listed) in
        (subst (λ (e : Entry _). e.routine ≡ routine) same leads.same, subst (λ (e : Entry _). Covers o shape e.shape) same leads.covered, leads.implied)

pub leads_nowhere : {V : Type 0} (o : SetOperations V) (claims : Claims V) (routine : ℕ) (globals : List V) (shape : Shape V) (to : ℕ) → claims.entry to ≡ None → Leads o claims routine globals shape to → ⊥
leads_nowhere o claims routine globals shape to none leads = let listed = leads.listed in absurd cc

-- an edge to what was found at an index
module _ {V : Type 0} (o : SetOperations V) (c : Certificate V) (routine : ℕ) (globals : List V) (shape : Shape V) (to k : ℕ) (b : Bool) (found : Finds c.instructions to (Some k)) (says : IfSome (slice_get c.instructions k) (λ i. IsTrue b ↔ ((i.routine ≡ routine) × Covers o shape (entry_of i).shape))) where
  abbrev pub LeadsThere : Type 0
  LeadsThere = Leads o (claims_of o c) routine globals shape to

  pub leads_found : (IsTrue b × AreImplied o globals (facts_at c.facts to)) ↔ LeadsThere
  leads_found = elim (slice_get_cases c.instructions k).1 [
    | inl (i, low, there, same) ↦ by_one i there
    | inr (high, none) ↦ absurd (let low = found.0 in omega (arith, low, high))
  ]
    where
      by_one : (i : Instruction V) → slice_get c.instructions k ≡ Some i → (IsTrue b × AreImplied o globals (facts_at c.facts to)) ↔ LeadsThere
      by_one i there =
          let listed : (claims_of o c).entry to ≡ Some (entry_of i) = ap (option_map entry_of) (found.1 ∙ there) in
          let leads = leads_where o (claims_of o c) routine globals shape to (entry_of i) listed in
          let tells : IsTrue b ↔ ((i.routine ≡ routine) × Covers o shape (entry_of i).shape) = rw there at says in
          (λ t. let one = tells.0 t.0 in leads.1 (one.0, one.1, t.1), λ l. let all = leads.0 l in (tells.1 (all.0, all.1), all.2))

  -- where the frame fits, the facts decide
  pub leads_by_facts : (d : Bool) → b ≡ true → IsTrue d ↔ AreImplied o globals (facts_at c.facts to) → IsTrue d ↔ LeadsThere
  leads_by_facts d fits told = (λ t. leads_found.0 (subst IsTrue (sym fits) refl, told.0 t), λ l. told.1 (leads_found.1 l).1)

  pub leads_unfit : (d : Bool) → b ≡ false → d ≡ false → IsTrue d ↔ LeadsThere
  leads_unfit d unfit none = (λ t. absurd (let e = none in cc), λ l. absurd (let fits = (leads_found.1 l).0 in let f = unfit in cc))

-- where a place so far ahead is one
pub ahead_where : (q to : ℕ) (d : ℤ) (There : ℕ → Type 0) (b : Bool) → pos q +ℤ d ≡ pos to → IsTrue b ↔ There to → IsTrue b ↔ ((x : ℕ) × (pos q +ℤ d ≡ pos x) × There x)
ahead_where q to d There b same told = (λ t. (to, same, told.0 t), λ h. told.1 (let is : h.0 ≡ to = (let other = h.1 in cc) in subst There is h.2))

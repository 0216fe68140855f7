-- What is asked of the place behind a call, whatever the routine gives.
use Rattle.std.proofs.Common.{◌≡◌, ◌↔◌, ℕ, zero, suc, ◌-◌, ◌<◌, Bool, true, false, List, [], ◌∷◌, Option, Some, None, refl, subst, arith}
use Rattle.std.specs.Prelude.{◌==◌, nat_lt, if◌then◌else◌, slice_get, slice_set}
use Rattle.std.specs.List.{AllZip}
use Rattle.std.proofs.lemmas.Option.{same_Some}
use Rattle.zdomain.specs.Domain.{In, SetOperations, Within}
use Rattle.zflow.specs.Transfer.{Shape, with_result}
use Rattle.zrule.specs.Claims.{Claims, Entry}
use Rattle.zrule.specs.Edges.{IsNextAbove, stated_for}
use Rattle.zrule.specs.Rules.{EachCallee, Leads, result_at}
use Rattle.zrule.proofs.Together.{leads_narrower}

module _ {V : Type 0} (o : SetOperations V) where
  abbrev Lie : List V → List V → Type 0
  Lie = AllZip (Within o)

  -- a set in its place decides beside all others
  put_stated : (xs ys : List V) (k : ℕ) (s stated : V) → slice_get ys k ≡ Some stated → Lie (slice_set xs k s) ys → Lie (slice_set xs k stated) ys × Within o s stated
  put_stated xs [] k s stated is z = absurd cc
  put_stated [] (y ∷ ys) k s stated is z = absurd z
  put_stated (x ∷ xs) (y ∷ ys) zero s stated is z =
      let same = same_Some y stated is in
      ((subst (λ a. Within o a y) same (λ n inside. inside), z.1), subst (λ a. Within o s a) same z.0)
  put_stated (x ∷ xs) (y ∷ ys) (suc k) s stated is z = let rest = put_stated xs ys k s stated is z.1 in ((z.0, rest.0), rest.1)

  -- one behind all of them decides nothing
  put_past : (xs ys : List V) (k : ℕ) (s t : V) → slice_get ys k ≡ None → Lie (slice_set xs k s) ys → Lie (slice_set xs k t) ys
  put_past [] ys k s t is z = z
  put_past (x ∷ xs) [] zero s t is z = absurd z
  put_past (x ∷ xs) [] (suc k) s t is z = absurd z
  put_past (x ∷ xs) (y ∷ ys) zero s t is z = absurd cc
  put_past (x ∷ xs) (y ∷ ys) (suc k) s t is z = (z.0, put_past xs ys k s t is z.1)

  -- a slot (c), a local (d), or neither
  module _ (locals slots : List V) (e : Shape V) (k : ℕ) where
    abbrev Covered : Bool → Bool → V → Type 0
    Covered c d s = Lie (if c then locals else (if d then slice_set locals k s else locals)) e.locals × Lie (if c then s ∷ slots else slots) e.slots

    abbrev stated_where : Bool → Bool → Option V
    stated_where c d = if c then slice_get e.slots 0 else (if d then slice_get e.locals k else None)

    top_stated : (ys : List V) (s stated : V) → slice_get ys 0 ≡ Some stated → Lie (s ∷ slots) ys → Lie (stated ∷ slots) ys × Within o s stated
    top_stated [] s stated is z = absurd z
    top_stated (y ∷ ys) s stated is z =
        let same = same_Some y stated is in
        ((subst (λ a. Within o a y) same (λ n inside. inside), z.1), subst (λ a. Within o s a) same z.0)

    top_past : (ys : List V) (s : V) → slice_get ys 0 ≡ None → Lie (s ∷ slots) ys → ⊥
    top_past [] s is z = z
    top_past (y ∷ ys) s is z = absurd cc

    covered_stated : (c d : Bool) (s stated : V) → stated_where c d ≡ Some stated → Covered c d s → Covered c d stated × Within o s stated
    covered_stated true d s stated is z = let top = top_stated e.slots s stated is z.1 in ((z.0, top.0), top.1)
    covered_stated false true s stated is z = let put = put_stated locals e.locals k s stated is z.0 in ((put.0, z.1), put.1)
    covered_stated false false s stated is z = absurd cc

    covered_past : (c d : Bool) (s t : V) → stated_where c d ≡ None → Covered c d s → Covered c d t
    covered_past true d s t is z = absurd (top_past e.slots s is z.1)
    covered_past false true s t is z = (put_past locals e.locals k s t is z.0, z.1)
    covered_past false false s t is z = z

module _ {V : Type 0} (o : SetOperations V) (claims : Claims V) (routine v to : ℕ) (f : Shape V) where
  abbrev LeadsWith : V → Type 0
  LeadsWith s = Leads o claims routine claims.globals (with_result (Some s) v f) to

  leads_stated : (s stated : V) → stated_for v (claims.entry to) ≡ Some stated → LeadsWith s → LeadsWith stated × Within o s stated
  leads_stated s stated is leads =
      let there : stated_for v (Some leads.entry) ≡ Some stated = subst (λ (e : Option (Entry V)). stated_for v e ≡ Some stated) leads.listed is in
      let covered = covered_stated o f.locals f.slots leads.entry.shape (v - 1) (v == 0) (nat_lt v 16) s stated there (leads.covered.locals, leads.covered.slots) in
      (record { entry = leads.entry; listed = leads.listed; same = leads.same; covered = record { locals = covered.0.0; slots = covered.0.1 }; implied = leads.implied }, covered.1)

  leads_any : (s t : V) → stated_for v (claims.entry to) ≡ None → LeadsWith s → LeadsWith t
  leads_any s t is leads =
      let there : stated_for v (Some leads.entry) ≡ None = subst (λ (e : Option (Entry V)). stated_for v e ≡ None) leads.listed is in
      let covered = covered_past o f.locals f.slots leads.entry.shape (v - 1) (v == 0) (nat_lt v 16) s t there (leads.covered.locals, leads.covered.slots) in
      record { entry = leads.entry; listed = leads.listed; same = leads.same; covered = record { locals = covered.0; slots = covered.1 }; implied = leads.implied }

  abbrev IsCalled : V → Type 0
  IsCalled set = (w : ℕ) × In o set w × (0 < w)

  -- whatever comes back of a routine
  abbrev EachLeads : V → Type 0
  EachLeads set = EachCallee o claims set (λ p. LeadsWith (result_at o claims p))

  abbrev EachGiven : V → V → Type 0
  EachGiven set stated = EachCallee o claims set (λ p. Within o (result_at o claims p) stated)

  above_none : (w : ℕ) → 0 < w → w ≡ 0 → ⊥
  above_none w above is = omega (arith, above, is)

  -- where a set is stated for it, it lies in that, and that leads on
  pub back_stated : (set stated : V) → stated_for v (claims.entry to) ≡ Some stated → IsCalled set → EachLeads set ↔ (LeadsWith stated × EachGiven set stated)
  back_stated set stated is called = (there, λ h x inside some. leads_narrower o claims routine claims.globals f v to _ stated (h.1 x inside some) h.0)
    where
      there : EachLeads set → LeadsWith stated × EachGiven set stated
      there h = ((leads_stated _ stated is (h called.0 called.1 (above_none called.0 called.2))).0, λ x inside some. (leads_stated _ stated is (h x inside some)).1)

  -- and where none is, it may be anything
  pub back_any : (set any : V) → stated_for v (claims.entry to) ≡ None → IsCalled set → EachLeads set ↔ LeadsWith any
  back_any set any is called = (λ h. leads_any _ any is (h called.0 called.1 (above_none called.0 called.2)), λ h x inside some. leads_any any _ is h)

  -- nothing comes back where no routine is called
  pub back_nowhere : (set : V) (next : Option ℕ) → IsNextAbove o set 0 next → next ≡ None → EachLeads set
  back_nowhere set None least is x inside some = absurd (some (let few = least x inside in omega (arith, few)))
  back_nowhere set (Some w) least is x inside some = absurd cc

  pub some_called : (set : V) (next : Option ℕ) → IsNextAbove o set 0 next → (next ≡ None → ⊥) → IsCalled set
  some_called set None least is = absurd (is refl)
  some_called set (Some w) least is = (w, least.0, least.1)

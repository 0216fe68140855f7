-- Where a step leads, as the rules expect it, from a described state.
use Rattle.std.proofs.Common.{Bool, ◌≡◌, ℕ, suc, ◌+◌, true, List, [], ◌∷◌, Option, Some, None, refl, sym, ap, subst, ◌∙◌, arith}
use Rattle.std.specs.Prelude.{ℤ, pos, ◌+ℤ◌}
use Rattle.std.specs.List.{AllZip}
use Rattle.zcode.specs.declared.instr.Destination.{Destination}
use Rattle.zcode.specs.declared.instr.Destination.TheVariants.{ReturnFalse, ReturnTrue, Relative}
use Rattle.zcode.specs.Instruction.{Instruction}
use Rattle.zcode.specs.Operation.{target}
use Rattle.zdomain.specs.Domain.{SetOperations, AreSound, In}
use Rattle.zstate.specs.State.{Frame, State, Setting, IsState, at_place, exists, put}
use Rattle.zstate.specs.Step.{Called, Move, on, back, into, called_at, unpacked, initial, behind_head, place_of, entered, has_caller, is_taken, turned, left, moved}
use Rattle.zstate.proofs.Keeps.{put_aside}
use Rattle.zflow.specs.declared.parts.Lead.{Lead}
use Rattle.zflow.specs.declared.parts.Lead.TheVariants.{Ahead, Returning, Entering}
use Rattle.zflow.specs.Transfer.{Shape, argument_sets, turned_to, with_result}
use Rattle.zrule.specs.Claims.{Claims, globals_at}
use Rattle.zrule.specs.Rules.{LieIn, Begins, Enters, TakesBack, result_if, result_at, Leads, SupportsWhere, Takes, GoesOn, Returns}
use Rattle.zrule.specs.Described.{Callers, Described, DescribedMemory, FitsWith, IsLoadedStory}
use Rattle.zrule.proofs.Called.{starts_in}
use Rattle.zrule.proofs.Told.{implied_hold}
use Rattle.zrule.proofs.Fitting.{IsIn, exists_in, given_fits, covered, covered_with, fits_there, Mid, put_mid}

module _ {V : Type 0} (o : SetOperations V) (lawful : AreSound o) (claims : Claims V) (m : Setting) (loaded : IsLoadedStory m.story) {marked : ℕ → Bool} (supports : SupportsWhere o claims marked m.story) (s : State) (d : Described o claims m.limit m.story s) (i : Instruction) where
  -- a state in mid-instruction, of which this is known
  abbrev Known_in : Shape V → State → Type 0
  Known_in e u = Mid o claims m.story loaded supports.tables d.entry.routine e u

  abbrev given_args : List V
  given_args = argument_sets o (globals_at claims d.at) i d.entry.shape

  unfoldable pub IsCall : ℕ → Called → Type 0
  IsCall p called = (xs : List ℕ) × AllZip (In o) given_args xs × (called ≡ called_at m.story.memory p xs)

  unfoldable pub LeadsIn : Lead V → Move → Type 0
  LeadsIn (Ahead a) (on b) = a ≡ b
  LeadsIn (Returning a) (back x) = In o a x
  LeadsIn (Entering a) (into called) = (x : ℕ) × In o a x × (x ≡ 0 → ⊥) × IsCall (unpacked x) called
  LeadsIn (Ahead a) (back x) = ⊥
  LeadsIn (Ahead a) (into called) = ⊥
  LeadsIn (Returning a) (on b) = ⊥
  LeadsIn (Returning a) (into called) = ⊥
  LeadsIn (Entering a) (on b) = ⊥
  LeadsIn (Entering a) (back x) = ⊥

  pub turned_in : (way : Option Destination) (lead : Lead V) (move : Move) → LeadsIn lead move → LeadsIn (turned_to o way lead) (turned way move)
  unfolding LeadsIn
  turned_in None lead move h = h
  turned_in (Some (Relative x)) lead move h = refl
  turned_in (Some ReturnFalse) lead move h = lawful.single 0 (omega arith)
  turned_in (Some ReturnTrue) lead move h = lawful.single 1 (omega arith)

  -- ---- by where it leads

  -- to a place, where less is stated than is known
  arrives : (globals : List V) (e : Shape V) (u : State) (to : ℕ) → Known_in e u → LieIn o globals m.story u.memory → u.place ≡ pos to → Leads o claims d.entry.routine globals e to → IsState m.limit m.story u → Described o claims m.limit m.story u
  arrives globals e u to known lie place leads state = record {
    is_state = state;
    at = to;
    place = place;
    entry = leads.entry;
    listed = leads.listed;
    fits = covered o claims e leads.entry.shape u.frame.locals u.frame.stack leads.covered known.fits;
    callers = subst (λ (r : ℕ). Callers o claims r u.frame.return_place u.frame.result u.callers) (sym leads.same) known.callers;
    memory = known.memory;
    facts = implied_hold o m.story globals (claims.facts to) u.memory lie leads.implied;
  }

  -- back to the caller: the tie to it is used up
  returned : (a : V) (x : ℕ) (u : State) (gs : List Frame) → In o a x → Returns o claims d.entry.routine (Returning a) → DescribedMemory o claims m.story u.memory → Callers o claims d.entry.routine u.frame.return_place u.frame.result gs → IsState m.limit m.story (left m.story x gs u) → Described o claims m.limit m.story (left m.story x gs u)
  returned a x u [] member rule kept callers state = absurd (omega (arith, rule.0, callers))
  returned a x u (g ∷ gs) member rule kept callers state =
      let e = callers.1 in let v = u.frame.result in
      let caller : State = record u { frame = g; callers = gs; place = pos u.frame.return_place } in
      let known = put_mid o claims m.story loaded supports.tables e.routine v x e.shape caller (callers.3 x (rule.1 x member)) kept callers.5 in
      record {
        is_state = state;
        at = u.frame.return_place;
        place = (put_aside m.story v x caller).place;
        entry = e;
        listed = callers.2;
        fits = known.fits;
        callers = known.callers;
        memory = known.memory;
        facts = implied_hold o m.story claims.globals (claims.facts u.frame.return_place) (put m.story v x caller).memory known.memory.values callers.4;
      }

  -- into a routine: one tie more
  enters : (p : ℕ) (called : Called) (e : Shape V) (u : State) → IsCall p called → u.place ≡ pos (d.at + i.size) → Known_in e u → IsIn (target i) u.frame.locals → Begins o claims m.story given_args p
      → Leads o claims d.entry.routine claims.globals (with_result (Some (result_at o claims p)) (target i) e) (d.at + i.size) → Takes o claims (Some (result_at o claims p)) (target i) → IsState m.limit m.story (entered called (target i) u) → Described o claims m.limit m.story (entered called (target i) u)
  unfolding IsCall
  enters p called e u (xs, zip, is) place known exists begins leads takes state =
      let v = target i in let q = d.at + i.size in
      let result : result_at o claims p ≡ claims.result (suc begins.index) = ap (result_if o claims) begins.routine in
      let tie : (x : ℕ) → In o (claims.result (suc begins.index)) x → FitsWith o claims v x leads.entry.shape u.frame = λ x member.
      covered_with o claims v x _ leads.entry.shape u.frame leads.covered (given_fits o claims v x (result_at o claims p) e u.frame (subst (λ (a : V). In o a x) (sym result) member) exists takes known.fits) in
      let rest : Callers o claims leads.entry.routine u.frame.return_place u.frame.result u.callers = subst (λ (r : ℕ). Callers o claims r u.frame.return_place u.frame.result u.callers) (sym leads.same) known.callers in
      let back : Callers o claims (suc begins.index) q v (u.frame ∷ u.callers) = (omega arith, leads.entry, leads.listed, tie, leads.implied, rest) in
      let at : (z : ℤ) → z ≡ pos q → Callers o claims (suc begins.index) (place_of z) v (u.frame ∷ u.callers) = λ z same. subst (λ (y : ℤ). Callers o claims (suc begins.index) (place_of y) v (u.frame ∷ u.callers)) (sym same) back in
      record {
        is_state = state;
        at = behind_head m.story.memory p;
        place = ap (λ (k : Called). pos k.place) is;
        entry = begins.entry;
        listed = begins.listed;
        fits = record {
          in_locals = subst (λ (k : Called). AllZip (In o) begins.entry.shape.locals k.locals) (sym is) (starts_in o claims given_args (initial m.story.memory p) begins.entry.shape.locals xs begins.starts zip);
          in_slots = subst (λ (slots : List V). AllZip (In o) slots []) (sym begins.empty) tt;
        };
        callers = subst (λ (r : ℕ). Callers o claims r (place_of u.place) v (u.frame ∷ u.callers)) (sym begins.same) (at u.place place);
        memory = known.memory;
        facts = implied_hold o m.story claims.globals (claims.facts (behind_head m.story.memory p)) u.memory known.memory.values begins.implied;
      }

  -- whatever it is
  pub lands : (lead : Lead V) (move : Move) (globals : List V) (e : Shape V) (u : State) → LeadsIn lead move → u.place ≡ pos (d.at + i.size) → Known_in e u → LieIn o globals m.story u.memory → IsIn (target i) u.frame.locals
      → GoesOn o claims d.entry.routine (target i) globals e (d.at + i.size) lead → Enters o claims m.story given_args lead → Returns o claims d.entry.routine lead → TakesBack o claims (target i) lead
      → IsState m.limit m.story (moved m.story (target i) move u) → Described o claims m.limit m.story (moved m.story (target i) move u)
  unfolding LeadsIn
  lands (Ahead a) (on b) globals e u is place known lie exists follows begins returns takes state =
      let there : u.place +ℤ b ≡ pos follows.0 = ap (λ (p : ℤ). p +ℤ b) place ∙ ap (λ (x : ℤ). pos (d.at + i.size) +ℤ x) (sym is) ∙ follows.1 in
      arrives globals e (at_place (u.place +ℤ b) u) follows.0 (record { memory = known.memory; fits = known.fits; callers = known.callers }) lie there follows.2 state
  lands (Returning a) (back x) globals e u is place known lie exists follows begins returns takes state = returned a x u u.callers is returns known.memory known.callers state
  lands (Entering a) (into called) globals e u (x, member, some, call) place known lie exists follows begins returns takes state =
      enters (unpacked x) called e u call place known exists (begins x member some) (follows x member some) (takes x member some) state
  lands (Ahead a) (back x) globals e u is place known lie exists follows begins returns takes state = absurd is
  lands (Ahead a) (into called) globals e u is place known lie exists follows begins returns takes state = absurd is
  lands (Returning a) (on b) globals e u is place known lie exists follows begins returns takes state = absurd is
  lands (Returning a) (into called) globals e u is place known lie exists follows begins returns takes state = absurd is
  lands (Entering a) (on b) globals e u is place known lie exists follows begins returns takes state = absurd is
  lands (Entering a) (back x) globals e u is place known lie exists follows begins returns takes state = absurd is

  -- ---- no fault in the judging

  pub judged : (lead : Lead V) (move : Move) (v return_place : ℕ) (gs : List Frame) → LeadsIn lead move → Returns o claims d.entry.routine lead → Callers o claims d.entry.routine return_place v gs → (has_caller move gs ≡ true) × (is_taken move v gs ≡ true)
  unfolding LeadsIn
  judged lead (on b) v r gs is rule callers = (refl, refl)
  judged lead (into called) v r gs is rule callers = (refl, refl)
  judged (Ahead a) (back x) v r gs is rule callers = absurd is
  judged (Entering a) (back x) v r gs is rule callers = absurd is
  judged (Returning a) (back x) v r [] is rule callers = absurd (omega (arith, rule.0, callers))
  judged (Returning a) (back x) v r (g ∷ gs) is rule callers = (refl, exists_in v g (fits_there o claims v x callers.1.shape g (callers.3 x (rule.1 x is))))

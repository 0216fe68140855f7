-- A step from a described state can be made, unless an event is wanted: low stacks have room.
use Rattle.std.proofs.Common.{◌≡◌, ◌⊎◌, inl, inr, ℕ, ◌-◌, ◌<◌, ◌≤◌, Bool, true, false, List, [], ◌∷◌, length, Result, Ok, Err, refl, sym, ap, subst, ◌∙◌, arith, nat_lt, slice_set}
use Rattle.std.specs.Prelude.{MatchOption, slice_get, ◌==◌}
use Rattle.std.specs.Bool.{MatchBool}
use Rattle.std.proofs.lemmas.Bool.{ltb-false}
use Rattle.std.proofs.lemmas.List.{length-drop}
use Rattle.zcode.specs.declared.instr.Operand.{Operand}
use Rattle.zcode.specs.Instruction.{Instruction}
use Rattle.zcode.specs.Operation.{operation_of, inputs, target}
use Rattle.zdomain.specs.Domain.{SetOperations, AreSound, In}
use Rattle.zstate.specs.declared.halt.Halt.{Halt}
use Rattle.zstate.specs.declared.halt.Halt.TheVariants as halts
use Rattle.zstate.specs.InTurn.{◌>>=◌}
use Rattle.zstate.specs.State.{Frame, State, Setting, popped, has_room}
use Rattle.zstate.specs.Run.{IsFull}
use Rattle.zstate.specs.Step.{Called, Move, on, back, into, Effect, Done, effect_of, is_roomy, course, pauses, step}
use Rattle.zflow.specs.declared.parts.Lead.{Lead}
use Rattle.zflow.specs.declared.parts.Lead.TheVariants.{Ahead, Returning, Entering}
use Rattle.zflow.specs.declared.parts.Outcome.{Outcome}
use Rattle.zflow.specs.Transfer.{Shape, pops, leading}
use Rattle.zrule.specs.Claims.{Claims}
use Rattle.zrule.specs.Rules.{IsThere, SupportsWhere, Returns}
use Rattle.zrule.specs.Described.{Callers, Described, Fits, FitsWith, IsListedWhere, IsLoadedStory}
use Rattle.zrule.proofs.Sets.{zip_length}
use Rattle.zrule.proofs.Settling.{pauses_none, pauses_full, room_there}
use Rattle.zrule.proofs.Stepping.{done_at, made_by}
use Rattle.zrule.proofs.Pieces.{not_both}
use Rattle.zfault.specs.declared.pause.Need.{Need}
use Rattle.zrule.proofs.Standing.{IsStill, Still, a_quit, a_need, a_prompt, a_restart}
use Rattle.zrule.proofs.Landing.{LeadsIn}
use Rattle.zrule.proofs.Safety.{Expected, ComesOf, Matches, admitted, all, expected, fetches, leads_in, returns, settled, steps, still_admitted}

module _ {V : Type 0} (o : SetOperations V) (lawful : AreSound o) (claims : Claims V) (m : Setting) (loaded : IsLoadedStory m.story) {marked : ℕ → Bool} (supports : SupportsWhere o claims marked m.story) (listed : IsListedWhere o claims marked m.scope) (s : State) (d : Described o claims m.limit m.story s) (plain : marked d.at ≡ false) (i : Instruction) (there : IsThere m.story d.at i) where
  abbrev operands : List Operand
  operands = inputs i

  abbrev t : State
  t = popped (pops operands) s

  pub low : length s.frame.stack ≤ 64
  low = let same = zip_length (In o) d.entry.shape.slots s.frame.stack d.fits.in_slots in let few = supports.low d.at d.entry d.listed in omega (arith, same, few)

  pub low_read : length t.frame.stack ≤ 64
  low_read = let e = length-drop (pops operands) s.frame.stack in let l = low in omega (arith, e, l)

  -- a caller has room for what is returned
  caller_room : (v x return_place : ℕ) (e : Shape V) (g : Frame) → length e.slots ≤ 64 → FitsWith o claims v x e g → has_room v g ≡ true
  caller_room v x return_place e g few h = by_stack (v == 0) refl h
    where
      by_stack : (b : Bool) → (v == 0) ≡ b → MatchBool b (Fits o claims e g.locals (x ∷ g.stack)) (MatchBool (nat_lt v 16) ((v ≤ length g.locals) × Fits o claims e (slice_set g.locals (v - 1) x) g.stack) ((v < 256) × MatchOption (slice_get claims.globals (v - 16)) ⊥ (λ values. In o values x) × Fits o claims e g.locals g.stack)) → has_room v g ≡ true
      by_stack true is fits = room_there v g (let same = zip_length (In o) e.slots (x ∷ g.stack) fits.in_slots in omega (arith, same, few))
      by_stack false is h = rw is refl

  -- so a return has room, and a call where the frames are fewer than there may be
  roomy : (lead : Lead V) (move : Move) (v return_place : ℕ) (gs : List Frame) → LeadsIn o lawful claims m loaded supports s d i lead move → Returns o claims d.entry.routine lead → Callers o claims d.entry.routine return_place v gs → is_roomy m.limit move v gs ≡ false → (called : Called) × (move ≡ into called) × (m.limit ≤ length gs)
  unfolding LeadsIn
  roomy lead (on b) v r gs is rule callers e = absurd cc
  roomy (Ahead a) (back x) v r gs is rule callers e = absurd is
  roomy (Entering a) (back x) v r gs is rule callers e = absurd is
  roomy (Returning a) (back x) v r [] is rule callers e = absurd cc
  roomy (Returning a) (back x) v r (g ∷ gs) is rule callers e = absurd (not_both (has_room v g) (caller_room v x r callers.1.shape g (supports.low r callers.1 callers.2) (callers.3 x (rule.1 x is))) e)
  roomy lead (into called) v r gs is rule callers e = (called, refl, ltb-false (length gs) m.limit e)

  -- it is made, or it is `quit`, or it needs an event, or is a call where there are as many frames as there may be
  IsAble : Result Done Halt → Type 0
  IsAble r = ((x : Done) × (r ≡ Ok x)) ⊎ ((r ≡ Err halts.Quit) ⊎ (((need : Need) × (r ≡ Err (halts.Need need))) ⊎ ((r ≡ Err halts.FrameLimit) × IsFull m s)))

  made_able : (w : Outcome V) (effect : Effect) → effect_of m (operation_of i.opcode) (all o lawful claims m loaded supports listed s d plain i there).values t ≡ Ok effect → ComesOf o lawful claims m loaded supports listed s d plain i there (operation_of i.opcode) w → Matches o lawful claims m loaded supports listed s d plain i there w effect → IsAble (made_by m s t i effect)
  unfolding IsAble
  made_able w effect does comes matches = by_room (is_roomy m.limit (course effect i.branch) s.frame.result s.callers) refl
    where
      ok : made_by m s t i effect ≡ (pauses m.limit (target i) effect (course effect i.branch) t >>= λ _. Ok (done_at m s t i effect))
      ok = settled o lawful claims m loaded supports listed s d plain i there effect (admitted o lawful claims m loaded supports listed s d plain i there w effect comes matches)

      by_room : (b : Bool) → is_roomy m.limit (course effect i.branch) s.frame.result s.callers ≡ b → ((x : Done) × (made_by m s t i effect ≡ Ok x)) ⊎ ((made_by m s t i effect ≡ Err halts.Quit) ⊎ (((need : Need) × (made_by m s t i effect ≡ Err (halts.Need need))) ⊎ ((made_by m s t i effect ≡ Err halts.FrameLimit) × IsFull m s)))
      by_room true e =
          let none = pauses_none m.limit (target i) effect (course effect i.branch) t matches.needs matches.goes (room_there (target i) t.frame low_read) e in
          inl (done_at m s t i effect, ok ∙ ap (λ (r : Result (Unit {0}) Halt). r >>= λ _. Ok (done_at m s t i effect)) none)
      by_room false e =
          let full = pauses_full m.limit (target i) effect (course effect i.branch) t matches.needs matches.goes (room_there (target i) t.frame low_read) e in
          let many = roomy (leading o w i.branch) (course effect i.branch) s.frame.result s.frame.return_place s.callers (leads_in o lawful claims m loaded supports listed s d plain i there w effect comes matches) (returns o lawful claims m loaded supports listed s d plain i there w effect comes matches) d.callers e in
          inr (inr (inr (ok ∙ ap (λ (r : Result (Unit {0}) Halt). r >>= λ _. Ok (done_at m s t i effect)) full, record { instruction = i; fetched = fetches o lawful claims m loaded supports listed s d plain i there; values = (all o lawful claims m loaded supports listed s d plain i there).values; after = t; read = (all o lawful claims m loaded supports listed s d plain i there).read; effect = effect; does = does; called = many.0; into = many.1; many = many.2 })))

  admitted_is : (effect : Effect) → Still effect → made_by m s t i effect ≡ (pauses m.limit (target i) effect (course effect i.branch) t >>= λ _. Ok (done_at m s t i effect))
  admitted_is effect still = settled o lawful claims m loaded supports listed s d plain i there effect (still_admitted o lawful claims m loaded supports listed s d plain i there effect still)

  -- what leads nowhere is no call, and a prompt or a restart is made
  still_able : (effect : Effect) → Still effect → IsStill effect → IsAble (made_by m s t i effect)
  unfolding IsAble pauses
  still_able effect still (a_quit needs quits) = let ok = admitted_is effect still in inr (inl (ok ∙ rw (needs, quits) refl))
  still_able effect still (a_need need needs) = let ok = admitted_is effect still in inr (inr (inl (need, ok ∙ rw needs refl)))
  still_able effect still (a_prompt line is) = let ok = admitted_is effect still in inl (done_at m s t i effect, ok ∙ rw is refl)
  still_able effect still (a_restart is) = let ok = admitted_is effect still in inl (done_at m s t i effect, ok ∙ rw is refl)

  able_by : (r : Result Effect Halt) → effect_of m (operation_of i.opcode) (all o lawful claims m loaded supports listed s d plain i there).values t ≡ r → Expected o lawful claims m loaded supports listed s d plain i there (operation_of i.opcode) r → IsAble (r >>= made_by m s t i)
  unfolding Expected IsAble
  able_by (Ok effect) does (inl still) = still_able effect still still.why
  able_by (Ok effect) does (inr (w, comes, matches)) = made_able w effect does comes matches
  able_by (Err h) does expected = absurd expected

  pub able_there : ((x : Done) × (step m s ≡ Ok x)) ⊎ ((step m s ≡ Err halts.Quit) ⊎ (((need : Need) × (step m s ≡ Err (halts.Need need))) ⊎ ((step m s ≡ Err halts.FrameLimit) × IsFull m s)))
  unfolding IsAble
  able_there = subst IsAble (sym (steps o lawful claims m loaded supports listed s d plain i there)) (able_by (effect_of m (operation_of i.opcode) (all o lawful claims m loaded supports listed s d plain i there).values t) refl (expected o lawful claims m loaded supports listed s d plain i there))

-- A session and the checked machine over one list.
use Rattle.std.proofs.Common.{◌≡◌, ◌↔◌, ℕ, zero, suc, ◌+◌, Bool, true, false, List, [], ◌∷◌, ◌++◌, Some, None, Ok, Err, if◌then◌else◌, refl, sym, ap, ◌∙◌, append_assoc, add-zero, arith}
use Rattle.std.specs.Prelude.{IsTrue}
use Rattle.std.proofs.lemmas.List.{append-nil}
use Rattle.zfault.specs.Answers.{answers}
use Rattle.zfault.specs.declared.item.Item.{Item}
use Rattle.zfault.specs.declared.pause.Need.TheVariants as needs
use Rattle.zfault.specs.declared.pause.Pause.{Pause}
use Rattle.zfault.specs.declared.pause.Pause.TheVariants as pauses
use Rattle.zcert.specs.Format.{Format}
use Rattle.zdomain.specs.Domain.{SetOperations, AreSound}
use Rattle.zstate.specs.declared.halt.Halt.{Halt}
use Rattle.zstate.specs.declared.halt.Halt.TheVariants as halts
use Rattle.zstate.specs.declared.halt.Stop.{Stop}
use Rattle.zstate.specs.declared.halt.Stop.TheVariants.{Paused}
use Rattle.zstate.specs.State.{Scope, Setting, State, give, scope_all, scope_only}
use Rattle.zstate.specs.Step.{Done, step}
use Rattle.zstate.specs.Run.{Ending, Given, Input, Restored, Stands, after, ends, handed, restored, run, stop_of, until}
use Rattle.zstate.proofs.Joins.{inputs_join, steps_join}
use Rattle.zstate.proofs.Calls.{stands_still}
use Rattle.zrule.specs.Described.{AreFine, Described, IsListedIn}
use Rattle.zrule.proofs.Alike.{run_alike}
use Rattle.zrule.proofs.Elsewhere.{accepted_fine}
use Rattle.zrule.proofs.Runs.{all_listed, run_safe}
use Rattle.zcheck.specs.Acceptance.{AcceptanceOver, AreAccepted, IsAcceptedSave, playing_in, limit_of}
use Rattle.zcheck.proofs.Saves.{are_fine, somewhere_accepted, taken_in}
use Rattle.zplay.specs.Accepted.{IsAccepted, claims}
use Rattle.zplay.specs.Calls.{AllDid, Call, Gave, IsMachinesRun, IsUnused, MovesAsMachine, Ran, Took, handed_in, steps_of}
use Rattle.zplay.specs.Session.{Accepts, setting_of}
use Rattle.zplay.proofs.Accepting.{listed_each, supported}
use Rattle.zplay.proofs.Asked.{waits_for}

-- ---- what is waited for

given_there : (b : Bool) (t : State) → IsTrue b → (if b then Some t else None) ≡ Some t
given_there true t is = refl
given_there false t is = absurd cc

-- ---- runs that stand still with something still to be handed in

stuck_unused : (m : Setting) (n : ℕ) (s : State) (h : Halt) (input : Input) (inputs : List Input) → step m s ≡ Err h → handed m h input s ≡ None → run m (input ∷ inputs) n s ≡ ends (stop_of h s) s
unfolding run until
stuck_unused m zero s h input inputs stuck none = rw (stuck, none) refl
stuck_unused m (suc n) s h input inputs stuck none = rw (stuck, none) refl

able_unused : (m : Setting) (s : State) (d : Done) (input : Input) (inputs : List Input) → step m s ≡ Ok d → run m (input ∷ inputs) 0 s ≡ ends (Paused pauses.Budget) s
unfolding run until
able_unused m s d input inputs able = rw able refl

halts_unused : (m : Setting) (k : ℕ) (stop : Stop) (t : State) (input : Input) (inputs : List Input) → (h : Halt) × (step m t ≡ Err h) × (stop ≡ stop_of h t) → ((h : Halt) → step m t ≡ Err h → handed m h input t ≡ None) → run m (input ∷ inputs) k t ≡ ends stop t
halts_unused m k stop t input inputs (h, stuck, why) unused = stuck_unused m k t h input inputs stuck (unused h stuck) ∙ ap (λ (x : Stop). ends x t) (sym why)

stands_unused : (m : Setting) (k : ℕ) (pause : Pause) (t : State) (input : Input) (inputs : List Input) → Stands m (Paused pause) t → (pause ≡ pauses.Budget → k ≡ 0) → ((h : Halt) → step m t ≡ Err h → handed m h input t ≡ None) → run m (input ∷ inputs) k t ≡ ends (Paused pause) t
stands_unused m k pauses.Budget t input inputs (d, able) none unused = let e : k ≡ 0 = none refl in rw e (able_unused m t d input inputs able)
stands_unused m k pauses.NeedLine t input inputs stands none unused = halts_unused m k (Paused pauses.NeedLine) t input inputs stands unused
stands_unused m k pauses.NeedRandom t input inputs stands none unused = halts_unused m k (Paused pauses.NeedRandom) t input inputs stands unused
stands_unused m k pauses.NeedSave t input inputs stands none unused = halts_unused m k (Paused pauses.NeedSave) t input inputs stands unused
stands_unused m k pauses.NeedRestore t input inputs stands none unused = halts_unused m k (Paused pauses.NeedRestore) t input inputs stands unused
stands_unused m k pauses.Quit t input inputs stands none unused = halts_unused m k (Paused pauses.Quit) t input inputs stands unused
stands_unused m k pauses.FrameLimit t input inputs stands none unused = halts_unused m k (Paused pauses.FrameLimit) t input inputs stands unused

same_pause : (pause : Pause) → Paused pause ≡ Paused pauses.Budget → pause ≡ pauses.Budget
same_pause pause e = cc

after_after : (xs ys : List Item) (e : Ending) → after xs (after ys e) ≡ after (xs ++ ys) e
after_after xs ys e = ap (λ (l : List Item). record e { items = l }) (sym (append_assoc xs ys e.items))

module _ {V : Type 0} (o : SetOperations V) (lawful : AreSound o) (format : Format V) (a : AcceptanceOver V) (accepted : IsAccepted o format a) where
  still : (pause : Pause) (unused : List Input) (k : ℕ) (t : State) → Stands (setting_of a) (Paused pause) t → (pause ≡ pauses.Budget → k ≡ 0) → IsUnused o a (setting_of a) unused t → run (setting_of a) unused k t ≡ ends (Paused pause) t
  still pause [] k t stands none unused = stands_still (setting_of a) k (Paused pause) t stands (λ e. none (same_pause pause e))
  still pause (input ∷ inputs) k t stands none unused = stands_unused (setting_of a) k pause t input inputs stands none unused

  -- a session in a described state accepts just what is accepted
  pub accepts_accepted : (s : State) → Described o (claims o a) (limit_of a) a.story s → (save : List ℕ) → Accepts o (record { accepted = a; state = s }) save ↔ IsAcceptedSave o a (limit_of a) save
  accepts_accepted s d save = (
    somewhere_accepted o lawful format a accepted.spelling accepted.loaded accepted.passes accepted.lists (limit_of a) save s,
    λ x. taken_in o lawful format a accepted.spelling accepted.loaded accepted.passes accepted.lists (limit_of a) (scope_only a.listing) (listed_each o lawful format a accepted) save x s d.is_state,
  )

  -- the run over what calls handed in, and more, goes through where they led
  joined : (calls : List Call) (s t : State) (items : List Item) → AllDid o a calls s t items → (more : List Input) (n : ℕ) → run (setting_of a) (handed_in calls ++ more) (n + steps_of calls) s ≡ after items (run (setting_of a) more n t)
  joined [] s t items (same, none) more n = rw (add-zero, same, none) refl
  joined (Ran k ∷ calls) s t items (u, first, rest, goes, did, all) more n =
      let sum : n + (k + steps_of calls) ≡ (n + steps_of calls) + k = omega arith in
      let inputs : List Input = handed_in calls ++ more in
      ap (λ (l : ℕ). run (setting_of a) inputs l s) sum ∙ steps_join (setting_of a) k (n + steps_of calls) s u first inputs goes ∙ ap (after first) (joined calls u t rest did more n)
      ∙ after_after first rest (run (setting_of a) more n t) ∙ ap (λ (l : List Item). after l (run (setting_of a) more n t)) (sym all)
  joined (Gave event ∷ calls) s t items (u, first, rest, (need, waits, fits, moved, none), did, all) more n =
      let inputs : List Input = handed_in calls ++ more in
      let is : handed (setting_of a) (halts.Need need) (Given event) s ≡ Some u = given_there (answers need event) (give event s) fits ∙ ap Some (sym moved) in
      inputs_join (setting_of a) (n + steps_of calls) s u (halts.Need need) (Given event) inputs (waits_for (setting_of a) s need waits) is ∙ joined calls u t rest did more n
      ∙ ap (λ (l : List Item). after l (run (setting_of a) more n t)) (sym (all ∙ ap (λ (l : List Item). l ++ rest) none))
  joined (Took bytes ∷ calls) s t items (u, first, rest, (waits, taken, moved, none), did, all) more n =
      let inputs : List Input = handed_in calls ++ more in
      let is : handed (setting_of a) (halts.Need needs.Restore) (Restored bytes) s ≡ Some u = ap restored taken.1 ∙ ap Some (sym moved) in
      inputs_join (setting_of a) (n + steps_of calls) s u (halts.Need needs.Restore) (Restored bytes) inputs (waits_for (setting_of a) s needs.Restore waits) is ∙ joined calls u t rest did more n
      ∙ ap (λ (l : List Item). after l (run (setting_of a) more n t)) (sym (all ∙ ap (λ (l : List Item). l ++ rest) none))

  -- what they handed in is fine in each scope, with what is
  fine_calls : (scope : Scope) (calls : List Call) (s t : State) (items : List Item) → AllDid o a calls s t items → (more : List Input) → AreFine o (claims o a) (playing_in a.story (limit_of a) scope) more → AreFine o (claims o a) (playing_in a.story (limit_of a) scope) (handed_in calls ++ more)
  fine_calls scope [] s t items did more fine = fine
  fine_calls scope (Ran k ∷ calls) s t items (u, first, rest, one, did, all) more fine = fine_calls scope calls u t rest did more fine
  fine_calls scope (Gave event ∷ calls) s t items (u, first, rest, one, did, all) more fine = (tt, fine_calls scope calls u t rest did more fine)
  fine_calls scope (Took bytes ∷ calls) s t items (u, first, rest, (waits, taken, moved, none), did, all) more fine =
      (accepted_fine o (claims o a) (setting_of a) accepted.loaded (supported o lawful format a accepted) scope bytes s taken, fine_calls scope calls u t rest did more fine)

  module _ (s : State) (d : Described o (claims o a) (limit_of a) a.story s) (calls : List Call) (t : State) (items : List Item) (did : AllDid o a calls s t items) where
    all_fine : (scope : Scope) (more : List Input) → AreAccepted o a (limit_of a) more → AreFine o (claims o a) (playing_in a.story (limit_of a) scope) (handed_in calls ++ more)
    all_fine scope more given = fine_calls scope calls s t items did more (are_fine o lawful format a accepted.spelling accepted.loaded accepted.passes accepted.lists (limit_of a) scope more given)

    -- in a scope that has what is listed, the run is that with the listing
    alike : (scope : Scope) → IsListedIn o (claims o a) scope → (more : List Input) (n : ℕ) → AreAccepted o a (limit_of a) more → run (playing_in a.story (limit_of a) scope) (handed_in calls ++ more) n s ≡ run (setting_of a) (handed_in calls ++ more) n s
    alike scope listed more n given = run_alike o lawful (claims o a) (setting_of a) scope accepted.loaded (supported o lawful format a accepted) (listed_each o lawful format a accepted) listed (handed_in calls ++ more) n s (all_fine (scope_only a.listing) more given) (all_fine scope more given) d

    in_scope : (scope : Scope) → IsListedIn o (claims o a) scope → IsMachinesRun o a scope calls s t items
    in_scope scope listed = record {
      ends = λ pause unused left stands none given is.
          alike scope listed unused (left + steps_of calls) given ∙ joined calls s t items did unused left ∙ ap (after items) (still pause unused left t stands none is)
          ∙ ap (λ (l : List Item). let e : Ending = record { stop = Paused pause; state = t; items = l } in e) (append-nil items);
      no_fault = λ inputs left given. (run_safe o lawful (claims o a) (playing_in a.story (limit_of a) scope) accepted.loaded (supported o lawful format a accepted) listed (handed_in calls ++ inputs) (left + steps_of calls) s (all_fine scope inputs given) d).0;
    }

  pub moves_as_machine : (s : State) → Described o (claims o a) (limit_of a) a.story s → MovesAsMachine o a s
  moves_as_machine s d calls t items did = (
    in_scope s d calls t items did (scope_only a.listing) (listed_each o lawful format a accepted),
    in_scope s d calls t items did (scope_all a.story) (all_listed o (claims o a) a.story (supported o lawful format a accepted)),
  )

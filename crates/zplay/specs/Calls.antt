-- What calls of a session did, one after another, and that the checked machine does the same over one list.
use Rattle.std.specs.Prelude.{◌≡◌, ℕ, ◌+◌, List, [], ◌∷◌, ◌++◌, Some, None, Err, IsTrue}
use Rattle.zfault.specs.declared.event.Event.{Event}
use Rattle.zfault.specs.declared.item.Item.{Item}
use Rattle.zfault.specs.declared.pause.Need.{Need}
use Rattle.zfault.specs.declared.pause.Need.TheVariants.{Restore}
use Rattle.zfault.specs.declared.pause.Pause.{Pause}
use Rattle.zfault.specs.declared.pause.Pause.TheVariants.{Budget}
use Rattle.zfault.specs.Answers.{answers}
use Rattle.zdomain.specs.Domain.{SetOperations}
use Rattle.zstate.specs.declared.halt.Halt.{Halt}
use Rattle.zstate.specs.declared.halt.Stop.TheVariants.{Paused}
use Rattle.zstate.specs.State.{Scope, Setting, State, give, scope_all, scope_only}
use Rattle.zstate.specs.Step.{step}
use Rattle.zstate.specs.Run.{Given, Goes, Input, Restored, Stands, awaited, handed, run}
use Rattle.zrule.specs.Described.{IsNoFault}
use Rattle.zcheck.specs.Acceptance.{AcceptanceOver, AreAccepted, limit_of, playing_in}
use Rattle.zplay.specs.Session.{Accepts, setting_of}

-- a call that moves a session: of `run` or `run_down`, in which so many steps were made; of `give`; of `restore`, which took the save
pub data Call : Type 0 where
  Ran : ℕ → Call
  Gave : Event → Call
  Took : List ℕ → Call

-- the list of what calls handed in,
abbrev pub handed_in : List Call → List Input
handed_in [] = []
handed_in (Ran steps ∷ calls) = handed_in calls
handed_in (Gave event ∷ calls) = Given event ∷ handed_in calls
handed_in (Took bytes ∷ calls) = Restored bytes ∷ handed_in calls

-- and in how many steps
abbrev pub steps_of : List Call → ℕ
steps_of [] = 0
steps_of (Ran steps ∷ calls) = steps + steps_of calls
steps_of (Gave event ∷ calls) = steps_of calls
steps_of (Took bytes ∷ calls) = steps_of calls

module _ {V : Type 0} (o : SetOperations V) (a : AcceptanceOver V) where
  -- a call led a session from one state to another and gave these items, as its contract says
  abbrev pub Did : Call → State → State → List Item → Type 0
  Did (Ran steps) s t items = Goes (setting_of a) steps s t items
  Did (Gave event) s t items = (need : Need) × (awaited (setting_of a) s ≡ Some need) × IsTrue (answers need event) × (t ≡ give event s) × (items ≡ [])
  Did (Took bytes) s t items = (awaited (setting_of a) s ≡ Some Restore) × (taken : Accepts o (record { accepted = a; state = s }) bytes) × (t ≡ taken.0) × (items ≡ [])

  -- and so did one after another
  abbrev pub AllDid : List Call → State → State → List Item → Type 0
  AllDid [] s t items = (t ≡ s) × (items ≡ [])
  AllDid (call ∷ calls) s t items = (u : State) × (first rest : List Item) × Did call s u first × AllDid calls u t rest × (items ≡ first ++ rest)

  -- nothing that is still to be handed in is used where a run stands
  abbrev pub IsUnused : Setting → List Input → State → Type 0
  IsUnused m [] t = Unit {0}
  IsUnused m (input ∷ inputs) t = (h : Halt) → step m t ≡ Err h → handed m h input t ≡ None

  -- The checked machine is played in a scope, with as many frames as the certificate says, from where the session was, over what the calls handed in and what wasn't used, in as many steps
  -- as they made, and more where the session paused for another cause than that. It pauses for the same cause, in the same state, with the same
  -- items. And wherever it is led from there by events and accepted saves, it meets no fault.
  pub record IsMachinesRun (scope : Scope) (calls : List Call) (s t : State) (items : List Item) : Type 0 where
    pub ends : (pause : Pause) (unused : List Input) (left : ℕ) → Stands (setting_of a) (Paused pause) t → (pause ≡ Budget → left ≡ 0) → AreAccepted o a (limit_of a) unused → IsUnused (setting_of a) unused t
        → run (playing_in a.story (limit_of a) scope) (handed_in calls ++ unused) (left + steps_of calls) s ≡ record { stop = Paused pause; state = t; items = items }
    pub no_fault : (inputs : List Input) (left : ℕ) → AreAccepted o a (limit_of a) inputs → IsNoFault (run (playing_in a.story (limit_of a) scope) (handed_in calls ++ inputs) (left + steps_of calls) s).stop

  -- whatever calls were made of a session in a state: with the certificate's listing in scope, and with every place
  abbrev pub MovesAsMachine : State → Type 0
  MovesAsMachine s = (calls : List Call) (t : State) (items : List Item) → AllDid calls s t items → IsMachinesRun (scope_only a.listing) calls s t items × IsMachinesRun (scope_all a.story) calls s t items

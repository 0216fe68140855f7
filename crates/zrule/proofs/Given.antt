-- What claims don't describe: the event that waits, the mark of a prompt, and where random numbers come from.
use Rattle.std.proofs.Common.{ℕ, Bool, true, Option, Some, None}
use Rattle.zfault.specs.declared.event.Event.{Event}
use Rattle.zfault.specs.declared.pause.Need.{Need}
use Rattle.zfault.specs.declared.pause.Need.TheVariants as needs
use Rattle.zstory.specs.LoadedStory.{LoadedStory}
use Rattle.zdomain.specs.Domain.{SetOperations}
use Rattle.zstate.specs.declared.mode.RandomMode.{RandomMode}
use Rattle.zstate.specs.State.{IsCount, State, give}
use Rattle.zstate.specs.Step.{drawn, used}
use Rattle.zflow.specs.Transfer.{Shape}
use Rattle.zrule.specs.Claims.{Claims, frozen_in}
use Rattle.zrule.specs.Rules.{HasDisjointTables}
use Rattle.zrule.specs.Described.{Described, IsLoadedStory}
use Rattle.zrule.proofs.Fitting.{Mid}

module _ {V : Type 0} (o : SetOperations V) (claims : Claims V) (story : LoadedStory) where
  -- whatever those are
  pub described_aside : (limit : ℕ) (s : State) (mode : RandomMode) (prompted : Bool) (waiting : Option Event) → IsCount mode → Described o claims limit story s → Described o claims limit story (record s { random = mode; prompted = prompted; waiting = waiting })
  described_aside limit s mode prompted waiting count d = record {
    is_state = record { memory = d.is_state.memory; bytes = d.is_state.bytes; objects = d.is_state.objects; tables = d.is_state.tables; frames = d.is_state.frames; few = d.is_state.few; count = count };
    at = d.at;
    place = d.place;
    entry = d.entry;
    listed = d.listed;
    fits = record { in_locals = d.fits.in_locals; in_slots = d.fits.in_slots };
    callers = d.callers;
    memory = d.memory;
    facts = d.facts;
  }

  -- an event that is given
  pub given_described : (limit : ℕ) (e : Event) (s : State) → Described o claims limit story s → Described o claims limit story (give e s)
  given_described limit e s d = described_aside limit s s.random s.prompted (Some e) d.is_state.count d

  -- a prompt that is made
  pub prompted_described : (limit : ℕ) (s : State) → Described o claims limit story s → Described o claims limit story (record s { prompted = true })
  prompted_described limit s d = described_aside limit s s.random true s.waiting d.is_state.count d

  -- and in mid-instruction, a draw and an event that is used up
  module _ (loaded : IsLoadedStory story) (tables : HasDisjointTables story (frozen_in claims)) (routine : ℕ) (e : Shape V) where
    drawn_mid : (mode : Option RandomMode) (u : State) → Mid o claims story loaded tables routine e u → Mid o claims story loaded tables routine e (drawn mode u)
    drawn_mid None u known = known
    drawn_mid (Some mode) u known = record { memory = known.memory; fits = known.fits; callers = known.callers }

    used_mid : (need : Option Need) (u : State) → Mid o claims story loaded tables routine e u → Mid o claims story loaded tables routine e (used need u)
    used_mid None u known = known
    used_mid (Some needs.Line) u known = record { memory = known.memory; fits = known.fits; callers = known.callers }
    used_mid (Some needs.Random) u known = record { memory = known.memory; fits = known.fits; callers = known.callers }
    used_mid (Some needs.Saved) u known = record { memory = known.memory; fits = known.fits; callers = known.callers }
    used_mid (Some needs.Restore) u known = record { memory = known.memory; fits = known.fits; callers = known.callers }

    pub spent_mid : (mode : Option RandomMode) (need : Option Need) (u : State) → Mid o claims story loaded tables routine e u → Mid o claims story loaded tables routine e (used need (drawn mode u))
    spent_mid mode need u known = used_mid need (drawn mode u) (drawn_mid mode u known)

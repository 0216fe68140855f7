-- The session, as contracts see it.
use Rattle.std.specs.Prelude.{◌≡◌, ◌⊎◌, ◌+◌, ◌*◌, ◌≤◌, ℕ, List, Ok, Err}
use Rattle.zcert.specs.Format.{Format}
use Rattle.zdomain.specs.declared.interval.Interval.{Interval}
use Rattle.zdomain.specs.Domain.{In, SetOperations}
use Rattle.zquetzal.specs.declared.error.SaveError.{SaveError}
use Rattle.zquetzal.specs.declared.error.SaveError.TheVariants as errors
use Rattle.zstate.specs.Saves.{restoring}
use Rattle.zstate.specs.State.{State, Setting, scope_only}
use Rattle.zrule.specs.Described.{Described, IsAcceptedIn}
use Rattle.zcheck.specs.Acceptance.{AcceptanceOver, limit_of}
use Rattle.zplay.specs.Accepted.{IsAccepted, claims}

-- a session: what was accepted, over a type V of sets of words, and the state that it is in
pub record PlayingOver (V : Type 0) : Type 0 where
  pub accepted : AcceptanceOver V
  pub state : State

-- with a certificate of intervals
abbrev pub Playing : Type 0
Playing = PlayingOver Interval

-- what it is played in: the story, of which only what is listed is played, and as many frames as the certificate says
abbrev pub setting_of : {V : Type 0} → AcceptanceOver V → Setting
setting_of a = record { story = a.story; scope = scope_only a.listing; limit = limit_of a }

abbrev pub setting : {V : Type 0} → PlayingOver V → Setting
setting p = setting_of p.accepted

-- a session stands in a state that its certificate describes
abbrev pub IsDescribed : {V : Type 0} → SetOperations V → PlayingOver V → Type 0
IsDescribed o p = Described o (claims o p.accepted) (limit_of p.accepted) p.accepted.story p.state

-- what a session accepts: bytes of a save from which play goes on, and then in such a state
abbrev pub Accepts : {V : Type 0} → SetOperations V → PlayingOver V → List ℕ → Type 0
Accepts o p bytes = IsAcceptedIn o (claims o p.accepted) (setting p) bytes p.state

-- why a save is refused: play can't go on from it, for that reason, or only in a state that isn't described
abbrev pub IsRefusedSave : {V : Type 0} → SetOperations V → PlayingOver V → List ℕ → SaveError → Type 0
IsRefusedSave o p bytes e =
    (restoring (setting p) bytes p.state ≡ Err e)
    ⊎ ((e ≡ errors.NotDescribed) × (t : State) × (restoring (setting p) bytes p.state ≡ Ok t) × (Described o (claims o p.accepted) (limit_of p.accepted) p.accepted.story t → ⊥))

-- ---- what a session keeps

-- how many words there are for frames: for each of so many above the first 15 locals, 64 words on its stack and a head, and what the newest wants
-- (own)
abbrev pub words_kept : ℕ → ℕ
words_kept limit = 5 + 84 * limit + 131106

module _ {V : Type 0} (o : SetOperations V) where
  -- each routine may give some word
  abbrev pub GiveEach : AcceptanceOver V → Type 0
  GiveEach a = (routine : ℕ) → (x : ℕ) × In o ((claims o a).result routine) x

  -- it is played in its setting, with words enough for all frames, and stands in a state in which no step needs a test
  pub record IsInPlay (format : Format V) (a : AcceptanceOver V) (m : Setting) (words : ℕ) (s : State) : Type 0 where
    pub accepted : IsAccepted o format a
    pub gives : GiveEach a
    pub played_in : m ≡ setting_of a
    pub roomy : words_kept (limit_of a) ≤ words
    pub described : Described o (claims o a) (limit_of a) a.story s

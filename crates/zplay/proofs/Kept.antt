-- A session that is kept, and put back.
use Rattle.std.proofs.Common.{◌≡◌, ℕ, ◌≤◌, Result, Ok, Err, sym, subst, ◌∙◌, arith}
use Rattle.std.specs.Prelude.{IfOk, OnErr, OnOk}
use Rattle.zcert.specs.Format.{Format}
use Rattle.zdomain.specs.Domain.{SetOperations, AreSound}
use Rattle.zrule.specs.Described.{Described}
use Rattle.zstate.specs.State.{IsState, Setting, State}
use Rattle.zcheck.specs.Acceptance.{AcceptanceOver, limit_of}
use Rattle.zmachine.specs.Parts.{IsInside}
use Rattle.zmachine.specs.Rows.{IsAsLoaded, NeverFaults}
use Rattle.zplay.specs.Accepted.{claims}
use Rattle.zplay.specs.Keeping.{IsKeptOf}
use Rattle.zplay.specs.Session.{IsInPlay}
use Rattle.zplay.proofs.Playing.{faults_never, inside}

module _ {V : Type 0} (o : SetOperations V) (lawful : AreSound o) (format : Format V) (a : AcceptanceOver V) (m : Setting) (words : ℕ) (s : State) (play : IsInPlay o format a m words s) where
  -- what it stands in is kept of its play
  pub kept_of : {E : Type 0} (r : Result State E) → IfOk r (λ x. x ≡ s) → IfOk r (λ x. IsAsLoaded m.story x.memory) → IfOk r (λ x. (x ≡ s) × IsKeptOf o a x)
  kept_of (Ok x) is loaded = (
    is,
    record {
      described = subst (Described o (claims o a) (limit_of a) a.story) (sym is) play.described;
      loaded = subst (λ (n : Setting). IsAsLoaded n.story x.memory) play.played_in loaded;
    },
  )
  kept_of (Err e) is loaded = tt

  -- ---- where it is put back

  module _ (t : State) (kept : IsKeptOf o a t) where
    pub state_back : IsState m.limit m.story t
    state_back = subst (λ (n : Setting). IsState n.limit n.story t) (sym play.played_in) kept.described.is_state

    pub loaded_back : IsAsLoaded m.story t.memory
    loaded_back = subst (λ (n : Setting). IsAsLoaded n.story t.memory) (sym play.played_in) kept.loaded

    pub inside_back : IsInside t
    inside_back = inside o lawful format a play.accepted t kept.described

    -- no step has a fault from there either
    pub able_back : NeverFaults m t
    able_back = subst (λ (n : Setting). NeverFaults n t) (sym play.played_in) (faults_never o lawful format a play.accepted t kept.described)

    -- it stands there, or where it stood
    pub in_play_back : {E : Type 0} (n : Setting) (more : ℕ) (now : State) (r : Result (Unit {0}) E) → n ≡ m → words ≤ more → OnOk r (now ≡ t) → OnErr r (now ≡ s) → IsInPlay o format a n more now
    in_play_back n more now (Ok u) same longer is was = record {
      accepted = play.accepted;
      gives = play.gives;
      played_in = same ∙ play.played_in;
      roomy = (let kept = play.roomy in omega (arith, kept, longer));
      described = subst (Described o (claims o a) (limit_of a) a.story) (sym is) kept.described;
    }
    in_play_back n more now (Err e) same longer is was = record {
      accepted = play.accepted;
      gives = play.gives;
      played_in = same ∙ play.played_in;
      roomy = (let kept = play.roomy in omega (arith, kept, longer));
      described = subst (Described o (claims o a) (limit_of a) a.story) (sym was) play.described;
    }

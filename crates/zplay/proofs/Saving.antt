-- What a session saves is accepted, and what it accepts is fine.
use Rattle.std.proofs.Common.{◌≡◌, ◌↔◌, inl, inr, List, ℕ, true, Result, Ok, Err, Some, refl, sym, ap, subst, ◌∙◌, arith}
use Rattle.std.specs.Prelude.{IfErr, IsOk}
use Rattle.zfault.specs.declared.pause.Need.TheVariants as needs
use Rattle.zquetzal.specs.declared.error.SaveError.{SaveError}
use Rattle.zquetzal.specs.Grammar.{save_text}
use Rattle.zquetzal.specs.Saved.{origin_of}
use Rattle.zcert.specs.Format.{Format}
use Rattle.zdomain.specs.Domain.{SetOperations, AreSound}
use Rattle.zstate.specs.State.{Scope, Setting, State}
use Rattle.zstate.specs.Saves.{restoring, saved_of, saves}
use Rattle.zstate.specs.Step.{fetch}
use Rattle.zstate.specs.Run.{awaited}
use Rattle.zrule.specs.declared.rule.Rule.TheVariants as rules
use Rattle.zrule.specs.Described.{AcceptedAreFine, Described, IsAcceptedIn, IsFineSave, SavedAreAccepted}
use Rattle.zrule.proofs.Relied.{reads_it}
use Rattle.zcert.proofs.Limit.{frame_limit_most}
use Rattle.zcheck.specs.Acceptance.{AcceptanceOver, limit_of}
use Rattle.zplay.specs.Accepted.{claims}
use Rattle.zplay.specs.Session.{Accepts, IsDescribed, IsInPlay, IsRefusedSave, PlayingOver, setting, setting_of}
use Rattle.zplay.proofs.Accepting.{listed_each, supported}
use Rattle.zplay.proofs.Asked.{save_there}

module _ {V : Type 0} (o : SetOperations V) (lawful : AreSound o) (format : Format V) (a : AcceptanceOver V) (m : Setting) (words : ℕ) (s : State) (play : IsInPlay o format a m words s) where
  -- where a save is asked for, `save` is fetched
  asked : awaited (setting_of a) s ≡ Some needs.Saved → saves (fetch (setting_of a).scope s.place s.memory) ≡ true
  asked waits =
      let d = play.described in
      let found = (supported o lawful format a play.accepted).each d.at d.entry d.listed refl rules.Decodes in
      let fetched : fetch (setting_of a).scope s.place s.memory ≡ Ok found.0 = reads_it o lawful (claims o a) (setting_of a) s play.accepted.loaded (supported o lawful format a play.accepted) (listed_each o lawful format a play.accepted) d refl found.0 found.1.decodes in
      ap saves fetched ∙ save_there (setting_of a) s found.0 fetched waits

  pub saved_taken : SavedAreAccepted o (claims o a) → awaited (setting_of a) s ≡ Some needs.Saved → (other : PlayingOver V) → other.accepted ≡ a → IsDescribed o other → Accepts o other (save_text (origin_of a.story) (saved_of a.story s))
  saved_taken law waits other same described =
      let there : Described o (claims o a) (limit_of a) a.story other.state = subst (λ (x : AcceptanceOver V). Described o (claims o x) (limit_of x) x.story other.state) same described in
      let accepted = law (setting_of a) s other.state play.accepted.loaded (supported o lawful format a play.accepted) (frame_limit_most format a.certificate play.accepted.spelling) play.described (asked waits) there.is_state in
      subst (λ (x : AcceptanceOver V). IsAcceptedIn o (claims o x) (setting_of x) (save_text (origin_of a.story) (saved_of a.story s)) other.state) (sym same) accepted

  pub accepted_fine : AcceptedAreFine o (claims o a) → (save : List ℕ) (scope : Scope) → Accepts o (record { accepted = a; state = s }) save → IsFineSave o (claims o a) (record (setting_of a) { scope = scope }) save
  accepted_fine law save scope accepted = law (setting_of a) scope save s play.accepted.loaded (supported o lawful format a play.accepted) accepted

-- ---- what is answered of a save

err_not_ok : {A : Type 0} (r : Result A SaveError) (e : SaveError) (x : A) → r ≡ Err e → r ≡ Ok x → ⊥
err_not_ok r e x is was = cc

ok_once : (r : Result State SaveError) (x y : State) → r ≡ Ok x → r ≡ Ok y → x ≡ y
ok_once r x y is was = cc

-- what is refused isn't accepted
pub refused_apart : {V : Type 0} (o : SetOperations V) (p : PlayingOver V) (bytes : List ℕ) (e : SaveError) → IsRefusedSave o p bytes e → Accepts o p bytes → ⊥
refused_apart o p bytes e (inl refused) (t, goes, d) = err_not_ok (restoring (setting p) bytes p.state) e t refused goes
refused_apart o p bytes e (inr (not_described, u, goes_so, apart)) (t, goes, d) =
    apart (subst (Described o (claims o p.accepted) (limit_of p.accepted) p.accepted.story) (ok_once (restoring (setting p) bytes p.state) t u goes goes_so) d)

-- so where a save is refused, it isn't accepted
pub refused_exact : {V A : Type 0} (o : SetOperations V) (p : PlayingOver V) (bytes : List ℕ) (r : Result A SaveError) (e : SaveError) → r ≡ Err e → IfErr r (IsRefusedSave o p bytes) → IsOk r ↔ Accepts o p bytes
refused_exact o p bytes (Ok x) e is refused = absurd cc
refused_exact o p bytes (Err d) e is refused = (λ t. absurd cc, λ accepts. absurd (refused_apart o p bytes d refused accepts))

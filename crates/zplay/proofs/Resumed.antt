-- A session goes on from a save that was judged.
use Rattle.std.proofs.Common.{◌≡◌, ◌⊎◌, inl, inr, ℕ, ◌+◌, ◌<◌, ◌≤◌, List, length, Result, Ok, Err, refl, sym, subst, ◌∙◌, arith}
use Rattle.std.specs.List.{AllByRecursion}
use Rattle.zstory.specs.LoadedStory.{LoadedStory}
use Rattle.zlist.specs.Listing.{ListedCode}
use Rattle.zcert.specs.Certificate.{Certificate, frame_limit}
use Rattle.zcert.specs.Format.{Format}
use Rattle.zdomain.specs.Domain.{SetOperations, AreSound}
use Rattle.zquetzal.specs.declared.error.SaveError.{SaveError}
use Rattle.zquetzal.specs.declared.error.SaveError.TheVariants as errors
use Rattle.zquetzal.specs.Reading.{reading}
use Rattle.zquetzal.specs.Saved.{AreFrames, Saved}
use Rattle.zjudge.specs.Judging.{IsJudged, listed_setting}
use Rattle.zrule.specs.Claims.{claims_of}
use Rattle.zrule.specs.Described.{Described}
use Rattle.zstate.specs.State.{IsState, Setting, State}
use Rattle.zstate.specs.Saves.{restoring, resumed}
use Rattle.zcheck.specs.Acceptance.{AcceptanceOver, limit_of}
use Rattle.zengine.specs.Resuming.{words_wanted}
use Rattle.zmachine.specs.Resuming.{IsNarrow}
use Rattle.zmachine.specs.Rows.{NeverFaults}
use Rattle.zplay.specs.Accepted.{claims}
use Rattle.zplay.specs.Session.{IsInPlay, IsRefusedSave, setting_of}
use Rattle.zplay.proofs.Playing.{faults_never}
use Rattle.zplay.proofs.Short.{laid_kept}

-- ---- what is answered of a save

ok_once : (r : Result State SaveError) (x y : State) → r ≡ Ok x → r ≡ Ok y → x ≡ y
ok_once r x y is was = cc

read_once : (r : Result Saved SaveError) (x y : Saved) → r ≡ Ok x → r ≡ Ok y → x ≡ y
read_once r x y is was = cc

ok_or_err : (r : Result State SaveError) (x : State) (e : SaveError) → r ≡ Ok x → r ≡ Err e → ⊥
ok_or_err r x e is was = cc

module _ {V : Type 0} (o : SetOperations V) (a : AcceptanceOver V) (s : State) (saved : Saved) (bytes : List ℕ) (is : reading a.story bytes ≡ Ok saved) where
  pub refused_is : (e : SaveError) → IsJudged o (claims o a) {X = Unit {0}} (setting_of a) saved s (Err e) → IsRefusedSave o (record { accepted = a; state = s }) bytes e
  refused_is errors.Place j = inl (rw is j)
  refused_is errors.NotDescribed (inl many) = inl (rw is many)
  refused_is errors.NotDescribed (inr (goes, other)) = inr (refl, resumed a.story saved s, rw is goes, other)
  refused_is errors.NotForm j = absurd j
  refused_is errors.Length j = absurd j
  refused_is errors.ChunkMissing j = absurd j
  refused_is errors.ChunkTwice j = absurd j
  refused_is errors.Compressed j = absurd j
  refused_is errors.OtherStory j = absurd j
  refused_is errors.MemoryLength j = absurd j
  refused_is errors.Frames j = absurd j
  refused_is errors.OutOfMemory j = absurd j

  -- where it was judged by what the session has
  pub refused_by : (story : LoadedStory) (certificate : Certificate V) (listing : ListedCode) (e : SaveError) → story ≡ a.story → certificate ≡ a.certificate → listing ≡ a.listing → ((t : State) → IsState (frame_limit certificate) story t → IsJudged o (claims_of o certificate) {X = Unit {0}} (listed_setting story listing (frame_limit certificate)) saved t (Err e)) → IsState (limit_of a) a.story s → IsRefusedSave o (record { accepted = a; state = s }) bytes e
  refused_by story certificate listing e of_story of_certificate of_listing judged is_state =
      let one = subst (λ (x : LoadedStory). (t : State) → IsState (frame_limit certificate) x t → IsJudged o (claims_of o certificate) {X = Unit {0}} (listed_setting x listing (frame_limit certificate)) saved t (Err e)) of_story judged in
      let two = subst (λ (x : Certificate V). (t : State) → IsState (frame_limit x) a.story t → IsJudged o (claims_of o x) {X = Unit {0}} (listed_setting a.story listing (frame_limit x)) saved t (Err e)) of_certificate one in
      let three = subst (λ (x : ListedCode). (t : State) → IsState (limit_of a) a.story t → IsJudged o (claims_of o a.certificate) {X = Unit {0}} (listed_setting a.story x (limit_of a)) saved t (Err e)) of_listing two in
      refused_is e (three s is_state)

  -- ---- play goes on from one that wasn't

  module _ (judged : IsJudged o (claims o a) {X = Unit {0}} (setting_of a) saved s (Ok tt)) where
    pub restores : restoring (setting_of a) bytes s ≡ Ok (resumed a.story saved s)
    restores = rw is judged.0

    pub restored_described : (t : State) → restoring (setting_of a) bytes s ≡ Ok t → Described o (claims o a) (limit_of a) a.story t
    restored_described t goes = subst (Described o (claims o a) (limit_of a) a.story) (ok_once (restoring (setting_of a) bytes s) (resumed a.story saved s) t restores goes) judged.1

    pub not_refused : (e : SaveError) → restoring (setting_of a) bytes s ≡ Err e → ⊥
    not_refused e refused = ok_or_err (restoring (setting_of a) bytes s) (resumed a.story saved s) e restores refused

module _ {V : Type 0} (o : SetOperations V) (lawful : AreSound o) (format : Format V) (a : AcceptanceOver V) (m : Setting) (words : ℕ) (s : State) (play : IsInPlay o format a m words s) (saved : Saved) (bytes : List ℕ) (is : reading a.story bytes ≡ Ok saved) (judged : IsJudged o (claims o a) {X = Unit {0}} (setting_of a) saved s (Ok tt)) where
  described_there : (t : State) → restoring m bytes s ≡ Ok t → Described o (claims o a) (limit_of a) a.story t
  described_there t goes = restored_described o a s saved bytes is judged t (subst (λ (n : Setting). restoring n bytes s ≡ Ok t) play.played_in goes)

  -- no step has a fault from there either
  pub able_there : (t : State) → restoring m bytes s ≡ Ok t → NeverFaults m t
  able_there t goes = subst (λ (n : Setting). NeverFaults n t) (sym play.played_in) (faults_never o lawful format a play.accepted t (described_there t goes))

  pub gone_on : (t : State) → restoring m bytes s ≡ Ok t → (restoring (setting_of a) bytes s ≡ Ok t) × Described o (claims o a) (limit_of a) a.story t
  gone_on t goes = (subst (λ (n : Setting). restoring n bytes s ≡ Ok t) play.played_in goes, described_there t goes)

  -- and it isn't refused: there are words enough
  pub never_refused : (e : SaveError) → AllByRecursion (λ f. length f.stack ≤ 64) saved.frames → length saved.frames ≤ limit_of a + 1 → AreFrames saved.frames → (restoring m bytes s ≡ Err e) ⊎ IsNarrow m bytes words → ⊥
  never_refused e low few are (inl refused) = not_refused o a s saved bytes is judged e (subst (λ (n : Setting). restoring n bytes s ≡ Err e) play.played_in refused)
  never_refused e low few are (inr (other, reads, less)) =
      let there : reading a.story bytes ≡ Ok other = subst (λ (n : Setting). reading n.story bytes ≡ Ok other) play.played_in reads in
      let same : other ≡ saved = read_once (reading a.story bytes) other saved there is in
      laid_kept (limit_of a) saved.frames words low are few play.roomy (subst (λ (x : Saved). words < words_wanted x) same less)

  pub in_play_there : (n : Setting) (more : ℕ) (t : State) → n ≡ m → words ≤ more → restoring m bytes s ≡ Ok t → IsInPlay o format a n more t
  in_play_there n more t same longer goes = record {
    accepted = play.accepted;
    gives = play.gives;
    played_in = same ∙ play.played_in;
    roomy = (let kept = play.roomy in omega (arith, kept, longer));
    described = described_there t goes;
  }

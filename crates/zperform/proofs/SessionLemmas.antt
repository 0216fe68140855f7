-- What comes of playing by a certificate.
use Rattle.std.proofs.Common.{◌≡◌, ◌≢◌, inl, inr, ◌∙◌, ℕ, List, [], refl, sym, ap, subst, true≢false}
use Rattle.std.specs.Prelude.{ℤ, Bool, Option, Result, Ok, Err, IfOk, IsErr, IsErrAnd, IsErrOf}
use Rattle.zfault.specs.declared.fault.Fault.{Fault}
use Rattle.zquetzal.specs.declared.error.SaveError.{SaveError}
use Rattle.zstate.specs.State.{State, opening}
use Rattle.zdomain.specs.Domain.{SetOperations}
use Rattle.zcert.specs.Format.{Format}
use Rattle.zcheck.specs.Acceptance.{AcceptanceOver}
use Rattle.zplay.specs.Session.{PlayingOver, setting_of}
use Rattle.zplayer.specs.declared.end.End.{End}
use Rattle.zplayer.specs.declared.end.End.TheVariants as ends
use Rattle.zprompt.specs.declared.manner.Manner.{Manner}
use Rattle.zplayer.specs.declared.end.PlayError.{PlayError}
use Rattle.zplayer.specs.declared.end.PlayError.TheVariants as errors
use Rattle.zplayer.specs.Outside.{Blames, BlamesWriter, Coming}
use Rattle.zplayer.specs.Playing.{GivesOrSaves}
use Rattle.zprompt.specs.Manners.{ComesTo as PlayComes}
use Rattle.zplayer.specs.Stories.{Describes}
use Rattle.zplayer.specs.World.{Store, World}
use Rattle.zperform.specs.declared.outcome.Failure.{Failure}
use Rattle.zperform.specs.declared.outcome.Failure.TheVariants.{File, Read, Write, Memory}
use Rattle.zperform.specs.declared.outcome.Problem.{Problem}
use Rattle.zperform.specs.declared.outcome.Problem.TheVariants.{Refused, Unreadable, BreaksStory, BreaksInstruction, Unlisted, Unfound, Occupied, Failed, Packed}
use Rattle.zperform.specs.declared.outcome.Outcome.{Outcome}
use Rattle.zperform.specs.declared.outcome.Outcome.TheVariants.{Played, Stopped}
use Rattle.zperform.specs.Accepting.{Accepts, IsAccepted, IsPlayedBy, IsUnaccepted, IsUnacceptedStory, PlayComesTo, PlayEnds}
use Rattle.zperform.specs.Playing.{StaysEmpty}
use Rattle.zperform.specs.Report.{outcome_of, problem_of_play}
use Rattle.zperform.specs.Contents.{HasBytes}
use Rattle.zperform.specs.Devices.{FlushesUnless}
use Rattle.zperform.proofs.AcceptLemmas.{story_bytes}

-- a failed write is handed on as one, and a failed read too
as_failed : (failure : Failure) (of : PlayError) → problem_of_play of ≡ Failed failure → (r : Result End Problem) (error : PlayError) → IsErr r × IsErrAnd r (λ q. q ≡ problem_of_play error) → error ≡ of → r ≡ Err (Failed failure)
as_failed failure of is_so (Ok end) error (is, same) e = absurd (true≢false (sym is))
as_failed failure of is_so (Err q) error (is, same) e = ap Err (same ∙ ap problem_of_play e ∙ is_so)

pub as_write : (r : Result End Problem) (error : PlayError) → IsErr r × IsErrAnd r (λ q. q ≡ problem_of_play error) → error ≡ errors.Write → r ≡ Err (Failed Write)
as_write = as_failed Write errors.Write refl

pub as_read : (r : Result End Problem) (error : PlayError) → IsErr r × IsErrAnd r (λ q. q ≡ problem_of_play error) → error ≡ errors.Read → r ≡ Err (Failed Read)
as_read = as_failed Read errors.Read refl

-- and nothing else is
write_alone : (error : PlayError) → problem_of_play error ≡ Failed Write → error ≡ errors.Write
write_alone errors.Read e = absurd cc
write_alone errors.Write e = refl
write_alone errors.OutOfMemory e = absurd cc

read_alone : (error : PlayError) → problem_of_play error ≡ Failed Read → error ≡ errors.Read
read_alone errors.Read e = refl
read_alone errors.Write e = absurd cc
read_alone errors.OutOfMemory e = absurd cc

pub was_write : (r : Result End Problem) (error : PlayError) → IsErr r × IsErrAnd r (λ q. q ≡ problem_of_play error) → r ≡ Err (Failed Write) → error ≡ errors.Write
was_write (Ok end) error (is, same) e = absurd cc
was_write (Err q) error (is, same) e = write_alone error (sym same ∙ (let write : q ≡ Failed Write = cc in write))

pub was_read : (r : Result End Problem) (error : PlayError) → IsErr r × IsErrAnd r (λ q. q ≡ problem_of_play error) → r ≡ Err (Failed Read) → error ≡ errors.Read
was_read (Ok end) error (is, same) e = absurd cc
was_read (Err q) error (is, same) e = read_alone error (sym same ∙ (let read : q ≡ Failed Read = cc in read))

-- so what is said of the writer and of the reader is handed on with it
module _ (error : PlayError) (r : Result End Problem) (said : IsErr r × IsErrAnd r (λ q. q ≡ problem_of_play error)) where
  pub writer_handed_on : {W : Type 0} (failures : W → ℕ) (waits : W → Bool) (old new : W) → BlamesWriter failures waits old new (IsErrOf {T = End} (Err error) errors.Write) (¬ IsErrOf {T = End} (Err error) errors.Write)
      → FlushesUnless failures waits old new (IsErrOf r (Failed Write))
  writer_handed_on failures waits old new writes = record {
    blamed = ((λ e. writes.blamed.0 (ap Err (was_write r error said e))), λ other. writes.blamed.1 (λ w. other (as_write r error said (let is : error ≡ errors.Write = cc in is))));
    flushed = λ other. inl (writes.flushed (λ w. other (as_write r error said (let is : error ≡ errors.Write = cc in is))));
  }

  pub reader_handed_on : (old new : ℕ) → Blames (IsErrOf {T = End} (Err error) errors.Read) old new → Blames (IsErrOf r (Failed Read)) old new
  reader_handed_on old new reads = ((λ e. reads.0 (ap Err (was_read r error said e))), λ other. reads.1 (λ w. other (as_read r error said (let is : error ≡ errors.Read = cc in is))))

-- what breaks playing off is no failure of a file
no_file : (error : PlayError) → problem_of_play error ≢ Failed File
no_file errors.Read e = absurd cc
no_file errors.Write e = absurd cc
no_file errors.OutOfMemory e = absurd cc

pub was_no_file : (r : Result End Problem) (error : PlayError) → IsErr r × IsErrAnd r (λ q. q ≡ problem_of_play error) → r ≢ Err (Failed File)
was_no_file (Ok end) error (is, same) e = absurd cc
was_no_file (Err q) error (is, same) e = no_file error (sym same ∙ (let file : q ≡ Failed File = cc in file))

-- what is handed on of a problem that stopped a play
pub handed_on : (P : Outcome → Type 0) (r : Result End Problem) (problem : Problem) → IsErr r × IsErrAnd r (λ q. q ≡ problem) → P (Stopped problem) → P (outcome_of r)
handed_on P (Ok end) problem (is, same) h = absurd (true≢false (sym is))
handed_on P (Err q) problem (is, same) h = subst (λ (x : Problem). P (Stopped x)) (sym same) h

module _ {V : Type 0} (o : SetOperations V) (format : Format V) (story certificate : Option (List ℕ)) where
  -- neither the writer nor the reader is blamed for what isn't accepted
  blameless : (problem : Problem) → IsUnaccepted o format story certificate problem → (problem ≢ Failed Write) × (problem ≢ Failed Read)
  blameless (Refused error) h = (λ e. cc, λ e. cc)
  blameless (Unreadable error) h = (λ e. cc, λ e. cc)
  blameless (BreaksStory rule) h = (λ e. cc, λ e. cc)
  blameless (BreaksInstruction address rule) h = (λ e. cc, λ e. cc)
  blameless (Unlisted error) h = absurd h
  blameless (Unfound error broken) h = absurd h
  blameless (Occupied purpose) h = absurd h
  blameless (Packed error) h = absurd h
  blameless (Failed File) h = (λ e. cc, λ e. cc)
  blameless (Failed Memory) h = (λ e. cc, λ e. cc)
  blameless (Failed Read) h = absurd h
  blameless (Failed Write) h = absurd h

  -- what isn't accepted isn't played, and no save is refused
  unplayed_with : (manner : Manner) (given : World) (before : Option (List ℕ)) (problem : Problem) → IsUnaccepted o format story certificate problem → PlayEnds o format story certificate manner given [] before before (Stopped problem)
  unplayed_with manner given before (Refused error) h = (h, refl, refl)
  unplayed_with manner given before (Unreadable error) h = (h, refl, refl)
  unplayed_with manner given before (BreaksStory rule) h = (h, refl, refl)
  unplayed_with manner given before (BreaksInstruction address rule) h = (h, refl, refl)
  unplayed_with manner given before (Unlisted error) h = absurd h
  unplayed_with manner given before (Unfound error broken) h = absurd h
  unplayed_with manner given before (Occupied purpose) h = absurd h
  unplayed_with manner given before (Packed error) h = absurd h
  unplayed_with manner given before (Failed File) h = (h, refl, refl)
  unplayed_with manner given before (Failed Memory) h = inl (refl, refl, h)
  unplayed_with manner given before (Failed Read) h = absurd h
  unplayed_with manner given before (Failed Write) h = absurd h

  -- memory for the session was refused
  pub unopened : (a : AcceptanceOver V) → IsAccepted o format story certificate a → HasBytes story
  unopened a accepted = story_bytes story a.story accepted.story

  -- a session that opened
  module _ (manner : Manner) (given : World) (refusals : List SaveError) (before : Option (List ℕ)) (a : AcceptanceOver V) (accepted : IsAccepted o format story certificate a) (p : PlayingOver V) (opened : p ≡ record { accepted = a; state = opening a.story }) (now : Option (List ℕ)) (state : State) (words : Option Coming) (store : Store) (unsaved : StaysEmpty given.store store) (refused : store.refusals ≡ refusals) where
    by : (result : Result End PlayError) → PlayComes (setting_of p.accepted) (Describes o p.accepted) (GivesOrSaves (setting_of p.accepted)) manner given p.state state words store before now result → IfOk result (λ end. (fault : Fault) (place : ℤ) → end ≢ ends.Fault fault place)
        → Accepts o format story certificate (λ a. IsPlayedBy o a manner given refusals before now result)
    by result comes safe =
        (a, accepted, record { state = state; words = words; store = store; comes = subst (λ (q : PlayingOver V). PlayComes (setting_of q.accepted) (Describes o q.accepted) (GivesOrSaves (setting_of q.accepted)) manner given q.state state words store before now result) opened comes; unsaved = unsaved; refused = refused; safe = safe })

    pub played : (end : End) → PlayComes (setting_of p.accepted) (Describes o p.accepted) (GivesOrSaves (setting_of p.accepted)) manner given p.state state words store before now (Ok end) → ((fault : Fault) (place : ℤ) → end ≢ ends.Fault fault place)
        → PlayEnds o format story certificate manner given refusals before now (Played end)
    played end comes safe = inl (by (Ok end) comes safe)

    pub broken : (error : PlayError) → PlayComes (setting_of p.accepted) (Describes o p.accepted) (GivesOrSaves (setting_of p.accepted)) manner given p.state state words store before now (Err error) → PlayEnds o format story certificate manner given refusals before now (Stopped (problem_of_play error))
    broken errors.Read comes = inl (by (Err errors.Read) comes tt)
    broken errors.Write comes = inl (by (Err errors.Write) comes tt)
    broken errors.OutOfMemory comes = inr (inl (by (Err errors.OutOfMemory) comes tt))

-- with a certificate of either version
module _ (story certificate : Option (List ℕ)) where
  pub unblamed : (problem : Problem) → IsUnacceptedStory story certificate problem → (problem ≢ Failed Write) × (problem ≢ Failed Read)
  unblamed problem (inl h) = blameless _ _ story certificate problem h
  unblamed problem (inr h) = blameless _ _ story certificate problem h

  pub unplayed : (manner : Manner) (given : World) (before : Option (List ℕ)) (problem : Problem) → IsUnacceptedStory story certificate problem → PlayComesTo story certificate manner given [] before before (Stopped problem)
  unplayed manner given before problem (inl h) = inl (unplayed_with _ _ story certificate manner given before problem h)
  unplayed manner given before problem (inr h) = inr (unplayed_with _ _ story certificate manner given before problem h)

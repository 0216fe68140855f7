-- What comes of a command: of a text that is written, and of a problem that stops it.
use Rattle.std.proofs.Common.{◌≡◌, ◌≢◌, inl, inr, ◌∙◌, ℕ, List, Option, Ok, Err, refl, sym, subst}
use Rattle.std.specs.Prelude.{Result}
use Rattle.std.specs.Io.KnownBytes.{Appends, Keeps}
use Rattle.std.proofs.KnownBytes.{Appends-kept}
use Rattle.zfault.specs.Devices.{AppendsBeginning, CountsFailure, HandsOn, RisesByOne}
use Rattle.zfault.proofs.DeviceLemmas.{AppendsBeginning-whole}
use Rattle.zperform.specs.Accepting.{Stops}
use Rattle.zperform.specs.Devices.{Ends, Seen, Writes}
use Rattle.zperform.specs.Finding.{FindEnds, IsNotFound}
use Rattle.zperform.specs.declared.finding.Search.{Search}
use Rattle.zperform.specs.declared.outcome.Failure.TheVariants.{File, Read, Write, Memory}
use Rattle.zperform.specs.declared.outcome.Problem.{Problem}
use Rattle.zperform.specs.declared.outcome.Problem.TheVariants.{Refused, Unreadable, BreaksStory, BreaksInstruction, Unlisted, Unfound, Occupied, Failed, Packed}
use Rattle.zperform.specs.declared.outcome.Outcome.{Outcome}
use Rattle.zperform.specs.declared.outcome.Outcome.TheVariants.{Stopped}

-- a text that was taken whole, and then flushed
pub then_flushed : {E : Type 0} (old mid new : Seen) (text : List ℕ) (r : Result Unit E) → Appends old.contents mid.contents text → mid.failures ≡ old.failures → Keeps mid.contents new.contents → HandsOn mid.waits new.waits r → CountsFailure mid.failures new.failures r
    → Writes old new text r
then_flushed old mid new text (Ok done) whole quiet kept flushed counts = record { whole = Appends-kept old.contents mid.contents new.contents text whole kept; quiet = counts ∙ quiet; flushed = flushed }
then_flushed old mid new text (Err failed) whole quiet kept flushed counts =
    record { begun = AppendsBeginning-whole old.contents mid.contents new.contents text whole kept; blamed = subst (λ (n : ℕ). RisesByOne n new.failures) quiet counts }

-- what holds where a text was taken, and where its writing failed, holds of the outcome
pub ends_so : (old new : Seen) (text : List ℕ) (done outcome : Outcome) (P : Outcome → Type 0) → Ends old new text done outcome → (Appends old.contents new.contents text → P done) → (AppendsBeginning old.contents new.contents text → P (Stopped (Failed Write))) → P outcome
ends_so old new text done outcome P (inl (is, taken)) well broken = subst P (sym is) (well taken.whole)
ends_so old new text done outcome P (inr (is, broke)) well broken = subst P (sym is) (broken broke.begun)

-- a problem that is no failed write stops a command with nothing written
pub stops : (begun : Type 0) (IsWhy : Problem → Type 0) (before : Option (List ℕ)) (problem : Problem) → problem ≢ Failed Write → IsWhy problem → Stops begun IsWhy before before problem
stops begun IsWhy before (Refused error) other why = (why, refl)
stops begun IsWhy before (Unreadable error) other why = (why, refl)
stops begun IsWhy before (BreaksStory rule) other why = (why, refl)
stops begun IsWhy before (BreaksInstruction address rule) other why = (why, refl)
stops begun IsWhy before (Unlisted error) other why = (why, refl)
stops begun IsWhy before (Unfound error broken) other why = (why, refl)
stops begun IsWhy before (Occupied purpose) other why = (why, refl)
stops begun IsWhy before (Packed error) other why = (why, refl)
stops begun IsWhy before (Failed File) other why = (why, refl)
stops begun IsWhy before (Failed Read) other why = (why, refl)
stops begun IsWhy before (Failed Write) other why = absurd (other refl)
stops begun IsWhy before (Failed Memory) other why = (why, refl)

-- so does one for which no certificate is found, and no file changed
pub not_found : (search : Search) (story certificate : List ℕ) (held holds : List ℕ → Option (List ℕ)) (before : Option (List ℕ)) (problem : Problem) → problem ≢ Failed Write → IsNotFound search (held story) problem → holds ≡ held → FindEnds search story certificate held holds before before (Stopped problem)
not_found search story certificate held holds before problem other why same = stops _ (λ (p : Problem). IsNotFound search (held story) p × (p ≢ Failed File → holds ≡ held)) before problem other (why, λ reads. same)

-- What the words come to.
use Rattle.std.proofs.Common.{◌≡◌, ◌⊎◌, inl, inr, ◌∙◌, ℕ, Bool, true, false, List, [], Option, Some, None, Result, Ok, Err, refl, sym, ap, subst, IsErrOf, IsSomeAnd}
use Rattle.clap.specs.Kinds.{IsAmong}
use Rattle.clap.specs.Words.{Row, Text, fault_of, subcommand_of}
use Rattle.zplayer.specs.declared.end.End.{End}
use Rattle.zplayer.specs.Outside.{Blames}
use Rattle.zquetzal.specs.declared.error.SaveError.{SaveError}
use Rattle.zcommand.specs.CommandLine.{Asks, Check, CheckEach, Explain, Find, FindEach, Info, ListStory, OneForMany, Play, Request, Show, zpc_app, Unpack}
use Rattle.zperform.proofs.ExcusingLemmas.{says_nothing}
use Rattle.zperform.specs.Devices.{Devices, FlushesUnless, Held, Seen, UsesUnless, seen, told}
use Rattle.zperform.specs.Performing.{Begins, Explains, IsBlamed, IsToldOf, Performs, Reports, SaysFor, is_each, is_quiet, spared_in, spoken, written_by}
use Rattle.zperform.specs.declared.wording.Speech.{Speech}
use Rattle.zperform.specs.Beside.{Aside, Unsought}
use Rattle.zperform.specs.declared.outcome.Failure.TheVariants.{File, Read, Write}
use Rattle.zperform.specs.Report.{outcome_of}
use Rattle.zperform.specs.declared.outcome.Problem.{Problem}
use Rattle.zperform.specs.declared.outcome.Problem.TheVariants.{Failed}
use Rattle.zperform.specs.declared.outcome.Outcome.{Outcome}
use Rattle.zperform.specs.declared.outcome.Outcome.TheVariants.{Stopped}

-- what kept a play from being done is what stopped it
pub stopped_is : (r : Result End Problem) (problem : Problem) → outcome_of r ≡ Stopped problem → r ≡ Err problem
stopped_is (Ok end) problem e = absurd cc
stopped_is (Err q) problem e = ap Err (let same : q ≡ problem = cc in same)

-- with no fault in the words, only memory can be wanting
pub performs_lacking : (words : List Text) (speech : Speech) (commands : Bool) (status : ℕ) (old new : Devices) → fault_of zpc_app words ≡ [] → Explains (fault_of zpc_app words) status old new → Performs words speech commands status old new
performs_lacking words speech commands status old new none (inl lacks) = inr lacks
performs_lacking words speech commands status old new none (inr told) = absurd (subst (IsAmong told.0) none told.2)

-- a play fails just where its outcome tells it
pub as_outcome : (r : Result End Problem) (outcome : Outcome) (problem : Problem) (old new : ℕ) → outcome ≡ outcome_of r → Blames (IsErrOf r problem) old new → Blames (outcome ≡ Stopped problem) old new
as_outcome r outcome problem old new is blames = ((λ e. blames.0 (stopped_is r problem (sym is ∙ e))), λ other. blames.1 (λ e. other (is ∙ ap outcome_of e)))

pub writer_as_outcome : {W : Type 0} (failures : W → ℕ) (waits : W → Bool) (old new : W) (r : Result End Problem) (outcome : Outcome) (problem : Problem) → outcome ≡ outcome_of r → FlushesUnless failures waits old new (IsErrOf r problem)
    → FlushesUnless failures waits old new (outcome ≡ Stopped problem)
writer_as_outcome failures waits old new r outcome problem is writer = record {
  blamed = as_outcome r outcome problem _ _ is writer.blamed;
  flushed = λ other. writer.flushed (λ e. other (is ∙ ap outcome_of e));
}

pub files_as_outcome : {F : Type 0} (known : F → List ℕ → Option (List ℕ)) (failures : F → ℕ) (old new : F) (save saves writes : Option (List ℕ)) (r : Result End Problem) (outcome : Outcome) (problem : Problem) → outcome ≡ outcome_of r → saves ≡ save → writes ≡ save
    → UsesUnless known failures old new save save (IsErrOf r problem) → UsesUnless known failures old new saves writes (outcome ≡ Stopped problem)
files_as_outcome known failures old new save saves writes r outcome problem is so alike files = record {
  unread = λ e. files.unread (stopped_is r problem (sym is ∙ e));
  unfailed = λ none other. files.unfailed (sym so ∙ none) (λ e. other (is ∙ ap outcome_of e));
  kept = λ none. files.kept (sym alike ∙ none);
  spared = λ name other. files.spared name (λ e. other (alike ∙ e));
}

-- what is seen of a sink
pub writer_as_seen : {W : Type 0} (contents : W → Option (List ℕ)) (failures : W → ℕ) (waits : W → Bool) (old new : W) (fails : Type 0) → FlushesUnless failures waits old new fails
    → FlushesUnless (λ (s : Seen). s.failures) (λ (s : Seen). s.waits) (seen contents failures waits old) (seen contents failures waits new) fails
writer_as_seen contents failures waits old new fails writer = record { blamed = writer.blamed; flushed = λ other. flushed (writer.flushed other) }
  where
    flushed : (waits new ≡ false) ⊎ (new ≡ old) → (waits new ≡ false) ⊎ (seen contents failures waits new ≡ seen contents failures waits old)
    flushed (inl none) = inl none
    flushed (inr same) = inr (ap (seen contents failures waits) same)

module _ (words : List Text) (speech : Speech) (commands : Bool) (status : ℕ) (old new : Devices) (outcome : Outcome)
    (writer : FlushesUnless (λ (s : Seen). s.failures) (λ (s : Seen). s.waits) old.writer new.writer (outcome ≡ Stopped (Failed Write)))
    (reader : Blames (outcome ≡ Stopped (Failed Read)) old.reader.failures new.reader.failures)
    (between : Seen) (reported : Reports speech new.files.blamed outcome status between new.errors) where
  pub performs_request : (asked request : Request) → request ≡ spoken speech asked → (aside : Aside) (refusals : List SaveError) → SaysFor request aside refusals old.errors between → (is_each request ≡ false → UsesUnless (λ (f : Held). f.known) (λ (f : Held). f.failures) old.files new.files (spared_in request) (written_by request) (outcome ≡ Stopped (Failed File))) → (outcome ≡ Stopped (Failed File) → IsBlamed request old.files) → (outcome ≡ Stopped (Failed File) → IsToldOf request new.files.blamed)
      → (is_quiet request ≡ true → new.reader ≡ old.reader) → Begins commands request old.files new.files old.reader.remaining aside refusals old.writer.contents new.writer.contents outcome → IsSomeAnd (subcommand_of zpc_app words) (λ matches. Asks matches asked)
      → Performs words speech commands status old new
  performs_request asked request is_spoken aside refusals told files could blamed unasked comes read = go (subcommand_of zpc_app words) refl read
    where
      go : (o : Option (Text × List Row)) → subcommand_of zpc_app words ≡ o → IsSomeAnd o (λ matches. Asks matches asked) → Performs words speech commands status old new
      go None e h = absurd h
      go (Some matches) e asks =
          inl (record { matches = matches; named = e; asked = asked; asks = asks; request = request; is_spoken = is_spoken; outcome = outcome; comes = comes; writer = writer; files = files; could = could; blamed = blamed; reader = reader; unasked = unasked; aside = aside; refusals = refusals; between = between; told = told; reported = reported })

-- where no certificate was looked for and no save was refused, nothing is said
pub says_none : (request : Request) (errors : Seen) → SaysFor request Unsought [] errors errors
says_none (Play story certificate seed budget status save tell force true) errors = says_nothing tell save errors
says_none (Play story None seed budget status save tell force false) errors = (errors, refl, refl)
says_none (Play story (Some certificate) seed budget status save tell force false) errors = refl
says_none (ListStory story certificate json) errors = refl
says_none (Find story certificate frames strict places force json) errors = refl
says_none (FindEach stories frames strict places force json) errors = refl
says_none OneForMany errors = refl
says_none (Check story certificate json) errors = refl
says_none (CheckEach stories json) errors = refl
says_none (Show story certificate address) errors = refl
says_none (Info story json) errors = refl
says_none (Explain code json) errors = refl
says_none (Unpack story save out force) errors = refl

-- what is told of a source that wasn't asked
pub told_same : {R : Type 0} (remaining : R → Option (List ℕ)) (failures : R → ℕ) (old new : R) → new ≡ old → told remaining failures new ≡ told remaining failures old
told_same remaining failures old new same = ap (told remaining failures) same

-- What is told of a story and of what stands beside it, and why nothing is.
use Rattle.std.proofs.Common.{◌≡◌, ◌⊎◌, inl, inr, ◌∙◌, true≢false, ℕ, Bool, true, false, List, take, Option, Some, None, Ok, Err, refl, sym, ap, subst, arith}
use Rattle.std.specs.Prelude.{IfErr, IfOk, IfSome, IsErr, IsErrAnd, Result}
use Rattle.zstory.specs.LoadedStory.{LoadedStory}
use Rattle.zcert.specs.Certificate.{Certificate}
use Rattle.zcert.specs.Format.{Format, interval_format}
use Rattle.zcert.specs.Lists.{values_format}
use Rattle.zcert.specs.Reading.{reading}
use Rattle.zcert.specs.Streaming.{Stream, IsFed, IsUnread as IsUnreadBytes}
use Rattle.zcert.specs.declared.error.CertError.{CertError}
use Rattle.zcert.specs.declared.error.CertError.TheVariants as errors
use Rattle.zcheck.specs.declared.refusal.StoryRule.TheVariants as rules
use Rattle.zinfo.specs.declared.facts.Beside.{Beside}
use Rattle.zinfo.specs.declared.facts.Beside.TheVariants.{Nothing, Unreadable as NoCertificate, OfAnother, Closed, Own}
use Rattle.zinfo.specs.declared.facts.Kept.{Kept}
use Rattle.zjson.specs.Digest.{digest_text}
use Rattle.zperform.specs.Accepting.{HoldsCertificate, HoldsStory, IsFedWhole, IsNoCertificate, IsNoStory, version_of}
use Rattle.zperform.specs.Informing.{HoldsDigested, IsBeside, IsBesideBy, IsKeptOf, IsNoInfo, IsNotKept, IsUntold, beside_by}
use Rattle.zperform.specs.Playing.{Holds, Reads}
use Rattle.zperform.specs.Report.{problem_of_reading}
use Rattle.zperform.specs.declared.outcome.Failure.TheVariants.{File, Read, Write, Memory}
use Rattle.zperform.specs.declared.outcome.Problem.{Problem}
use Rattle.zperform.specs.declared.outcome.Problem.TheVariants.{Refused, Unreadable, BreaksStory, BreaksInstruction, Unlisted, Unfound, Occupied, Failed, Packed}
use Rattle.zperform.proofs.AcceptLemmas.{for_value}
use Rattle.zperform.proofs.StoryFiles.{digested_whole, reads}

-- nothing is known of a file that isn't there
pub nothing_known : (known : Option (List ℕ)) (there : Bool) → IfSome known (λ _. there ≡ true) → there ≡ false → known ≡ None
nothing_known None there is none = refl
nothing_known (Some file) there is none = absurd (true≢false (sym is ∙ none))

-- a story with the digest of its file
pub digested : (known : Option (List ℕ)) (taken : List ℕ) → ((file : List ℕ) → known ≡ Some file → taken ≡ take 131073 file) → (story : LoadedStory) (digest : List ℕ) → Holds taken story → digest ≡ digest_text taken → HoldsDigested known story digest
digested known taken part story digest holds is =
    reads known 131073 taken (λ file. Holds file story × (digest ≡ digest_text file)) part (λ file e p. digested_whole 131073 taken file (omega arith) e story digest p) (holds, is)

-- nothing is told where a file can't be read, or where memory is wanting
pub untold_so : (known : Option (List ℕ)) (problem : Problem) → IsUntold problem → IsNoInfo known problem
untold_so known problem is = inr is

-- nor where it isn't read
pub unread_so : (known : Option (List ℕ)) (problem : Problem) → (problem ≡ Failed File) ⊎ (problem ≡ Failed Memory) → IsNoInfo known problem
unread_so known problem (inl is) = inl (subst (IsNoStory known) (sym is) tt)
unread_so known problem (inr is) = inr is

-- it isn't the writer's fault
pub untold_unwritten : IsUntold (Failed Write) → ⊥
untold_unwritten is = cc

-- a story whose file has a digest
pub holds_story : (known : Option (List ℕ)) (story : LoadedStory) (digest : List ℕ) → HoldsDigested known story digest → HoldsStory known story
holds_story known story digest (file, is, (holds, hashed)) = (file, is, holds)

-- what an error that is handed on says
pub handed_as : {T : Type 0} (r : Result T Problem) (problem wanted : Problem) → IsErr r × IsErrAnd r (λ q. q ≡ problem) → r ≡ Err wanted → problem ≡ wanted
handed_as (Ok x) problem wanted (is, same) e = absurd cc
handed_as (Err q) problem wanted (is, same) e = sym same ∙ (let said : q ≡ wanted = cc in said)

-- ---- what a certificate has, or why there is none

module _ {V : Type 0} (format : Format V) (known : Option (List ℕ)) (story : LoadedStory) where
  pub no_certificate_kept : (problem : Problem) → IsNoCertificate format known problem → IsNotKept format known story problem
  no_certificate_kept (Refused error) h = absurd h
  no_certificate_kept (Unreadable error) h = h
  no_certificate_kept (BreaksStory rule) h = absurd h
  no_certificate_kept (BreaksInstruction address rule) h = absurd h
  no_certificate_kept (Unlisted error) h = absurd h
  no_certificate_kept (Unfound error broken) h = absurd h
  no_certificate_kept (Occupied purpose) h = absurd h
  no_certificate_kept (Packed error) h = absurd h
  no_certificate_kept (Failed File) h = tt
  no_certificate_kept (Failed Read) h = absurd h
  no_certificate_kept (Failed Write) h = absurd h
  no_certificate_kept (Failed Memory) h = tt

  unread_kept : (e : CertError) → Reads known (λ file. (version_of file ≡ format.version) × IsUnreadBytes format file e) → IsNotKept format known story (problem_of_reading e)
  unread_kept errors.OutOfMemory read = tt
  unread_kept errors.Truncated read = read
  unread_kept errors.Magic read = read
  unread_kept errors.Version read = read
  unread_kept errors.Trailing read = read
  unread_kept errors.Order read = read
  unread_kept errors.EmptyInterval read = read
  unread_kept errors.Limit read = read
  unread_kept errors.ListForm read = read

  -- its bytes aren't read
  pub stream_unkept : (stream : Stream V) (e : CertError) → IsFedWhole format known stream → ((fed : List ℕ) → IsFed format stream fed → IsUnreadBytes format fed e) → IsNotKept format known story (problem_of_reading e)
  stream_unkept stream e (file, is, (version, came)) why = unread_kept e (file, is, (version, why file came))

  -- they are
  pub stream_kept : (stream : Stream V) (c : Certificate V) → IsFedWhole format known stream → ((fed : List ℕ) → IsFed format stream fed → reading format fed ≡ Ok c) → HoldsCertificate format known c
  stream_kept stream c (file, is, (version, came)) read = (file, is, read file came)

  -- what stands there
  stands : (r : Result Kept Problem) → IfOk r (IsKeptOf format known story) → IfErr r (IsNotKept format known story) → IfOk (beside_by r) (IsBesideBy format known story)
  stands (Ok kept) h none = h
  stands (Err (Refused error)) h why = tt
  stands (Err (Unreadable error)) h why = (error, refl, why)
  stands (Err (BreaksStory rules.Identity)) h why = why
  stands (Err (BreaksStory rules.FirstPlace)) h why = absurd why
  stands (Err (BreaksStory rules.RoutineHeads)) h why = absurd why
  stands (Err (BreaksStory rules.FirstGlobals)) h why = absurd why
  stands (Err (BreaksStory rules.PropertyTables)) h why = absurd why
  stands (Err (BreaksStory rules.Tree)) h why = absurd why
  stands (Err (BreaksStory rules.Abbreviations)) h why = absurd why
  stands (Err (BreaksStory rules.Tables)) h why = absurd why
  stands (Err (BreaksInstruction address rule)) h why = tt
  stands (Err (Unlisted error)) h why = tt
  stands (Err (Unfound error broken)) h why = tt
  stands (Err (Occupied purpose)) h why = tt
  stands (Err (Packed error)) h why = tt
  stands (Err (Failed File)) h why = tt
  stands (Err (Failed Read)) h why = absurd why
  stands (Err (Failed Write)) h why = absurd why
  stands (Err (Failed Memory)) h why = tt

  -- or isn't known
  handed : (r : Result Kept Problem) → IfErr r (IsNotKept format known story) → IfErr (beside_by r) IsUntold
  handed (Ok kept) why = tt
  handed (Err (Refused error)) why = absurd why
  handed (Err (Unreadable error)) why = tt
  handed (Err (BreaksStory rule)) why = tt
  handed (Err (BreaksInstruction address rule)) why = absurd why
  handed (Err (Unlisted error)) why = absurd why
  handed (Err (Unfound error broken)) why = absurd why
  handed (Err (Occupied purpose)) why = absurd why
  handed (Err (Packed error)) why = absurd why
  handed (Err (Failed File)) why = tt
  handed (Err (Failed Read)) why = absurd why
  handed (Err (Failed Write)) why = absurd why
  handed (Err (Failed Memory)) why = refl

  pub untold_beside : (r : Result Kept Problem) (answer : Result Beside Problem) → answer ≡ beside_by r → IfErr r (IsNotKept format known story) → IfErr answer IsUntold
  untold_beside r answer is why = subst (λ (a : Result Beside Problem). IfErr a IsUntold) (sym is) (handed r why)

by_intervals : (known : Option (List ℕ)) (story : LoadedStory) (b : Beside) → IsBesideBy interval_format known story b → IsBeside known story b
by_intervals known story Nothing h = absurd h
by_intervals known story (NoCertificate number) h = inl h
by_intervals known story OfAnother h = inl h
by_intervals known story Closed h = inl h
by_intervals known story (Own kept) h = inl h

by_lists : (known : Option (List ℕ)) (story : LoadedStory) (b : Beside) → IsBesideBy values_format known story b → IsBeside known story b
by_lists known story Nothing h = absurd h
by_lists known story (NoCertificate number) h = inr h
by_lists known story OfAnother h = inr h
by_lists known story Closed h = inr h
by_lists known story (Own kept) h = inr h

-- what stands beside a story, by what was read of files that have what they had before
module _ (mid known : Option (List ℕ)) (story : LoadedStory) (r : Result Kept Problem) (answer : Result Beside Problem) (is : answer ≡ beside_by r) (same : mid ≡ known) where
  pub beside_intervals : IfOk r (IsKeptOf interval_format mid story) → IfErr r (IsNotKept interval_format mid story) → IfOk answer (IsBeside known story)
  beside_intervals kept why =
      let found = for_value (IsBesideBy interval_format mid story) (IsBeside mid story) (beside_by r) (by_intervals mid story) (stands interval_format mid story r kept why) in
      let here = subst (λ (k : Option (List ℕ)). IfOk (beside_by r) (IsBeside k story)) same found in
      subst (λ (a : Result Beside Problem). IfOk a (IsBeside known story)) (sym is) here

  pub beside_lists : IfOk r (IsKeptOf values_format mid story) → IfErr r (IsNotKept values_format mid story) → IfOk answer (IsBeside known story)
  beside_lists kept why =
      let found = for_value (IsBesideBy values_format mid story) (IsBeside mid story) (beside_by r) (by_lists mid story) (stands values_format mid story r kept why) in
      let here = subst (λ (k : Option (List ℕ)). IfOk (beside_by r) (IsBeside k story)) same found in
      subst (λ (a : Result Beside Problem). IfOk a (IsBeside known story)) (sym is) here

-- the first bytes of a file weren't read
pub beside_unread : (known : Option (List ℕ)) (story : LoadedStory) (problem : Problem) (answer : Result Beside Problem) → answer ≡ beside_by (Err problem) → (problem ≡ Failed File) ⊎ (problem ≡ Failed Memory) → IfOk answer (IsBeside known story) × IfErr answer IsUntold
beside_unread known story problem answer is (inl e) = subst (λ (a : Result Beside Problem). IfOk a (IsBeside known story) × IfErr a IsUntold) (sym (is ∙ ap (λ (p : Problem). beside_by (Err p)) e)) (inl tt, tt)
beside_unread known story problem answer is (inr e) = subst (λ (a : Result Beside Problem). IfOk a (IsBeside known story) × IfErr a IsUntold) (sym (is ∙ ap (λ (p : Problem). beside_by (Err p)) e)) (tt, refl)

-- what isn't told isn't for a file that can't be read
pub untold_file : (problem : Problem) → IsUntold problem → problem ≡ Failed File → ⊥
untold_file problem is e = absurd (let other : Failed Memory ≡ Failed File = sym is ∙ e in cc)

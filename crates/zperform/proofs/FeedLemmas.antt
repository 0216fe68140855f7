-- What comes of a certificate that was fed piece by piece from its file.
use Rattle.std.proofs.Common.{◌≡◌, ◌≢◌, ◌⊎◌, inl, inr, ◌∙◌, Bool, true, false, nat_lt, ltb-true, ltb-false, ℕ, min, ◌+◌, ◌<◌, ◌≤◌, List, [], ◌∷◌, ◌++◌, length, take, drop, Option, Some, None, Result, Ok, Err, refl, sym, ap, ap₂, subst, arith, length-append, length-take}
use Rattle.std.specs.Prelude.{IfSome, IsErr, IsErrAnd}
use Rattle.std.proofs.lemmas.List.{append-nil, get_or_append_left, length-drop, length-take-le, take_all, take_min, take-append-drop}
use Rattle.zstory.specs.LoadedStory.{LoadedStory}
use Rattle.zdomain.specs.Domain.{SetOperations}
use Rattle.zcert.specs.Fields.{LeadsToPart}
use Rattle.zcert.specs.Format.{Format}
use Rattle.zcert.specs.Reading.{reading}
use Rattle.zcert.specs.Streaming.{Stream, IsFed, IsFinal, IsRefusal, IsUnread as IsUnreadBytes}
use Rattle.zcert.specs.declared.error.CertError.{CertError}
use Rattle.zcert.specs.declared.error.CertError.TheVariants as errors
use Rattle.zcheck.specs.Judged.{JudgedOver, IsJudged, IsUnjudgedWith, certificate_of, story_of}
use Rattle.zcheck.specs.declared.judged.Judged.TheVariants.{Whole, Marked}
use Rattle.zcheck.specs.declared.refusal.Refusal.TheVariants as refusals
use Rattle.zcheck.specs.declared.refusal.StreamRefusal.{StreamRefusal}
use Rattle.zcheck.specs.declared.refusal.StreamRefusal.TheVariants.{Cert, Check}
use Rattle.zperform.specs.Contents.{HasBytes, IsBeginning, ReadsPart}
use Rattle.zperform.specs.Playing.{Reads}
use Rattle.zperform.specs.Accepting.{HoldsStory, IsFedTo, IsFedWhole, IsJudgedOf, IsNoCertificate, IsUnaccepted, IsUnread, version_by, version_of}
use Rattle.zperform.specs.Report.{problem_of_reading, problem_of_stream}
use Rattle.zperform.specs.declared.outcome.Failure.TheVariants.{File}
use Rattle.zperform.specs.declared.outcome.Problem.{Problem}
use Rattle.zperform.specs.declared.outcome.Problem.TheVariants.{Failed}
use Rattle.zperform.proofs.AcceptLemmas.{refused_of, story_bytes}
use Rattle.zperform.proofs.FileLemmas.{beginning_more}

-- ---- the version

-- the bytes that follow the fifth don't change it, nor do none
version_kept : (fed more : List ℕ) → (5 ≤ length fed) ⊎ (length more ≡ 0) → version_of (fed ++ more) ≡ version_of fed
version_kept fed more (inl long) = ap version_by (get_or_append_left fed more 0 4 (omega (arith, long)))
version_kept fed [] (inr none) = ap version_of (append-nil fed)
version_kept fed (b ∷ bs) (inr none) = absurd (omega (arith, none))

-- bytes that tell it are five, or all of a file
abbrev TellsOf : List ℕ → List ℕ → Type 0
TellsOf fed file = (5 ≤ length fed) ⊎ (length file ≤ length fed)

-- ---- pieces

-- the first five bytes of a file are its beginning
first_is : (first file : List ℕ) → first ≡ take 5 file → IsBeginning first file
first_is first file is =
    let long : length first ≡ min 5 (length file) = ap length is ∙ length-take 5 file in
    is ∙ sym (take_min 5 file) ∙ ap (λ (n : ℕ). take n file) (sym long)

-- or all of it
first_whole : (first file : List ℕ) → first ≡ take 5 file → length first < 5 → first ≡ file
first_whole first file is short =
    let all : length file ≤ 5 = omega (arith, short, ap length is, length-take 5 file) in
    is ∙ take_all 5 file all

module _ {V : Type 0} (format : Format V) where
  -- the first bytes
  pub fed_first : (known : Option (List ℕ)) (first : List ℕ) (stream : Stream V) → IfSome known (λ file. first ≡ take 5 file) → version_of first ≡ format.version → IsFed format stream first → IsFedTo format known (length first) stream
  fed_first None first stream is version came = record { fed = first; version = version; first = tt; counted = refl; came = came }
  fed_first (Some file) first stream is version came = record { fed = first; version = version; first = first_is first file is; counted = refl; came = came }

  -- which are all
  pub fed_short : (known : Option (List ℕ)) (first : List ℕ) (stream : Stream V) → IfSome known (λ file. first ≡ take 5 file) → length first < 5 → version_of first ≡ format.version → IsFed format stream first → IsFedWhole format known stream
  fed_short None first stream is short version came = (first, tt, (version, came))
  fed_short (Some file) first stream is short version came = (first, first_whole first file is short, (version, came))

  -- the first bytes of a file, and a piece of it behind them
  first_more : (known : Option (List ℕ)) (at count : ℕ) (fed buffer : List ℕ) → length fed ≡ at → count ≤ length buffer → IfSome known (IsBeginning fed) → ReadsPart known at count buffer → IfSome known (IsBeginning (fed ++ take count buffer))
  first_more None at count fed buffer long few first part = tt
  first_more (Some file) at count fed buffer long few first part = beginning_more at count fed buffer (fed ++ take count buffer) file (sym long) few refl first part

  -- one more piece
  pub fed_more : (known : Option (List ℕ)) (at count : ℕ) (buffer : List ℕ) (old new : Stream V) → 5 ≤ at → count ≤ length buffer → IsFedTo format known at old → ReadsPart known at count buffer
      → ((fed : List ℕ) → IsFed format old fed → IsFed format new (fed ++ take count buffer)) → IsFedTo format known (at + count) new
  fed_more known at count buffer old new begun few to part feeds = record {
    fed = to.fed ++ take count buffer;
    version = version_kept to.fed (take count buffer) (inl (omega (arith, begun, to.counted))) ∙ to.version;
    first = first_more known at count to.fed buffer to.counted few to.first part;
    counted = length-append to.fed (take count buffer) ∙ ap₂ (λ (m n : ℕ). m + n) to.counted (length-take-le count buffer few);
    came = feeds to.fed to.came;
  }

  -- an empty piece is the end of the file, which was fed whole
  fed_whole : (known : Option (List ℕ)) (at : ℕ) (buffer : List ℕ) (stream : Stream V) → 0 < length buffer → IsFedTo format known (at + 0) stream → ReadsPart known at 0 buffer → IsFedWhole format known stream
  fed_whole None at buffer stream some to part = (to.fed, tt, (to.version, to.came))
  fed_whole (Some file) at buffer stream some to part =
      let all : length file ≤ length to.fed = omega (arith, to.counted, part.ends refl some) in
      (to.fed, to.first ∙ take_all (length to.fed) file all, (to.version, to.came))

  pub fed_end : (known : Option (List ℕ)) (at count : ℕ) (buffer : List ℕ) (old new : Stream V) → count ≡ 0 → 0 < length buffer → 5 ≤ at → count ≤ length buffer → IsFedTo format known at old → ReadsPart known at count buffer
      → ((fed : List ℕ) → IsFed format old fed → IsFed format new (fed ++ take count buffer)) → IsFedWhole format known new
  fed_end known at count buffer old new zero some begun few to part feeds =
      fed_whole known at buffer new some (subst (λ (n : ℕ). IsFedTo format known (at + n) new) zero (fed_more known at count buffer old new begun few to part feeds)) (subst (λ (n : ℕ). ReadsPart known at n buffer) zero part)

-- a file has bytes where its first ones are some
has_bytes : (known : Option (List ℕ)) (fed : List ℕ) → 0 < length fed → IfSome known (IsBeginning fed) → HasBytes known
has_bytes None fed some first = tt
has_bytes (Some file) fed some first = omega (arith, some, ap length first, length-take (length fed) file)

-- ---- refusals

module _ {V : Type 0} (format : Format V) where
  pub fed_bytes : (known : Option (List ℕ)) (at : ℕ) (stream : Stream V) → 0 < at → IsFedTo format known at stream → HasBytes known
  fed_bytes known at stream some to = has_bytes known to.fed (omega (arith, to.counted, some)) to.first

  -- what the first bytes are refused for, whatever follows them, the file is
  final_read : (known : Option (List ℕ)) (fed : List ℕ) (e : CertError) → IfSome known (IsBeginning fed) → IfSome known (TellsOf fed) → version_of fed ≡ format.version → IsFinal format fed e → Reads known (λ file. IsUnread format file e)
  final_read None fed e first tells version final = (fed ++ [], tt, (ap version_of (append-nil fed) ∙ version, final []))
  final_read (Some file) fed e first tells version final =
      let rest = drop (length fed) file in
      (fed ++ rest, ap (λ (bytes : List ℕ). bytes ++ rest) first ∙ take-append-drop (length fed) file, (version_kept fed rest (kept tells) ∙ version, final rest))
    where
      kept : TellsOf fed file → (5 ≤ length fed) ⊎ (length (drop (length fed) file) ≡ 0)
      kept (inl long) = inl long
      kept (inr all) = inr (omega (arith, all, length-drop (length fed) file))

  -- bytes of which memory is wanted for a part are some
  part_has_bytes : (fed : List ℕ) → LeadsToPart format fed → 0 < length fed
  part_has_bytes fed led = omega (arith, ap length led.spelled)

  -- so no certificate is read from the file
  none_read : (known : Option (List ℕ)) (fed : List ℕ) (e : CertError) → IfSome known (IsBeginning fed) → IfSome known (TellsOf fed) → version_of fed ≡ format.version → IsRefusal format fed e → IsNoCertificate format known (problem_of_reading e)
  none_read known fed errors.OutOfMemory first tells version led = has_bytes known fed (part_has_bytes fed led) first
  none_read known fed errors.Truncated first tells version final = absurd final
  none_read known fed errors.Magic first tells version final = final_read known fed errors.Magic first tells version final
  none_read known fed errors.Version first tells version final = final_read known fed errors.Version first tells version final
  none_read known fed errors.Trailing first tells version final = final_read known fed errors.Trailing first tells version final
  none_read known fed errors.Order first tells version final = final_read known fed errors.Order first tells version final
  none_read known fed errors.EmptyInterval first tells version final = final_read known fed errors.EmptyInterval first tells version final
  none_read known fed errors.Limit first tells version final = final_read known fed errors.Limit first tells version final
  none_read known fed errors.ListForm first tells version final = final_read known fed errors.ListForm first tells version final

  -- nor where the first bytes are refused
  pub none_first : (known : Option (List ℕ)) (first : List ℕ) (e : CertError) → IfSome known (λ file. first ≡ take 5 file) → version_of first ≡ format.version → IsRefusal format first e → IsNoCertificate format known (problem_of_reading e)
  none_first None first e is version why = none_read None first e tt tt version why
  none_first (Some file) first e is version why = none_read (Some file) first e (first_is first file is) (tells (nat_lt (length first) 5) refl) version why
    where
      tells : (b : Bool) → nat_lt (length first) 5 ≡ b → TellsOf first file
      tells true e =
          let short : length first < 5 = ltb-true (length first) 5 e in
          inr (omega (arith, ap length (first_whole first file is short)))
      tells false e = inl (ltb-false (length first) 5 e)

  told : (known : Option (List ℕ)) (fed : List ℕ) → 5 ≤ length fed → IfSome known (TellsOf fed)
  told None fed long = tt
  told (Some file) fed long = inl long

  -- nor with one more piece, which is refused
  pub none_more : (known : Option (List ℕ)) (at count : ℕ) (buffer : List ℕ) (old : Stream V) (e : CertError) → 5 ≤ at → count ≤ length buffer → IsFedTo format known at old → ReadsPart known at count buffer
      → ((fed : List ℕ) → IsFed format old fed → IsRefusal format (fed ++ take count buffer) e) → IsNoCertificate format known (problem_of_reading e)
  none_more known at count buffer old e begun few to part why =
      let piece = take count buffer in
      none_read known (to.fed ++ piece) e (first_more format known at count to.fed buffer to.counted few to.first part) (told known (to.fed ++ piece) (omega (arith, begun, to.counted, length-append to.fed piece)))
      (version_kept to.fed piece (inl (omega (arith, begun, to.counted))) ∙ to.version) (why to.fed to.came)

module _ {V : Type 0} (o : SetOperations V) (format : Format V) (story_known certificate_known : Option (List ℕ)) (story : LoadedStory) (held : HoldsStory story_known story) where
  -- bytes that aren't read as a certificate are refused with the story
  unread : (e : CertError) → Reads certificate_known (λ file. (version_of file ≡ format.version) × IsUnreadBytes format file e) → IsUnaccepted o format story_known certificate_known (problem_of_reading e)
  unread errors.OutOfMemory read = story_bytes story_known story held
  unread errors.Truncated read = ((story, held), read)
  unread errors.Magic read = ((story, held), read)
  unread errors.Version read = ((story, held), read)
  unread errors.Trailing read = ((story, held), read)
  unread errors.Order read = ((story, held), read)
  unread errors.EmptyInterval read = ((story, held), read)
  unread errors.Limit read = ((story, held), read)
  unread errors.ListForm read = ((story, held), read)

  -- what a stream refuses of a story and of the file that it was fed is refused of both files
  pub unaccepted : (stream : Stream V) (refusal : StreamRefusal) → IsFedWhole format certificate_known stream → ((fed : List ℕ) → IsFed format stream fed → IsUnjudgedWith o format story fed refusal)
      → IsUnaccepted o format story_known certificate_known (problem_of_stream refusal)
  unaccepted stream (Cert e) (file, is, (version, came)) why = unread e (file, is, (version, why file came))
  unaccepted stream (Check refusal) (file, is, (version, came)) why =
      let found = why file came in
      refused_of o format story_known certificate_known story found.certificate held (file, is, found.read) refusal found.refused

  -- what a stream accepts of a story and of the file that it was fed is accepted of both files
  pub accepted : (stream : Stream V) (j : JudgedOver V) → IsFedWhole format certificate_known stream → story_of j ≡ story → ((fed : List ℕ) → IsFed format stream fed → reading format fed ≡ Ok (certificate_of j)) → IsJudged o j
      → IsJudgedOf o format story_known certificate_known j
  accepted stream (Whole a) (file, is, (version, came)) same read (unmarked, passes, lists) = record {
    story = subst (λ (s : LoadedStory). HoldsStory story_known s) (sym same) held;
    certificate = (file, is, read file came);
    unmarked = unmarked;
    passes = passes;
    lists = lists;
  }
  accepted stream (Marked m) (file, is, (version, came)) same read (marked, passes, faults) = record {
    story = subst (λ (s : LoadedStory). HoldsStory story_known s) (sym same) held;
    certificate = (file, is, read file came);
    marked = marked;
    passes = passes;
    faults = faults;
  }

-- ---- none of them is a failure of the file

reading_reads : (e : CertError) → problem_of_reading e ≢ Failed File
reading_reads errors.OutOfMemory e = cc
reading_reads _ e = cc

stream_reads : (refusal : StreamRefusal) → problem_of_stream refusal ≢ Failed File
stream_reads (Cert e) same = reading_reads e same
stream_reads (Check (refusals.Story rule)) same = cc
stream_reads (Check (refusals.Instruction address rule)) same = cc
stream_reads (Check refusals.OutOfMemory) same = cc

other_problem : {T : Type 0} (r : Result T Problem) (problem : Problem) → problem ≢ Failed File → IsErr r × IsErrAnd r (λ q. q ≡ problem) → r ≢ Err (Failed File)
other_problem (Ok x) problem other (is, same) e = cc
other_problem (Err q) problem other (is, same) e = other (sym same ∙ (let file : q ≡ Failed File = cc in file))

pub unread_reads : {T : Type 0} (r : Result T Problem) (e : CertError) → IsErr r × IsErrAnd r (λ q. q ≡ problem_of_reading e) → r ≢ Err (Failed File)
unread_reads r e is = other_problem r (problem_of_reading e) (reading_reads e) is

pub unaccepted_reads : {T : Type 0} (r : Result T Problem) (refusal : StreamRefusal) → IsErr r × IsErrAnd r (λ q. q ≡ problem_of_stream refusal) → r ≢ Err (Failed File)
unaccepted_reads r refusal is = other_problem r (problem_of_stream refusal) (stream_reads refusal) is

-- What devices and outcomes are told to be, before and after: which of the two each claim is of.
use Rattle.std.proofs.Common.{◌≡◌, ◌≢◌, ◌⊎◌, inl, inr, ℕ, List, [], ◌∷◌, ◌++◌, Bool, true, false, codes, ap, refl, sym, subst, arith, length}
use Rattle.std.specs.Prelude.{⊤, Option, None, Some, IfSome, Result, Ok, Err, decimal}
use Rattle.std.specs.Io.KnownBytes.{Appends}
use Rattle.clap.specs.declared.error.kind.ErrorKind.TheVariants.{DisplayHelp, UnknownArgument}
use Rattle.zfault.specs.Devices.{AppendsBeginning}
use Rattle.zstory.specs.LoadedStory.{LoadedStory}
use Rattle.zstory.specs.declared.load_error.LoadError.{LoadError}
use Rattle.zstate.specs.State.{Setting, State, opening}
use Rattle.zdomain.specs.Domain.{SetOperations}
use Rattle.zdomain.specs.Interval.{interval_operations}
use Rattle.zdomain.specs.Values.{values_operations}
use Rattle.zcert.specs.Certificate.{Certificate, frame_limit}
use Rattle.zcert.specs.Format.{Format}
use Rattle.zcert.specs.Reading.{heading_at, magic_at, reading}
use Rattle.zrule.specs.declared.rule.Rule.{Rule}
use Rattle.zcheck.specs.Acceptance.{AcceptanceOver}
use Rattle.zcheck.specs.declared.refusal.StoryRule.{StoryRule}
use Rattle.zcommand.specs.CommandLine.{ListStory, Find, FindEach, Check, CheckEach, Play, Explain}
use Rattle.zref.specs.Machine.{setting_of}
use Rattle.zref.specs.declared.scope.Scope.TheVariants.{All, Within}
use Rattle.zplay.specs.Session.{setting_of as session_of}
use Rattle.zplayer.specs.declared.end.End.{End}
use Rattle.zprompt.specs.declared.manner.Manner.{Manner}
use Rattle.zplayer.specs.declared.end.PlayError.{PlayError}
use Rattle.zplayer.specs.declared.end.PlayError.TheVariants as errors
use Rattle.zplayer.specs.Outside.{Blames, Coming}
use Rattle.zquetzal.specs.declared.error.SaveError.TheVariants.{Compressed, Length, NotDescribed, NotForm}
use Rattle.zplayer.specs.Playing.{GivesOrSaves, WantsOrSaves}
use Rattle.zprompt.specs.Manners.{ComesTo as PlayComes}
use Rattle.zplayer.specs.Stories.{Describes}
use Rattle.zplayer.specs.World.{Store, World}
use Rattle.zperform.specs.declared.accepting.AcceptedStory.{AcceptedStory}
use Rattle.zperform.specs.declared.accepting.AcceptedStory.TheVariants.{Intervals, Lists}
use Rattle.zperform.specs.declared.outcome.Failure.TheVariants.{File, Read, Write, Memory}
use Rattle.zperform.specs.declared.outcome.Problem.TheVariants.{Refused, BreaksStory, BreaksInstruction, Failed}
use Rattle.zperform.specs.declared.outcome.Outcome.{Outcome}
use Rattle.zperform.specs.declared.outcome.Outcome.TheVariants.{Listed, Found, Accepted, Explained, NoSuchCode, Played, Stopped}
use Rattle.zperform.specs.Accepting.{CheckComesTo, HoldsCertificate, HoldsStory, IsAcceptedStory, IsJudgedOf, IsPlayedBy, IsPlayedMarked, IsUnaccepted, IsUnacceptedStory, PlayComesTo, PlayEnds, Plays}
use Rattle.zperform.specs.Contents.{CountsNone, ReadsPart, SparesOthers}
use Rattle.zperform.specs.Devices.{Breaks, Devices, Ends, FlushesUnless, Held, ReadsUnless, Says, Seen, Takes, Told, UsesUnless, Writes, devices}
use Rattle.zfind.specs.Found.{marks_of}
use Rattle.zfind.specs.Marking.{FailsUnmarked, IsFoundMarked, IsFoundUnmarked, IsMarkedFailure}
use Rattle.zfind.specs.declared.error.FindError.{FindError}
use Rattle.zfind.specs.declared.found.Found.{Found as FoundCertificate}
use Rattle.zcheck.specs.Marks.{MarkedOver}
use Rattle.zcheck.specs.Judged.{JudgedOver}
use Rattle.zcheck.specs.declared.judged.Judged.TheVariants.{Whole, Marked}
use Rattle.zperform.specs.Finding.{ExplainComesTo, FailsFor, FindComesTo, FindEnds, HasAlone, IsFound, IsFoundFor, IsFoundText, IsNotFound}
use Rattle.zperform.specs.Marking.{AreMarksOf, ArePlacesOf, IsListedBy, ListByComesTo}
use Rattle.zperform.specs.declared.finding.Search.{Search}
use Rattle.zperform.specs.Listing.{HoldsListed, IsNoListing, ListComesTo, listing_text}
use Rattle.zperform.specs.Performing.{Begins, Comes, Does, Explains, IsBlamed, IsToldOf, Lacks, Performs, Reports, SaysFor, Shows, Tells, given, is_each, is_quiet, said_by, spared_in, store_of, written_by}
use Rattle.zperform.specs.Report.{found_line, line_of}
use Rattle.zperform.specs.Checking.{CheckEachComesTo}
use Rattle.zperform.specs.Seeking.{FindEachComesTo}
use Rattle.zperform.specs.declared.wording.Speech.{Speech}
use Rattle.zperform.specs.declared.wording.Speech.TheVariants.{Codes}
use Rattle.zperform.specs.Telling.{SaysEach, refusal_text, said_of}
use Rattle.zperform.specs.Beside.{Aside, Absent, IsUnused, PlaysBeside, Unused, Used}
use Rattle.zperform.proofs.WrittenLemmas.{Grows, grows}
use Rattle.zperform.specs.Blaming.{IsOf}
use Rattle.zperform.specs.declared.blame.Action.TheVariants as actions
use Rattle.zperform.specs.declared.blame.Blame.{Blame}
use Rattle.zperform.specs.declared.outcome.Problem.{Problem}
use Rattle.zperform.specs.Informing.{name_of_certificate}
use Rattle.zperform.specs.Playing.{ComesTo, IsPlayed, IsRefused}
use Rattle.zperform.proofs.AcceptLemmas.{story_bytes}
use Rattle.zscreen.specs.declared.status_lines.StatusLines.{StatusLines}
use Rattle.zscreen.specs.declared.status_lines.StatusLines.TheVariants.{Bracketed, Hidden}

-- ---- devices

abbrev sink : List ℕ → ℕ → Bool → Seen
sink bytes failures waits = record { contents = Some bytes; failures = failures; waits = waits }

abbrev source : List ℕ → ℕ → Told
source bytes failures = record { remaining = Some bytes; failures = failures }

-- files that all have the same bytes
abbrev files : List ℕ → ℕ → Bool → Held
files bytes failures weak = record { known = λ name. Some bytes; failures = failures; can_fail = λ name. weak; blamed = None }

abbrev all : ℕ → ℕ → ℕ → ℕ → Devices
all f r w e = devices (files (f ∷ []) 0 true) (source (r ∷ []) 0) (sink (w ∷ []) 0 false) (sink (e ∷ []) 0 false)

apart : ((all 1 2 3 4).files ≡ files (1 ∷ []) 0 true) × ((all 1 2 3 4).reader ≡ source (2 ∷ []) 0) × ((all 1 2 3 4).writer ≡ sink (3 ∷ []) 0 false) × ((all 1 2 3 4).errors ≡ sink (4 ∷ []) 0 false)
apart = (refl, refl, refl, refl)

-- a sink isn't blamed for what didn't fail
unblamed : FlushesUnless (λ (s : Seen). s.failures) (λ (s : Seen). s.waits) (sink [] 0 false) (sink [] 1 false) ⊥ → ⊥
unblamed writer = omega (arith, writer.blamed.1 (λ no. no))

-- files that were read have the bytes that they had, and can fail where they could
abbrev IsRead : Held → Held → Type 0
IsRead old new = ReadsUnless (λ (f : Held). f.known) (λ (f : Held). f.failures) (λ (f : Held). f.can_fail) old new ⊥

kept : IsRead (files [] 0 true) (files [] 0 true) × (IsRead (files [] 0 true) (files (1 ∷ []) 0 true) → ⊥) × (IsRead (files [] 0 true) (files [] 0 false) → ⊥)
kept = (
  record { blamed = (λ no. absurd no, λ other. refl); kept = refl; alike = refl },
  λ read. full (ap (λ (known : List ℕ → Option (List ℕ)). known []) read.kept),
  λ read. absurd (let same : false ≡ true = ap (λ (weak : List ℕ → Bool). weak []) read.alike in cc),
)
  where
    full : ◌≡◌ {A = Option (List ℕ)} (Some (1 ∷ [])) (Some []) → ⊥
    full e = absurd cc

-- a failure is counted once, and what may not be written isn't
abbrev IsUsed : Held → Held → Type 0 → Type 0
IsUsed old new fails = UsesUnless (λ (f : Held). f.known) (λ (f : Held). f.failures) old new None None fails

used : IsUsed (files [] 0 true) (files [] 1 true) ⊤ × (IsUsed (files [] 0 true) (files (1 ∷ []) 0 true) ⊥ → ⊥)
used = (
  record { unread = λ fails. refl; unfailed = λ none other. absurd (other tt); kept = λ none. refl; spared = λ other another. refl },
  λ uses. full (ap (λ (known : List ℕ → Option (List ℕ)). known []) (uses.kept refl)),
)
  where
    full : ◌≡◌ {A = Option (List ℕ)} (Some (1 ∷ [])) (Some []) → ⊥
    full e = absurd cc

-- a text is taken behind what was there, with no failure, and begun where there is one
taken : Takes (sink (1 ∷ []) 3 true) (sink (1 ∷ 2 ∷ []) 3 false) (2 ∷ [])
taken = record { whole = refl; quiet = refl; flushed = refl }

broken : Breaks (sink (1 ∷ []) 3 false) (sink (1 ∷ []) 4 false) (2 ∷ [])
broken = record { begun = record { taken = 0; grown = refl }; blamed = refl }

not_taken : (Takes (sink [] 0 true) (sink (2 ∷ []) 1 false) (2 ∷ []) → ⊥) × (Breaks (sink (1 ∷ []) 0 false) (sink (5 ∷ []) 1 false) (2 ∷ []) → ⊥)
not_taken = ((λ taken. omega (arith, taken.quiet)), λ broken. absurd (let e = broken.begun.grown in cc))

written :
    Writes {A = ℕ} {E = ℕ} (sink (1 ∷ []) 3 true) (sink (1 ∷ 2 ∷ []) 3 false) (2 ∷ []) (Ok 0) × Writes {A = ℕ} {E = ℕ} (sink (1 ∷ []) 3 false) (sink (1 ∷ []) 4 false) (2 ∷ []) (Err 0)
    × Says (sink (1 ∷ []) 3 false) (sink (1 ∷ []) 4 false) (2 ∷ []) × Ends (sink (1 ∷ []) 3 true) (sink (1 ∷ 2 ∷ []) 3 false) (2 ∷ []) Found Found × Ends (sink (1 ∷ []) 3 false) (sink (1 ∷ []) 4 false) (2 ∷ []) Found (Stopped (Failed Write))
written = (taken, broken, inr broken, inl (refl, taken), inr (refl, broken))

-- no file but the one that is named changes
spared : SparesOthers (1 ∷ []) (λ name. Some []) (λ name. Some []) × (SparesOthers (1 ∷ []) (λ name. Some []) (λ name. Some (2 ∷ [])) → ⊥)
spared = ((λ other another. refl), λ spares. full (spares [] (λ e. omega (arith, ap length e))))
  where
    full : ◌≡◌ {A = Option (List ℕ)} (Some (2 ∷ [])) (Some []) → ⊥
    full e = absurd cc

-- ---- what is said of them

-- the line on want of memory, behind what the errors took before
abbrev memory_line : List ℕ
memory_line = codes "failed: memory" ++ 10 ∷ []

reported : Reports Codes None (Stopped (Failed Memory)) 4 (sink (1 ∷ []) 0 true) (sink (1 ∷ memory_line) 0 false)
reported = record { status_is = refl; said = (_, refl, inl (record { whole = refl; quiet = refl; flushed = refl })) }

abbrev with_errors : ℕ → List ℕ → Devices
with_errors w bytes = devices (files (1 ∷ []) 0 true) (source (2 ∷ []) 0) (sink (w ∷ []) 0 false) (sink bytes 0 false)

abbrev with_writer : List ℕ → ℕ → List ℕ → Devices
with_writer bytes failures errors = devices (files (1 ∷ []) 0 true) (source (2 ∷ []) 0) (sink bytes failures false) (sink errors 0 false)

-- help goes to the writer and nothing to the errors; where writing it fails that is told there
shown : Shows (5 ∷ []) 0 (with_writer (3 ∷ []) 0 (4 ∷ [])) (with_writer (3 ∷ 5 ∷ []) 0 (4 ∷ [])) × (Shows (5 ∷ []) 0 (with_writer (3 ∷ []) 0 (4 ∷ [])) (with_writer (3 ∷ 5 ∷ []) 0 []) → ⊥) × Shows (5 ∷ []) 4 (with_writer (3 ∷ []) 0 []) (with_writer (3 ∷ []) 1 (codes "failed: write" ++ 10 ∷ []))
shown = (
  inl (record { whole = refl; quiet = refl; flushed = refl }, refl, refl),
  told_too,
  inr (record { begun = record { taken = 0; grown = refl }; blamed = refl }, record { status_is = refl; said = (_, refl, inl (record { whole = refl; quiet = refl; flushed = refl })) }),
)
  where
    told_too : Shows (5 ∷ []) 0 (with_writer (3 ∷ []) 0 (4 ∷ [])) (with_writer (3 ∷ 5 ∷ []) 0 []) → ⊥
    told_too (inl (takes, status, same)) = absurd (let e = ap (λ (s : Seen). s.contents) same in cc)
    told_too (inr (breaks, reports)) = omega (arith, breaks.blamed)

-- a mistake goes to the errors and nothing to the writer
told : Tells (5 ∷ []) 2 (with_errors 3 (4 ∷ [])) (with_errors 3 (4 ∷ 5 ∷ [])) × (Tells (5 ∷ []) 2 (with_errors 3 (4 ∷ [])) (with_errors 6 (4 ∷ 5 ∷ [])) → ⊥)
told = ((inl (record { whole = refl; quiet = refl; flushed = refl }), refl, refl), λ tells. absurd (let e = ap (λ (s : Seen). s.contents) tells.2 in cc))

-- Of saves that are refused it is told why, in their order, each in a line of its own; where one couldn't be written the next one is tried.
refusal_texts : (refusal_text Compressed ≡ codes "save refused: Q" ++ decimal 5) × (refusal_text NotDescribed ≡ codes "save refused: Q" ++ decimal 10)
refusal_texts = (refl, refl)

each_told :
    SaysEach (NotDescribed ∷ Compressed ∷ []) (sink (1 ∷ []) 0 true) (sink (1 ∷ line_of (refusal_text Compressed) ++ line_of (refusal_text NotDescribed)) 0 false)
    × SaysEach (NotForm ∷ Compressed ∷ []) (sink [] 0 false) (sink (line_of (refusal_text NotForm)) 1 false)
    × (SaysEach (Compressed ∷ []) (sink [] 0 false) (sink [] 0 false) → ⊥) × (SaysEach [] (sink [] 0 false) (sink (1 ∷ []) 0 false) → ⊥)
each_told = (
  (sink (1 ∷ line_of (refusal_text Compressed)) 0 false, (_, refl, inl (record { whole = refl; quiet = refl; flushed = refl })), inl (record { whole = refl; quiet = refl; flushed = refl })),
  (sink [] 1 false, (_, refl, inr (record { begun = record { taken = 0; grown = refl }; blamed = refl })), inl (record { whole = refl; quiet = refl; flushed = refl })),
  silent,
  λ same. absurd (let e = ap (λ (s : Seen). s.contents) same in cc),
)
  where
    silent : SaysEach (Compressed ∷ []) (sink [] 0 false) (sink [] 0 false) → ⊥
    silent (between, same, inl takes) = absurd (let e = subst (λ (s : Seen). Appends s.contents (Some []) (line_of (refusal_text Compressed))) same takes.whole in cc)
    silent (between, same, inr breaks) = let f = ap (λ (s : Seen). s.failures) same in omega (arith, breaks.blamed, f)

-- they are told where that is asked for and saves are in a file, and by plays alone
told_where :
    (said_of true (Some (7 ∷ [])) (Length ∷ NotForm ∷ []) ≡ Length ∷ NotForm ∷ []) × (said_of false (Some (7 ∷ [])) (Length ∷ []) ≡ []) × (said_of true None (Length ∷ []) ≡ [])
    × (said_by (Play (1 ∷ []) None 1 2 Hidden (Some (7 ∷ [])) true false false) (Length ∷ []) ≡ Length ∷ []) × (said_by (Play (1 ∷ []) None 1 2 Bracketed (Some (7 ∷ [])) false false false) (Length ∷ []) ≡ []) × (said_by (Find (1 ∷ []) (2 ∷ []) None false false false false) (Length ∷ []) ≡ [])
told_where = (refl, refl, refl, refl, refl, refl)

-- want of memory is told, and nothing else is done
lacking :
    Lacks 4 (with_errors 3 (4 ∷ [])) (with_errors 3 (4 ∷ memory_line)) × (Lacks 4 (all 1 2 3 4) (all 1 2 5 4) → ⊥) × (Lacks 4 (all 1 2 3 4) (all 5 2 3 4) → ⊥) × (Lacks 4 (all 1 2 3 4) (all 1 5 3 4) → ⊥)
lacking = (
  record { reported = record { status_is = refl; said = (_, refl, inl (record { whole = refl; quiet = refl; flushed = refl })) }; writer = refl; files = refl; reader = refl },
  λ lacks. absurd (let e = ap (λ (s : Seen). s.contents) lacks.writer in cc),
  λ lacks. absurd (let e = ap (λ (f : Held). f.known []) lacks.files in cc),
  λ lacks. absurd (let e = ap (λ (s : Told). s.remaining) lacks.reader in cc),
)

-- ---- what comes of requests

-- each is of the file that its request names, as it was, and of what was written before and is now
module _ (search : Search) (story certificate : List ℕ) (held later : Held) (input before now : Option (List ℕ)) (aside : Aside) (outcome : Outcome) where
  comes_of_files :
      (commands force json : Bool) → (Comes commands (ListStory story None json) held later input aside [] before now outcome → ListComesTo json (held.known story) before now outcome)
      × (Comes commands (ListStory story (Some certificate) json) held later input aside [] before now outcome → ListByComesTo json (held.known story) (held.known certificate) before now outcome)
      × (Comes commands (Find story certificate search.frames search.strict search.places force false) held later input aside [] before now outcome → FindComesTo (record search { json = false }) story certificate held.known later.known before now outcome)
      × (Comes commands (Check story certificate false) held later input aside [] before now outcome → CheckComesTo (held.known story) (held.known certificate) before now outcome)
      × (Comes commands (Explain (Some story) json) held later input aside [] before now outcome → ExplainComesTo (Some story) json before now outcome)
  comes_of_files commands force json = (λ comes. comes, λ comes. comes, λ comes. comes, λ comes. comes, λ comes. comes)

  -- what is told of each of many stories is of it and of its certificate: the one that is named, or the one beside it
  comes_of_each :
      (stories : List (List ℕ)) (commands force json : Bool)
      → (Comes commands (Find story certificate search.frames search.strict search.places force true) held later input aside [] before now outcome → FindEachComesTo (record search { json = true }) force (Some certificate) (story ∷ []) held later before now outcome)
      × (Comes commands (FindEach stories search.frames search.strict search.places force json) held later input aside [] before now outcome → FindEachComesTo (record search { json = json }) force None stories held later before now outcome)
      × (Comes commands (Check story certificate true) held later input aside [] before now outcome → CheckEachComesTo true (Some certificate) (story ∷ []) held later before now outcome)
      × (Comes commands (CheckEach stories json) held later input aside [] before now outcome → CheckEachComesTo json None stories held later before now outcome)
  comes_of_each stories commands force json = (λ comes. comes, λ comes. comes, λ comes. comes, λ comes. comes)

  comes_of_plays :
      (seed budget : ℕ) (status : StatusLines) (save : Option (List ℕ)) (commands tell force : Bool)
      → (Comes commands (Play story None seed budget status save tell force false) held later input aside [] before now outcome → PlaysBeside held later story save aside (record { options = record { budget = budget; status = status }; commands = commands }) (given input seed (store_of save)) [] before now outcome)
      × (Comes commands (Play story (Some certificate) seed budget status save tell force false) held later input aside [] before now outcome → PlayComesTo (held.known story) (held.known certificate) (record { options = record { budget = budget; status = status }; commands = commands }) (given input seed (store_of save)) [] before now outcome)
  comes_of_plays seed budget status save commands tell force = (λ comes. comes, λ comes. comes)

  -- with no certificate named a story is played by the one beside it only where it is accepted with that, and else with everything tested
  comes_beside :
      (save : Option (List ℕ)) (manner : Manner) (world : World) (blame : Option Blame) (problem : Problem)
      → (PlaysBeside held later story save Absent manner world [] before now outcome → (held.known (name_of_certificate story) ≡ None) × ComesTo (held.known story) manner world [] before now outcome)
      × (PlaysBeside held later story save Used manner world [] before now outcome → ((a : AcceptedStory) × IsAcceptedStory (held.known story) (held.known (name_of_certificate story)) a) × PlayComesTo (held.known story) (held.known (name_of_certificate story)) manner world [] before now outcome)
      × (PlaysBeside held later story save (Unused blame problem) manner world [] before now outcome → IsUnused held story blame problem × ComesTo (held.known story) manner world [] before now outcome)
  comes_beside save manner world blame problem = (λ plays. plays.comes, λ plays. plays.comes, λ plays. plays.comes)

  -- the file that is told of where one failed is one that the request names
  told_of :
      (blamed : Option Blame) (json : Bool) → (IsToldOf (ListStory story None json) blamed → IsOf story actions.Read blamed)
      × (IsToldOf (Find story certificate search.frames search.strict search.places json json) blamed → IsOf story actions.Read blamed ⊎ IsOf certificate actions.Write blamed)
      × (IsToldOf (Check story certificate json) blamed → IsOf story actions.Read blamed ⊎ IsOf certificate actions.Read blamed) × (IsToldOf (Explain None json) blamed → ⊥)
  told_of blamed json = (λ told. told, λ told. told, λ told. told, λ told. told)

-- what holds with a certificate of neither version
neither : {A B : Type 0} → (A → ⊥) → (B → ⊥) → A ⊎ B → ⊥
neither not_a not_b (inl a) = not_a a
neither not_a not_b (inr b) = not_b b

-- nothing is written where a file isn't read, is no story, or wants memory
abbrev IsUnwritten : (Option (List ℕ) → Option (List ℕ) → Outcome → Type 0) → Outcome → Type 0
IsUnwritten ComesSo outcome = ComesSo (Some (1 ∷ [])) (Some (1 ∷ 2 ∷ [])) outcome → ⊥

longer : ◌≡◌ {A = Option (List ℕ)} (Some (1 ∷ 2 ∷ [])) (Some (1 ∷ [])) → ⊥
longer e = absurd cc

unwritten :
    (manner : Manner) (outside : World) (error : LoadError)
    → IsUnwritten (ComesTo (Some []) manner outside []) (Stopped (Failed File)) × IsUnwritten (ComesTo (Some []) manner outside []) (Stopped (Refused error)) × IsUnwritten (ComesTo (Some []) manner outside []) (Stopped (Failed Memory))
    × IsUnwritten (PlayComesTo (Some []) (Some []) manner outside []) (Stopped (Failed File)) × IsUnwritten (PlayComesTo (Some []) (Some []) manner outside []) (Stopped (Refused error)) × IsUnwritten (PlayComesTo (Some []) (Some []) manner outside []) (Stopped (Failed Memory))
    × IsUnwritten (ListComesTo false (Some [])) (Stopped (Failed File)) × IsUnwritten (ListComesTo false (Some [])) (Stopped (Failed Memory)) × IsUnwritten (ListByComesTo false (Some []) (Some [])) (Stopped (Failed File)) × IsUnwritten (CheckComesTo (Some []) (Some [])) (Stopped (Failed File)) × IsUnwritten (ExplainComesTo (Some (codes "X9")) false) NoSuchCode
unwritten manner outside error = (
  λ comes. longer comes.0,
  λ comes. longer comes.1,
  no_memory,
  neither (λ comes. longer comes.1) (λ comes. longer comes.1),
  neither (λ comes. longer comes.1) (λ comes. longer comes.1),
  neither (no_memory_to_accept _ _) (no_memory_to_accept _ _),
  λ comes. longer comes.1,
  λ comes. longer comes.1,
  λ comes. longer comes.1,
  λ comes. longer comes.1,
  λ comes. longer comes.1,
)
  where
    no_memory : IsUnwritten (ComesTo (Some []) manner outside []) (Stopped (Failed Memory))
    no_memory (inl (same, none, some)) = longer same
    no_memory (inr (file, same, played)) = omega (arith, story_bytes (Some []) played.story (file, same, played.holds))

    no_memory_to_accept : {V : Type 0} (o : SetOperations V) (format : Format V) → IsUnwritten (PlayEnds o format (Some []) (Some []) manner outside []) (Stopped (Failed Memory))
    no_memory_to_accept o format (inl (same, none, some)) = longer same
    no_memory_to_accept o format (inr (inl (a, accepted, played))) = omega (arith, story_bytes (Some []) a.story accepted.story)
    no_memory_to_accept o format (inr (inr (m, marked, played))) = omega (arith, story_bytes (Some []) m.story marked.story)

-- what was written before is never taken back, with the player's own commands or with none
never_less : Grows (Some (1 ∷ [])) (Some []) → ⊥
never_less (bytes, behind) = absurd (let e = behind in cc)

loses : (m : Setting) (T : State → Type 0) (W : State → Type 0) (manner : Manner) (given : World) (s t : State) (words : Option Coming) (store : Store) (result : Result End PlayError)
    → PlayComes m T W manner given s t words store (Some (1 ∷ [])) (Some []) result → ⊥
loses m T W manner given s t words store result came = never_less (grows m T W manner given s t words store (Some (1 ∷ [])) (Some []) result came)

of_play : (manner : Manner) (outside : World) (file : List ℕ) (result : Result End PlayError) → IsPlayed file manner outside [] (Some (1 ∷ [])) (Some []) result → ⊥
of_play manner outside file result played = loses (setting_of played.story All) (λ _. ⊤) (WantsOrSaves (setting_of played.story All)) manner outside (opening played.story) played.state played.words played.store result played.comes

of_accepted : {V : Type 0} (o : SetOperations V) (manner : Manner) (outside : World) (a : AcceptanceOver V) (result : Result End PlayError) → IsPlayedBy o a manner outside [] (Some (1 ∷ [])) (Some []) result → ⊥
of_accepted o manner outside a result played = loses (session_of a) (Describes o a) (GivesOrSaves (session_of a)) manner outside (opening a.story) played.state played.words played.store result played.comes

of_marked : {V : Type 0} (manner : Manner) (outside : World) (m : MarkedOver V) (result : Result End PlayError) → IsPlayedMarked m manner outside [] (Some (1 ∷ [])) (Some []) result → ⊥
of_marked manner outside m result played = loses (setting_of m.story (Within (frame_limit m.certificate))) (λ _. ⊤) (WantsOrSaves (setting_of m.story (Within (frame_limit m.certificate)))) manner outside (opening m.story) played.state played.words played.store result played.comes

-- nor with a certificate, whether it marks something or not
of_either : {V : Type 0} (o : SetOperations V) (format : Format V) (manner : Manner) (outside : World) (result : Result End PlayError) → Plays o format None None manner outside [] (Some (1 ∷ [])) (Some []) result → ⊥
of_either o format manner outside result (inl (a, accepted, played)) = of_accepted o manner outside a result played
of_either o format manner outside result (inr (m, marked, played)) = of_marked manner outside m result played

abbrev Loses : (Option (List ℕ) → Option (List ℕ) → Outcome → Type 0) → Outcome → Type 0
Loses ComesSo outcome = ComesSo (Some (1 ∷ [])) (Some []) outcome → ⊥

played_on :
    (manner : Manner) (outside : World) (end : End)
    → Loses (ComesTo None manner outside []) (Played end) × Loses (ComesTo None manner outside []) (Stopped (Failed Read)) × Loses (ComesTo None manner outside []) (Stopped (Failed Write)) × Loses (ComesTo None manner outside []) (Stopped (Failed Memory))
    × Loses (PlayComesTo None None manner outside []) (Played end) × Loses (PlayComesTo None None manner outside []) (Stopped (Failed Read)) × Loses (PlayComesTo None None manner outside []) (Stopped (Failed Write)) × Loses (PlayComesTo None None manner outside []) (Stopped (Failed Memory))
played_on manner outside end = (
  λ comes. of_play manner outside comes.0 (Ok end) comes.2,
  λ comes. of_play manner outside comes.0 (Err errors.Read) comes.2,
  λ comes. of_play manner outside comes.0 (Err errors.Write) comes.2,
  no_memory,
  neither (of_either _ _ manner outside (Ok end)) (of_either _ _ manner outside (Ok end)),
  neither (of_either _ _ manner outside (Err errors.Read)) (of_either _ _ manner outside (Err errors.Read)),
  neither (of_either _ _ manner outside (Err errors.Write)) (of_either _ _ manner outside (Err errors.Write)),
  neither (no_memory_to_accept _ _) (no_memory_to_accept _ _),
)
  where
    empty : ◌≡◌ {A = Option (List ℕ)} (Some []) (Some (1 ∷ [])) → ⊥
    empty e = absurd cc

    no_memory : Loses (ComesTo None manner outside []) (Stopped (Failed Memory))
    no_memory (inl (same, none, some)) = empty same
    no_memory (inr (file, same, played)) = of_play manner outside file (Err errors.OutOfMemory) played

    no_memory_to_accept : {V : Type 0} (o : SetOperations V) (format : Format V) → Loses (PlayEnds o format None None manner outside []) (Stopped (Failed Memory))
    no_memory_to_accept o format (inl (same, none, some)) = empty same
    no_memory_to_accept o format (inr played) = of_either o format manner outside (Err errors.OutOfMemory) played

-- no bytes are no certificate
unread : {V : Type 0} (format : Format V) (c : Certificate V) → HoldsCertificate format (Some []) c → ⊥
unfolding reading heading_at magic_at
unread format c held = absurd (let none = subst (λ (file : List ℕ). reading format file ≡ Ok c) held.1 held.2 in cc)

-- nothing comes of an empty file, whatever the other one is
module _ {V : Type 0} (o : SetOperations V) (format : Format V) where
  no_story_with : (certificate : Option (List ℕ)) (j : JudgedOver V) → IsJudgedOf o format (Some []) certificate j → ⊥
  no_story_with certificate (Whole a) accepted = omega (arith, story_bytes (Some []) a.story accepted.story)
  no_story_with certificate (Marked m) marked = omega (arith, story_bytes (Some []) m.story marked.story)

  no_certificate_with : (story : Option (List ℕ)) (j : JudgedOver V) → IsJudgedOf o format story (Some []) j → ⊥
  no_certificate_with story (Whole a) accepted = unread format a.certificate accepted.certificate
  no_certificate_with story (Marked m) marked = unread format m.certificate marked.certificate

  -- nor is it played
  no_play_of_none : (certificate : Option (List ℕ)) (manner : Manner) (outside : World) (before now : Option (List ℕ)) (result : Result End PlayError) → Plays o format (Some []) certificate manner outside [] before now result → ⊥
  no_play_of_none certificate manner outside before now result (inl (a, accepted, played)) = no_story_with certificate (Whole a) accepted
  no_play_of_none certificate manner outside before now result (inr (m, marked, played)) = no_story_with certificate (Marked m) marked

  no_play_with_none : (story : Option (List ℕ)) (manner : Manner) (outside : World) (before now : Option (List ℕ)) (result : Result End PlayError) → Plays o format story (Some []) manner outside [] before now result → ⊥
  no_play_with_none story manner outside before now result (inl (a, accepted, played)) = no_certificate_with story (Whole a) accepted
  no_play_with_none story manner outside before now result (inr (m, marked, played)) = no_certificate_with story (Marked m) marked

no_story : (a : AcceptedStory) (certificate : Option (List ℕ)) → IsAcceptedStory (Some []) certificate a → ⊥
no_story (Intervals a) certificate accepted = no_story_with _ _ certificate a accepted
no_story (Lists a) certificate accepted = no_story_with _ _ certificate a accepted

no_certificate : (story : Option (List ℕ)) (a : AcceptedStory) → IsAcceptedStory story (Some []) a → ⊥
no_certificate story (Intervals a) accepted = no_certificate_with _ _ story a accepted
no_certificate story (Lists a) accepted = no_certificate_with _ _ story a accepted

abbrev ComesOfNone : (Option (List ℕ) → Option (List ℕ) → Outcome → Type 0) → Outcome → Type 0
ComesOfNone ComesSo outcome = ComesSo None None outcome → ⊥

-- (of the story's file first, then of the certificate's)
accepted_of_files :
    (manner : Manner) (outside : World) (end : End)
    → ComesOfNone (CheckComesTo (Some []) None) Accepted × ComesOfNone (CheckComesTo (Some []) None) (Stopped (Failed Write)) × ComesOfNone (PlayComesTo (Some []) None manner outside []) (Played end)
    × ComesOfNone (PlayComesTo (Some []) None manner outside []) (Stopped (Failed Read)) × ComesOfNone (PlayComesTo (Some []) None manner outside []) (Stopped (Failed Write)) × ComesOfNone (PlayComesTo (Some []) (Some (1 ∷ [])) manner outside []) (Stopped (Failed Memory))
    × ComesOfNone (CheckComesTo None (Some [])) Accepted × ComesOfNone (CheckComesTo None (Some [])) (Stopped (Failed Write)) × ComesOfNone (PlayComesTo None (Some []) manner outside []) (Played end)
    × ComesOfNone (ListByComesTo false (Some []) None) Listed × ComesOfNone (ListByComesTo false None (Some [])) Listed × ComesOfNone (ListByComesTo false None (Some [])) (Stopped (Failed Write))
accepted_of_files manner outside end = (
  λ comes. no_story comes.0 _ comes.1,
  λ comes. no_story comes.0 _ comes.1,
  neither (no_play_of_none _ _ _ manner outside None None (Ok end)) (no_play_of_none _ _ _ manner outside None None (Ok end)),
  neither (no_play_of_none _ _ _ manner outside None None (Err errors.Read)) (no_play_of_none _ _ _ manner outside None None (Err errors.Read)),
  neither (no_play_of_none _ _ _ manner outside None None (Err errors.Write)) (no_play_of_none _ _ _ manner outside None None (Err errors.Write)),
  neither (no_memory _ _) (no_memory _ _),
  λ comes. no_certificate _ comes.0 comes.1,
  λ comes. no_certificate _ comes.0 comes.1,
  neither (no_play_with_none _ _ _ manner outside None None (Ok end)) (no_play_with_none _ _ _ manner outside None None (Ok end)),
  λ comes. neither (λ held. no_story_with _ _ _ held.0 held.1) (λ held. no_story_with _ _ _ held.0 held.1) comes.1,
  λ comes. neither (λ held. no_certificate_with _ _ _ held.0 held.1) (λ held. no_certificate_with _ _ _ held.0 held.1) comes.1,
  λ comes. neither (λ held. no_certificate_with _ _ _ held.0 held.1) (λ held. no_certificate_with _ _ _ held.0 held.1) comes.1,
)
  where
    no_memory : {V : Type 0} (o : SetOperations V) (format : Format V) → ComesOfNone (PlayEnds o format (Some []) (Some (1 ∷ [])) manner outside []) (Stopped (Failed Memory))
    no_memory o format (inl (same, none, some)) = omega (arith, some)
    no_memory o format (inr played) = no_play_of_none o format _ manner outside None None (Err errors.OutOfMemory) played

-- an acceptance that was begun to be written isn't taken back either
begun_on : Loses (CheckComesTo None None) (Stopped (Failed Write)) × ((code : Option (List ℕ)) (json : Bool) → Loses (ExplainComesTo code json) Explained × Loses (ExplainComesTo code json) (Stopped (Failed Write)))
begun_on = ((λ comes. absurd (let e = comes.2.grown in cc)), λ code json. ((λ comes. absurd (let e = comes.2 in cc)), λ comes. absurd (let e = comes.2.grown in cc)))

-- of a certificate that is accepted each instruction has its line, behind what was written before: as its listing has it, or with its marks
abbrev IsListedAs : Bool → AcceptedStory → List ℕ → Type 0
IsListedAs json (Intervals j) text = IsListedBy json interval_operations j text
IsListedAs json (Lists j) text = IsListedBy json values_operations j text

module _ (json : Bool) (story certificate : Option (List ℕ)) (before now : Option (List ℕ)) where
  listed_by_files :
      (ListByComesTo json story certificate before now Listed → (a : AcceptedStory) × (text : List ℕ) × IsAcceptedStory story certificate a × IsListedAs json a text × Appends before now text)
      × (ListByComesTo json story certificate before now (Stopped (Failed Write)) → (a : AcceptedStory) × (text : List ℕ) × IsAcceptedStory story certificate a × IsListedAs json a text × AppendsBeginning before now text)
      × (ListByComesTo json story certificate before now (Stopped (Failed Memory)) → IsUnacceptedStory story certificate (Failed Memory) × (now ≡ before))
  listed_by_files = (listed, begun, λ comes. comes)
    where
      listed : ListByComesTo json story certificate before now Listed → (a : AcceptedStory) × (text : List ℕ) × IsAcceptedStory story certificate a × IsListedAs json a text × Appends before now text
      listed (text, inl (j, accepted, is), took) = (Intervals j, text, accepted, is, took)
      listed (text, inr (j, accepted, is), took) = (Lists j, text, accepted, is, took)

      begun : ListByComesTo json story certificate before now (Stopped (Failed Write)) → (a : AcceptedStory) × (text : List ℕ) × IsAcceptedStory story certificate a × IsListedAs json a text × AppendsBeginning before now text
      begun (text, inl (j, accepted, is), took) = (Intervals j, text, accepted, is, took)
      begun (text, inr (j, accepted, is), took) = (Lists j, text, accepted, is, took)

-- of one that marks nothing the listing has the lines, of one that marks something they tell which and why
listed_by_marks :
    {V : Type 0} (o : SetOperations V) (a : AcceptanceOver V) (m : MarkedOver V) (text : List ℕ)
    → (IsListedBy false o (Whole a) text → text ≡ listing_text a.listing.records) × (IsListedBy true o (Marked m) text → AreMarksOf o m.story m.certificate true false text)
listed_by_marks o a m text = ((λ listed. listed), (λ listed. listed))

-- memory is wanted for a story's file alone
unaccepted : (IsUnacceptedStory (Some []) (Some (1 ∷ [])) (Failed Memory) → ⊥) × (CheckComesTo (Some []) (Some (1 ∷ [])) None None (Stopped (Failed Memory)) → ⊥)
unaccepted = (neither (λ some. omega (arith, some)) (λ some. omega (arith, some)), λ comes. neither (λ some. omega (arith, some)) (λ some. omega (arith, some)) comes.0)

-- what is refused is the story that its file holds, with the certificate of the other
module _ {V : Type 0} (o : SetOperations V) (format : Format V) (story certificate : Option (List ℕ)) (rule : StoryRule) (address : ℕ) (broken : Rule) where
  broken_of_files :
      (IsUnaccepted o format story certificate (BreaksStory rule) → (s : LoadedStory) × (c : Certificate V) × HoldsStory story s × HoldsCertificate format certificate c)
      × (IsUnaccepted o format story certificate (BreaksInstruction address broken) → (s : LoadedStory) × (c : Certificate V) × HoldsStory story s × HoldsCertificate format certificate c)
      × ((manner : Manner) (outside : World) (before now : Option (List ℕ)) → PlayEnds o format story certificate manner outside [] before now (Stopped (BreaksStory rule)) → (s : LoadedStory) × (c : Certificate V) × HoldsStory story s × HoldsCertificate format certificate c)
  broken_of_files = (λ b. (b.story, b.certificate, b.held, b.read), λ b. (b.story, b.certificate, b.held, b.read), λ manner outside before now comes. (comes.0.story, comes.0.certificate, comes.0.held, comes.0.read))

-- `check` tells of no rule where the certificate's file holds no certificate, whatever was written before
unread_at_check : (rule : StoryRule) (address : ℕ) (broken : Rule) → (CheckComesTo None (Some []) None None (Stopped (BreaksStory rule)) → ⊥) × (CheckComesTo None (Some []) None None (Stopped (BreaksInstruction address broken)) → ⊥)
unread_at_check rule address unkept =
    (λ comes. neither (λ b. unread _ b.certificate b.read) (λ b. unread _ b.certificate b.read) comes.0, λ comes. neither (λ b. unread _ b.certificate b.read) (λ b. unread _ b.certificate b.read) comes.0)

-- a story is refused for its own file
refused_story : (story certificate : Option (List ℕ)) (error : LoadError) → IsUnacceptedStory story certificate (Refused error) → (file : List ℕ) × IfSome story (λ bytes. file ≡ bytes) × IsRefused file error
refused_story story certificate error (inl refused) = refused
refused_story story certificate error (inr refused) = refused

-- a certificate that is found is of the story as it was, and stands in its file now; where none is found no file changes
module _ (search : Search) (story certificate : List ℕ) (held holds : List ℕ → Option (List ℕ)) (before now : Option (List ℕ)) where
  found_in_files :
      (FindEnds search story certificate held holds before now Found → (bytes : List ℕ) × (text : List ℕ) × (marks : ℕ) × IsFound search (held story) bytes text marks × HasAlone bytes (holds certificate) × Appends before now text)
      × (FindEnds search story certificate held holds before now (Stopped (Failed Write)) → (bytes : List ℕ) × (text : List ℕ) × (marks : ℕ) × IsFound search (held story) bytes text marks × HasAlone bytes (holds certificate) × AppendsBeginning before now text)
      × (FindEnds search story certificate held holds before now (Stopped (Failed Memory)) → (IsNotFound search (held story) (Failed Memory) × (Failed Memory ≢ Failed File → holds ≡ held)) × (now ≡ before))
  found_in_files = (λ ends. ends, λ ends. ends, λ ends. ends)

  found_at_last : (outcome : Outcome) → FindComesTo search story certificate held holds before now outcome → FindEnds search story certificate held holds before now outcome × SparesOthers certificate held holds
  found_at_last outcome comes = (comes.ends, comes.spared)

  -- with `--strict` it marks nothing, and else it may; how many it marks is told, and with `--places` which
  found_as_asked :
      (s : LoadedStory) (found : FoundCertificate) (text : List ℕ)
      → (IsFoundFor (record search { strict = true }) s found → IsFoundUnmarked s search.frames found) × (IsFoundFor (record search { strict = false }) s found → IsFoundMarked s search.frames found)
      × (IsFoundText false false s found text → text ≡ found_line (marks_of found)) × (IsFoundText false true s found text → (places : List ℕ) × ArePlacesOf false s found places × (text ≡ found_line (marks_of found) ++ places))
      × (IsFoundText true true s found text → ArePlacesOf true s found text)
  found_as_asked s found text = ((λ f. f), (λ f. f), (λ t. t), (λ t. t), (λ t. subst (ArePlacesOf true s found) (sym t.2) t.1))

  unfound_as_asked :
      (s : LoadedStory) (error : FindError)
      → (FailsFor (record search { strict = true }) s error → FailsUnmarked s search.frames error) × (FailsFor (record search { strict = false }) s error → IsMarkedFailure s search.frames error)
  unfound_as_asked s error = ((λ f. f), (λ f. f))

  listed_of_file :
      (json : Bool) (known : Option (List ℕ)) → (ListComesTo json known before now Listed → (text : List ℕ) × HoldsListed json known text × Appends before now text)
      × (ListComesTo json known before now (Stopped (Failed Write)) → (text : List ℕ) × HoldsListed json known text × AppendsBeginning before now text) × (ListComesTo json known before now (Stopped (Failed Memory)) → IsNoListing known (Failed Memory) × (now ≡ before))
  listed_of_file json known = (λ comes. comes, λ comes. comes, λ comes. comes)

-- ---- parts of files, and calls that fail

-- bytes 1 and 2 of three; none of a file that goes on, where there is no room
parts : ReadsPart (Some (10 ∷ 20 ∷ 30 ∷ [])) 1 2 (20 ∷ 30 ∷ []) × ReadsPart (Some (10 ∷ 20 ∷ [])) 0 0 []
parts = (record { within = omega arith; read = refl; ends = λ none some. absurd (omega (arith, none)) }, record { within = omega arith; read = refl; ends = λ none some. absurd (omega (arith, some)) })

counted : CountsNone {A = ℕ} 3 4 None × CountsNone {A = ℕ} 3 3 (Some 0) × (CountsNone {A = ℕ} 3 4 (Some 0) → ⊥) × (CountsNone {A = ℕ} 3 3 None → ⊥)
counted = (refl, refl, λ e. omega (arith, e), λ e. omega (arith, e))

-- words that name no command: want of memory, help and a mistake, with no file and no input touched
explained :
    Explains (DisplayHelp ∷ []) 4 (with_errors 3 (4 ∷ [])) (with_errors 3 (4 ∷ memory_line)) × Explains (DisplayHelp ∷ []) 0 (with_writer (3 ∷ []) 0 (4 ∷ [])) (with_writer (3 ∷ 5 ∷ []) 0 (4 ∷ []))
    × Explains (UnknownArgument ∷ []) 2 (with_errors 3 (4 ∷ [])) (with_errors 3 (4 ∷ 5 ∷ [])) × (Explains (UnknownArgument ∷ []) 2 (all 1 2 3 4) (all 5 2 3 4) → ⊥) × (Explains (UnknownArgument ∷ []) 2 (all 1 2 3 4) (all 1 5 3 4) → ⊥)
explained = (
  inl lacking.0,
  inr (DisplayHelp, 5 ∷ [], inl refl, shown.0, refl, refl),
  inr (UnknownArgument, 5 ∷ [], inl refl, told.0, refl, refl),
  no_file,
  no_input,
)
  where
    no_file : Explains (UnknownArgument ∷ []) 2 (all 1 2 3 4) (all 5 2 3 4) → ⊥
    no_file (inl lacks) = absurd (omega (arith, lacks.reported.status_is))
    no_file (inr (kind, text, among, tells, same, unread)) = absurd (let e = ap (λ (f : Held). f.known []) same in cc)

    no_input : Explains (UnknownArgument ∷ []) 2 (all 1 2 3 4) (all 1 5 3 4) → ⊥
    no_input (inl lacks) = absurd (omega (arith, lacks.reported.status_is))
    no_input (inr (kind, text, among, tells, same, unread)) = absurd (let e = ap (λ (s : Told). s.remaining) unread in cc)

-- ---- all that is done

module _ (words : List (List ℕ)) (speech : Speech) (commands : Bool) (status : ℕ) (old new : Devices) where
  -- the words do it, or there was no memory to read them
  performed : Performs words speech commands status old new → Does words speech commands status old new ⊎ Lacks status old new
  performed performs = performs

  -- what is done is of the devices as they were and as they are
  done :
      (did : Does words speech commands status old new) → Begins commands did.request old.files new.files old.reader.remaining did.aside did.refusals old.writer.contents new.writer.contents did.outcome
      × (did.outcome ≡ Stopped (Failed File) → IsBlamed did.request old.files) × (did.outcome ≡ Stopped (Failed File) → IsToldOf did.request new.files.blamed) × Blames (did.outcome ≡ Stopped (Failed Read)) old.reader.failures new.reader.failures × (is_quiet did.request ≡ true → new.reader ≡ old.reader)
      × SaysFor did.request did.aside did.refusals old.errors did.between × Reports speech new.files.blamed did.outcome status did.between new.errors × FlushesUnless (λ (s : Seen). s.failures) (λ (s : Seen). s.waits) old.writer new.writer (did.outcome ≡ Stopped (Failed Write))
      × (is_each did.request ≡ false → UsesUnless (λ (f : Held). f.known) (λ (f : Held). f.failures) old.files new.files (spared_in did.request) (written_by did.request) (did.outcome ≡ Stopped (Failed File)))
  done did = (did.comes, did.could, did.blamed, did.reader, did.unasked, did.told, did.reported, did.writer, did.files)

-- Certificates found for many stories: what is told of each (own).
use Rattle.std.specs.Prelude.{◌≡◌, ◌≢◌, ◌⊎◌, ⊤, ℕ, Bool, true, false, List, [], ◌∷◌, ◌++◌, Option, None, Some, IfSome, Ok, Err, codes, option_and_then, MatchBool}
use Rattle.zbatch.specs.declared.summary.Wording.TheVariants.{Found as AsFound}
use Rattle.zbatch.specs.declared.work.Ended.{Ended}
use Rattle.zbatch.specs.declared.work.Ended.TheVariants as ways
use Rattle.zcommand.specs.CommandLine.{low_limit}
use Rattle.zperform.specs.Blaming.{IsUnreadOrUnwritten}
use Rattle.zperform.specs.Contents.{SparesOthers}
use Rattle.zperform.specs.Devices.{Held}
use Rattle.zperform.specs.Each.{EachComesTo, certificate_for, ended_by, heading_text, last_text}
use Rattle.zperform.specs.Finding.{FindComesTo, HasAlone, IsFound, IsNotFound, IsOfStoryOrFound}
use Rattle.zperform.specs.Keeping.{BeginsSo, magic_of}
use Rattle.zperform.specs.Verdicts.{AreFactsOf, IsVerdictText}
use Rattle.zperform.specs.Wording.{first_words}
use Rattle.zperform.specs.declared.blame.Blame.{Blame}
use Rattle.zperform.specs.declared.finding.Search.{Search}
use Rattle.zperform.specs.declared.outcome.Failure.TheVariants.{File, Memory}
use Rattle.zperform.specs.declared.outcome.Problem.{Problem}
use Rattle.zperform.specs.declared.outcome.Problem.TheVariants.{Failed, Occupied}
use Rattle.zperform.specs.declared.outcome.Purpose.TheVariants.{Certificate}
use Rattle.zperform.specs.declared.outcome.Outcome.{Outcome}
use Rattle.zperform.specs.declared.verdict.Facts.{Facts}

-- a certificate may be kept in a file: whatever that holds, if it is forced, and else where it is none but a certificate, if it is known
abbrev pub MayKeep : Bool → Option (List ℕ) → Type 0
MayKeep true known = ⊤
MayKeep false known = IfSome known (BeginsSo (magic_of Certificate))

-- it may not
abbrev pub IsKeptFrom : Bool → Option (List ℕ) → Type 0
IsKeptFrom force known = (force ≡ false) × IfSome known (λ bytes. ¬ BeginsSo (magic_of Certificate) bytes)

-- why no certificate is kept: its file holds something else, or none is found, or memory is wanting for its name, or it can't be written
abbrev pub IsUnkept : Search → Bool → Option (List ℕ) → Option (List ℕ) → Problem → Type 0
IsUnkept search force story certificate problem =
    ((problem ≡ Occupied Certificate) × IsKeptFrom force certificate) ⊎ IsNotFound search story problem ⊎ (problem ≡ Failed Memory)

-- what is told of a certificate that is found: the lines as `find` tells them behind the story's name, or an object, with those of what it marks behind it
abbrev pub IsFoundSo : Bool → List ℕ → Option (List ℕ) → Bool → Option Blame → List ℕ → ℕ → List ℕ → Type 0
IsFoundSo false name known can_fail blame said marks text = text ≡ heading_text name ++ said
IsFoundSo true name known can_fail blame said marks text = (facts : Facts) × (object : List ℕ) × AreFactsOf known can_fail facts × IsVerdictText name facts (codes "found") (Ok marks) blame object × (text ≡ object ++ said)

-- what is told of why there is none
abbrev pub IsUnfoundSo : Bool → List ℕ → Option (List ℕ) → Bool → Option Blame → Problem → List ℕ → Type 0
IsUnfoundSo false name known can_fail blame problem text = text ≡ heading_text name ++ (first_words blame problem ++ 10 ∷ [])
IsUnfoundSo true name known can_fail blame problem text = (facts : Facts) × AreFactsOf known can_fail facts × IsVerdictText name facts (codes "found") (Err problem) blame text

-- a certificate is found, and stands in its file
pub record IsKeptSo (search : Search) (force : Bool) (certificate name : List ℕ) (held holds : List ℕ → Option (List ℕ)) (bytes said : List ℕ) (marks : ℕ) : Type 0 where
  pub may : MayKeep force (held certificate)
  pub found : IsFound search (held name) bytes said marks
  pub whole : HasAlone bytes (holds certificate)

-- so it is, and is told of
pub record Keeps (search : Search) (force : Bool) (certificate : List ℕ) (files later : Held) (name : List ℕ) (ended : Ended) (text : List ℕ) : Type 0 where
  pub bytes : List ℕ
  pub said : List ℕ
  pub marks : ℕ
  pub kept_so : IsKeptSo search force certificate name files.known later.known bytes said marks
  pub ended_is : ended ≡ ways.Well
  pub told : IsFoundSo search.json name (files.known name) (files.can_fail name) later.blamed said marks text

-- none is kept, no file changes unless its writing failed, and that is told: that a file failed only of one of the two that can fail, by its name
pub record Leaves (search : Search) (force : Bool) (certificate : List ℕ) (files later : Held) (name : List ℕ) (ended : Ended) (text : List ℕ) : Type 0 where
  pub problem : Problem
  pub why : IsUnkept search force (files.known name) (files.known certificate) problem
  pub kept : problem ≢ Failed File → later.known ≡ files.known
  pub could : problem ≡ Failed File → IsOfStoryOrFound search files name certificate
  pub blamed : problem ≡ Failed File → IsUnreadOrUnwritten name certificate later.blamed
  pub ended_is : ended ≡ ended_by problem
  pub told : IsUnfoundSo search.json name (files.known name) (files.can_fail name) later.blamed problem text

-- no file changes but the certificate's, and one of the two is told
abbrev pub TellsFind : Search → Bool → Option (List ℕ) → Held → Held → List ℕ → Option (Ended × List ℕ) → Type 0
TellsFind search force certificate files later name None = SparesOthers (certificate_for certificate name) files.known later.known × (later.can_fail ≡ files.can_fail)
TellsFind search force certificate files later name (Some told) =
    SparesOthers (certificate_for certificate name) files.known later.known
    × (later.can_fail ≡ files.can_fail)
    × (Keeps search force (certificate_for certificate name) files later name told.0 told.1 ⊎ Leaves search force (certificate_for certificate name) files later name told.0 told.1)

-- for a private clause: a search whose limit of frames, if it has one, isn't above the greatest
abbrev pub lowered : Search → Search
lowered search = record search { frames = option_and_then low_limit search.frames }

-- what finding certificates of many stories comes to
abbrev pub FindEachComesTo : Search → Bool → Option (List ℕ) → List (List ℕ) → Held → Held → Option (List ℕ) → Option (List ℕ) → Outcome → Type 0
FindEachComesTo search force certificate names files later before now outcome =
    EachComesTo (TellsFind search force certificate) search.json (last_text search.json AsFound) names files later before now outcome

-- what finding the certificate of one story comes to, which is named: that is told in lines, or in an object
abbrev pub FindOneComesTo : Search → Bool → List ℕ → List ℕ → Held → Held → Option (List ℕ) → Option (List ℕ) → Outcome → Type 0
FindOneComesTo search force story certificate files later before now outcome =
    MatchBool search.json (FindEachComesTo search force (Some certificate) (story ∷ []) files later before now outcome) (FindComesTo search story certificate files.known later.known before now outcome)

-- which file a failure is of that ends it: where it is told in lines, the story's, or the certificate's
abbrev pub IsOfOne : Search → Held → List ℕ → List ℕ → Type 0
IsOfOne search files story certificate = (search.json ≡ false) × IsOfStoryOrFound search files story certificate

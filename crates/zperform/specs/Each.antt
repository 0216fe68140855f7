-- Many stories, one after another, each told of when it is done (own).
use Rattle.std.specs.Prelude.{◌≡◌, ◌≢◌, ◌⊎◌, ℕ, Bool, true, false, List, [], ◌∷◌, ◌++◌, Option, None, Some, Result, Ok, Err, codes}
use Rattle.std.specs.Io.KnownBytes.{Appends}
use Rattle.zfault.specs.Devices.{AppendsBeginning}
use Rattle.zbatch.specs.Summary.{summary_text}
use Rattle.zbatch.specs.Working.{Runs, tally_of}
use Rattle.zbatch.specs.declared.summary.Wording.{Wording}
use Rattle.zbatch.specs.declared.tally.Tally.{Tally}
use Rattle.zbatch.specs.declared.work.Ended.{Ended}
use Rattle.zbatch.specs.declared.work.Ended.TheVariants as ways
use Rattle.zperform.specs.Devices.{Breaks, Held, Seen, Takes}
use Rattle.zperform.specs.Informing.{name_of_certificate}
use Rattle.zperform.specs.declared.outcome.Failure.TheVariants.{Memory, Write}
use Rattle.zperform.specs.declared.outcome.Problem.{Problem}
use Rattle.zperform.specs.declared.outcome.Problem.TheVariants.{Failed}
use Rattle.zperform.specs.declared.outcome.Outcome.{Outcome}
use Rattle.zperform.specs.declared.outcome.Outcome.TheVariants.{Through, Stopped}

-- the certificate's file of a story: the one that is named, or else the one beside it
abbrev pub certificate_for : Option (List ℕ) → List ℕ → List ℕ
certificate_for None name = name_of_certificate name
certificate_for (Some certificate) name = certificate

-- how the work on a story ended: a failure isn't the story's fault, and all else is a refusal
abbrev pub ended_by : Problem → Ended
ended_by (Failed failure) = ways.Failed
ended_by problem = ways.Refused

abbrev pub ended_of : {A : Type 0} → Result A Problem → Ended
ended_of (Ok answer) = ways.Well
ended_of (Err problem) = ended_by problem

-- what stands in front of what is said of a file
abbrev pub heading_text : List ℕ → List ℕ
heading_text name = name ++ codes ": "

-- what is told where memory for more is wanting: a line behind the name, or an object
abbrev pub unmade_text : Bool → List ℕ → List ℕ
unmade_text true name = codes "{\"outcome\":\"failed\",\"code\":\"memory\"}" ++ 10 ∷ []
unmade_text false name = name ++ (codes ": failed: memory" ++ 10 ∷ [])

-- What is done of each story, and told of it if there was memory for that: by the files before and behind it, and its name.
module _ (Tells : Held → Held → List ℕ → Option (Ended × List ℕ) → Type 0) (json : Bool) where
  -- so it ended, and this is told
  abbrev pub IsTold : Held → Held → List ℕ → Ended → List ℕ → Type 0
  IsTold files later name ended text =
      (Tells files later name (Some (ended, text)) × (ended ≢ ways.Unwritten)) ⊎ (Tells files later name None × (ended ≡ ways.Failed) × (text ≡ unmade_text json name))

  -- the text of a story was written whole, or its writing failed, which ends the work
  abbrev pub WritesText : Held × Option (List ℕ) → List ℕ → Ended → Held × Option (List ℕ) → Type 0
  WritesText before name ended now =
      ((text : List ℕ) × IsTold before.0 now.0 name ended text × Appends before.1 now.1 text)
      ⊎ ((ended ≡ ways.Unwritten) × (other : Ended) × (text : List ℕ) × IsTold before.0 now.0 name other text × AppendsBeginning before.1 now.1 text)

  -- for a private clause: the same of what is seen of the writer
  abbrev pub Steps : Held → Held → Seen → Seen → List ℕ → Ended → Type 0
  Steps files later before now name ended =
      ((text : List ℕ) × IsTold files later name ended text × Takes before now text)
      ⊎ ((ended ≡ ways.Unwritten) × (other : Ended) × (text : List ℕ) × IsTold files later name other text × Breaks before now text)

  -- What going through many stories comes to, with the files and what the writer took, before and now: the text of each in their order, and
  -- then how many ended in each way, which isn't told behind objects. Where a text isn't written, no other story is looked at.
  abbrev pub EachComesTo : (Tally → List ℕ) → List (List ℕ) → Held → Held → Option (List ℕ) → Option (List ℕ) → Outcome → Type 0
  EachComesTo last names files later before now (Through tally) =
      (ends : List Ended) × (between : Option (List ℕ)) × Runs WritesText names (files, before) ends (later, between) × (tally ≡ tally_of ends) × Appends between now (last tally)
  EachComesTo last names files later before now (Stopped (Failed Write)) =
      (ends : List Ended) × (between : Option (List ℕ)) × Runs WritesText names (files, before) ends (later, between)
      × ((((tally_of ends).unwritten ≡ true) × (now ≡ between)) ⊎ AppendsBeginning between now (last (tally_of ends)))
  EachComesTo last names files later before now (Stopped (Failed Memory)) = (ends : List Ended) × Runs WritesText names (files, before) ends (later, now)
  EachComesTo last names files later before now outcome = ⊥

-- how many ended in each way, as it is told at the end
abbrev pub last_text : Bool → Wording → Tally → List ℕ
last_text true wording tally = []
last_text false wording tally = summary_text tally wording

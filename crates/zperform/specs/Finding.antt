-- What finding a certificate of a story file comes to, and what explaining a code does (own).
use Rattle.std.specs.Prelude.{◌≡◌, ◌≢◌, ◌⊎◌, ⊤, ℕ, Bool, true, false, MatchBool, ◌++◌, List, [], Option, None, Some, IfSome, option_map, flat_map}
use Rattle.std.specs.Io.KnownBytes.{Appends}
use Rattle.zfault.specs.Devices.{AppendsBeginning}
use Rattle.zstory.specs.LoadedStory.{LoadedStory}
use Rattle.zfind.specs.Finding.{IsTold}
use Rattle.zfind.specs.Found.{marks_of, spelling_of}
use Rattle.zfind.specs.Marking.{FailsUnmarked, IsFoundMarked, IsFoundUnmarked, IsMarkedFailure}
use Rattle.zfind.specs.declared.found.Found.{Found as FoundCertificate}
use Rattle.zfind.specs.declared.error.FindError.{FindError}
use Rattle.zfind.specs.declared.error.FindError.TheVariants.{OutOfMemory as NoMemoryToFind}
use Rattle.zexplain.specs.Short.{all_codes}
use Rattle.zexplain.specs.declared.certificates.TheConstants.{FINDING, FITTING, READING}
use Rattle.zexplain.specs.declared.faults.TheConstants.{FAULTS}
use Rattle.zexplain.specs.declared.debugging.TheConstants.{DEBUGGING}
use Rattle.zexplain.specs.declared.playing.TheConstants.{KEEPING, PLAYING, SAVING, UNPACKING}
use Rattle.zexplain.specs.declared.rules.TheConstants.{RULES}
use Rattle.zexplain.specs.declared.stories.TheConstants.{DECODING, LISTING, LOADING, TEXTS}
use Rattle.zexplain.specs.Texts.{explanation_of}
use Rattle.zjson.specs.Answers.{explained_line}
use Rattle.zperform.specs.Contents.{SparesOthers}
use Rattle.zperform.specs.Devices.{Held}
use Rattle.zperform.specs.Accepting.{HoldsSuch, IsWhyNone, Stops}
use Rattle.zperform.specs.Marking.{ArePlacesOf}
use Rattle.zperform.specs.Report.{found_line}
use Rattle.zperform.specs.declared.finding.Search.{Search}
use Rattle.zperform.specs.declared.outcome.Failure.TheVariants.{File, Write, Memory}
use Rattle.zperform.specs.declared.outcome.Problem.{Problem}
use Rattle.zperform.specs.declared.outcome.Problem.TheVariants.{Unfound, Failed}
use Rattle.zperform.specs.declared.outcome.Outcome.{Outcome}
use Rattle.zperform.specs.declared.outcome.Outcome.TheVariants.{Explained, Found, NoSuchCode, Stopped}

-- a certificate is found for a story as it is asked for: one that marks nothing, or one that may
abbrev pub IsFoundFor : Search → LoadedStory → FoundCertificate → Type 0
IsFoundFor search story found = MatchBool search.strict (IsFoundUnmarked story search.frames found) (IsFoundMarked story search.frames found)

-- why none is
abbrev pub FailsFor : Search → LoadedStory → FindError → Type 0
FailsFor search story error = MatchBool search.strict (FailsUnmarked story search.frames error) (IsMarkedFailure story search.frames error)

-- how many instructions it marks; of objects that stands in the one of the story
abbrev pub lead_text : Bool → FoundCertificate → List ℕ
lead_text true found = []
lead_text false found = found_line (marks_of found)

-- what is told of it: how many instructions it marks, and if that is asked for which, and why
abbrev pub IsFoundText : Bool → Bool → LoadedStory → FoundCertificate → List ℕ → Type 0
IsFoundText json false story found text = text ≡ lead_text json found
IsFoundText json true story found text = (places : List ℕ) × ArePlacesOf json story found places × (text ≡ lead_text json found ++ places)

-- the bytes spell a certificate that is found for a story, of which this is told, and which marks so many instructions
pub record IsCertificateFor (search : Search) (story : LoadedStory) (bytes text : List ℕ) (marks : ℕ) : Type 0 where
  pub certificate : FoundCertificate
  pub found : IsFoundFor search story certificate
  pub spelled : bytes ≡ spelling_of certificate
  pub told : IsFoundText search.json search.places story certificate text
  pub counted : marks ≡ marks_of certificate

-- why none is found for a story, but for want of memory, and what is told to stand in the way of every one that marks nothing
abbrev pub IsUnfound : Search → LoadedStory → Problem → Type 0
IsUnfound search story (Unfound error broken) = FailsFor search story error × (error ≢ NoMemoryToFind) × IsTold story broken
IsUnfound search story (Failed Memory) = ⊤
IsUnfound search story problem = ⊥

-- the bytes spell a certificate of the story that a file holds, of which this is told, and which marks so many instructions
abbrev pub IsFound : Search → Option (List ℕ) → List ℕ → List ℕ → ℕ → Type 0
IsFound search known bytes text marks = HoldsSuch known (λ story. IsCertificateFor search story bytes text marks)

-- why none is found for the story of a file: it holds no story, or one for which none is found
abbrev pub IsNotFound : Search → Option (List ℕ) → Problem → Type 0
IsNotFound search known problem = IsWhyNone (IsUnfound search) known problem

-- a file has these bytes alone, where its bytes are known
abbrev pub HasAlone : List ℕ → Option (List ℕ) → Type 0
HasAlone bytes known = IfSome known (λ file. file ≡ bytes)

-- What finding comes to, with the bytes of files before and now, and with what the writer took before and has taken now: a certificate
-- that is found stands in its file before a word is said of it.
abbrev pub FindEnds : Search → List ℕ → List ℕ → (List ℕ → Option (List ℕ)) → (List ℕ → Option (List ℕ)) → Option (List ℕ) → Option (List ℕ) → Outcome → Type 0
FindEnds search story certificate held holds before now Found =
    (bytes : List ℕ) × (text : List ℕ) × (marks : ℕ) × IsFound search (held story) bytes text marks × HasAlone bytes (holds certificate) × Appends before now text
FindEnds search story certificate held holds before now (Stopped problem) =
    Stops ((bytes : List ℕ) × (text : List ℕ) × (marks : ℕ) × IsFound search (held story) bytes text marks × HasAlone bytes (holds certificate) × AppendsBeginning before now text)
    (λ why. IsNotFound search (held story) why × (why ≢ Failed File → holds ≡ held)) before now problem
FindEnds search story certificate held holds before now outcome = ⊥

-- and no other file changes
pub record FindComesTo (search : Search) (story certificate : List ℕ) (held holds : List ℕ → Option (List ℕ)) (before now : Option (List ℕ)) (outcome : Outcome) : Type 0 where
  pub ends : FindEnds search story certificate held holds before now outcome
  pub spared : SparesOthers certificate held holds

-- which file a failure is of: the story's, or the one that a certificate was to be written to
abbrev pub IsOfStoryOrFound : Search → Held → List ℕ → List ℕ → Type 0
IsOfStoryOrFound search files story certificate = (files.can_fail story ≡ true) ⊎ (((bytes : List ℕ) × (text : List ℕ) × (marks : ℕ) × IsFound search (files.known story) bytes text marks) × (files.can_fail certificate ≡ true))

-- what is told of a code: its text, alone or in an object
abbrev pub explained_text : Bool → List ℕ → List ℕ → List ℕ
explained_text false code text = text
explained_text true code text = explained_line code text

-- the objects of all codes
unfoldable pub objects_of_stories : List ℕ
objects_of_stories = flat_map (λ e. explained_line e.0.now e.1.now) LOADING ++ flat_map (λ e. explained_line e.0.now e.1.now) DECODING ++ flat_map (λ e. explained_line e.0.now e.1.now) TEXTS ++ flat_map (λ e. explained_line e.0.now e.1.now) LISTING

unfoldable pub objects_of_certificates : List ℕ
objects_of_certificates = flat_map (λ e. explained_line e.0.now e.1.now) READING ++ flat_map (λ e. explained_line e.0.now e.1.now) FITTING ++ flat_map (λ e. explained_line e.0.now e.1.now) FINDING ++ flat_map (λ e. explained_line e.0.now e.1.now) RULES

unfoldable pub objects_of_play : List ℕ
objects_of_play = flat_map (λ e. explained_line e.0.now e.1.now) FAULTS ++ flat_map (λ e. explained_line e.0.now e.1.now) SAVING ++ flat_map (λ e. explained_line e.0.now e.1.now) UNPACKING ++ flat_map (λ e. explained_line e.0.now e.1.now) PLAYING ++ flat_map (λ e. explained_line e.0.now e.1.now) KEEPING

unfoldable pub objects_of_debugging : List ℕ
objects_of_debugging = flat_map (λ e. explained_line e.0.now e.1.now) DEBUGGING

abbrev pub all_objects : List ℕ
all_objects = objects_of_stories ++ objects_of_certificates ++ objects_of_play ++ objects_of_debugging

-- what is told of codes: of one, if it is one, or of all, a line or an object each
abbrev pub codes_text : Option (List ℕ) → Bool → Option (List ℕ)
codes_text None false = Some all_codes
codes_text None true = Some all_objects
codes_text (Some code) json = option_map (explained_text json code) (explanation_of code)

-- What explaining codes comes to, with what the writer took before and has taken now: that is written, unless there is no such code.
abbrev pub ExplainComesTo : Option (List ℕ) → Bool → Option (List ℕ) → Option (List ℕ) → Outcome → Type 0
ExplainComesTo code json before now Explained = (text : List ℕ) × (codes_text code json ≡ Some text) × Appends before now text
ExplainComesTo code json before now (Stopped (Failed Write)) = (text : List ℕ) × (codes_text code json ≡ Some text) × AppendsBeginning before now text
ExplainComesTo code json before now NoSuchCode = (codes_text code json ≡ None) × (now ≡ before)
ExplainComesTo code json before now (Stopped (Failed Memory)) = now ≡ before
ExplainComesTo code json before now outcome = ⊥

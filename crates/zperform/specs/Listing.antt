-- What listing a story file comes to (own).
use Rattle.std.specs.Prelude.{◌≡◌, ⊤, ℕ, Bool, true, false, ◌++◌, List, [], ◌∷◌, Option, pos, codes, decimal, flat_map}
use Rattle.std.specs.Io.KnownBytes.{Appends}
use Rattle.zfault.specs.Devices.{AppendsBeginning}
use Rattle.zstory.specs.LoadedStory.{LoadedStory}
use Rattle.zcode.specs.Names.{name_of}
use Rattle.zjson.specs.Answers.{instruction_line}
use Rattle.zlist.specs.declared.record.Record.{Record}
use Rattle.zlist.specs.Listed.{IsLowestFault, Lists}
use Rattle.zlist.specs.Listing.{IsInOrder, ListedCode}
use Rattle.zperform.specs.Accepting.{HoldsSuch, IsWhyNone, Stops}
use Rattle.zperform.specs.Report.{place_text}
use Rattle.zperform.specs.declared.outcome.Failure.TheVariants.{Memory}
use Rattle.zperform.specs.declared.outcome.Problem.{Problem}
use Rattle.zperform.specs.declared.outcome.Problem.TheVariants.{Unlisted, Failed}
use Rattle.zperform.specs.declared.outcome.Outcome.{Outcome}
use Rattle.zperform.specs.declared.outcome.Outcome.TheVariants.{Listed, Stopped}

-- an instruction's line: its address, its routine's number, and the name of its opcode (Z 14)
abbrev pub record_line : Record → List ℕ
record_line r = place_text (pos r.address) ++ codes " " ++ decimal r.routine ++ codes " " ++ name_of r.instruction.opcode ++ 10 ∷ []

-- a line for each instruction, in order
abbrev pub listing_text : List Record → List ℕ
listing_text records = flat_map record_line records

-- or an object for each
abbrev pub record_object : Record → List ℕ
record_object r = instruction_line (place_text (pos r.address)) r.routine (name_of r.instruction.opcode)

abbrev pub listed_text : Bool → List Record → List ℕ
listed_text false records = listing_text records
listed_text true records = flat_map record_object records

-- the text is that of the one listing of all that the story lists
pub record IsListedAs (json : Bool) (story : LoadedStory) (text : List ℕ) : Type 0 where
  pub listing : ListedCode
  pub lists : Lists story listing
  pub order : IsInOrder listing
  pub lines : text ≡ listed_text json listing.records

-- why a story isn't listed: of what is at fault the lowest, or want of memory
abbrev pub IsUnlisted : LoadedStory → Problem → Type 0
IsUnlisted story (Unlisted error) = IsLowestFault story error
IsUnlisted story (Failed Memory) = ⊤
IsUnlisted story problem = ⊥

-- a story that a file holds has this listing
abbrev pub HoldsListed : Bool → Option (List ℕ) → List ℕ → Type 0
HoldsListed json known text = HoldsSuch known (λ story. IsListedAs json story text)

-- why no listing is made of a file: it holds no story, or one that isn't listed
abbrev pub IsNoListing : Option (List ℕ) → Problem → Type 0
IsNoListing known problem = IsWhyNone IsUnlisted known problem

-- What listing comes to, with what the writer took before and has taken now.
abbrev pub ListComesTo : Bool → Option (List ℕ) → Option (List ℕ) → Option (List ℕ) → Outcome → Type 0
ListComesTo json known before now Listed = (text : List ℕ) × HoldsListed json known text × Appends before now text
ListComesTo json known before now (Stopped problem) = Stops ((text : List ℕ) × HoldsListed json known text × AppendsBeginning before now text) (IsNoListing known) before now problem
ListComesTo json known before now outcome = ⊥

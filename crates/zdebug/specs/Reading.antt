-- What a file says: it is cut at each `<`, and each part is a tag, up to its first `>`, and the text behind that.
use Rattle.std.specs.Prelude.{ℕ, Bool, true, false, not, ◌==◌, ◌||◌, List, [], ◌∷◌, length, nat_lt, Option, None, Some, Result, Ok, Err, if◌then◌else◌, codes}
use Rattle.std.specs.List.{list_all, take_while, ends_with, slice_get}
use Rattle.std.specs.Str.{bytes_eq}
use Rattle.std.specs.Prelude.{nat_eq}
use Rattle.zdebug.specs.declared.error.DebugError.{DebugError}
use Rattle.zdebug.specs.declared.error.DebugError.TheVariants as errors
use Rattle.zdebug.specs.declared.info.TheConstants.{FILE_LIMIT}
use Rattle.zdebug.specs.declared.element.Element.{Element}
use Rattle.zdebug.specs.declared.element.Element.TheVariants as elements
use Rattle.zdebug.specs.Steps.{◌>>=◌, need}
use Rattle.zdebug.specs.Cutting.{cut, parts, is_blank}
use Rattle.zdebug.specs.Words.{number_of}
use Rattle.zdebug.specs.Elements.{inside}
use Rattle.zdebug.specs.Records.{Draft, Found, blank, nothing, filled, left, entered}

-- ---- tags

-- what a name is made of: all up to a blank or a `/`
abbrev pub is_of_name : ℕ → Bool
is_of_name b = not (is_blank b || (b == 47))

abbrev pub name_of : List ℕ → List ℕ
name_of tag = take_while is_of_name tag

-- the value of an attribute, between quotes behind its name and a `=`, by the parts that the quotes cut a tag into
abbrev pub attribute_in : List ℕ → List (List ℕ) → Option (List ℕ)
attribute_in name [] = None
attribute_in name (before ∷ []) = None
attribute_in name (before ∷ value ∷ others) = if ends_with nat_eq before name then Some value else attribute_in name others

abbrev pub attribute : List ℕ → List ℕ → Option (List ℕ)
attribute name tag = attribute_in name (parts 34 tag)

-- ---- elements

-- an element that is open: its name, and what it is
pub record Open : Type 0 where
  pub name : List ℕ
  pub element : Element

-- what is kept of the parts before one
pub record Kept : Type 0 where
  -- the outermost element has begun
  pub begun : Bool
  -- the open elements, the innermost first
  pub path : List Open
  -- the text behind the last tag
  pub text : List ℕ
  -- the record that is open
  pub draft : Draft
  -- the records before it
  pub found : Found

abbrev pub opening : Kept
opening = record { begun = false; path = []; text = []; draft = blank; found = nothing }

-- the versions that are known: Inform 6 writes 1.0 up to its version 6.41 at least
abbrev pub is_known : Option (List ℕ) → Bool
is_known None = false
is_known (Some version) = bytes_eq version (codes "1.0") || bytes_eq version (codes "1.1")

-- the outermost element
abbrev pub root : Kept → List ℕ → List ℕ → Result Kept DebugError
root k name tag = do
  _ ← need (bytes_eq name (codes "inform-story-file")) errors.NotDebug
  _ ← need (is_known (attribute (codes " version=") tag)) errors.Version
  Ok (record k { begun = true; path = record { name = name; element = elements.Story } ∷ k.path; text = [] })

-- a file of the source has its number as an attribute, where one is written
abbrev pub indexed : Draft → Option (List ℕ) → Result Draft DebugError
indexed d None = Ok d
indexed d (Some value) = do
  n ← number_of value
  Ok (record d { number = Some n })

abbrev pub headed : Draft → Element → List ℕ → Result Draft DebugError
headed d elements.Source tag = indexed d (attribute (codes " index=") tag)
headed d _ tag = Ok d

-- an element that begins in another
abbrev pub nested : Kept → Element → List ℕ → List ℕ → Result Kept DebugError
nested k element name tag = do
  d ← headed k.draft element tag
  Ok (record k { path = record { name = name; element = element } ∷ k.path; text = []; draft = d })

-- an element begins, in the innermost one that is open: none does behind the outermost
abbrev pub begins_in : Kept → Option Open → List ℕ → List ℕ → Result Kept DebugError
begins_in k None name tag = if k.begun then Err errors.Misplaced else root k name tag
begins_in k (Some outer) name tag = nested k (inside outer.element name) name tag

-- an element ends
abbrev pub closed : Kept → Element → Result Kept DebugError
closed k element = do
  d ← filled k.draft element k.text
  f ← entered k.found element d
  Ok (record k { draft = left d element; found = f })

-- it has to be the innermost
abbrev pub ends_in : Kept → List Open → List ℕ → Result Kept DebugError
ends_in k [] name = Err errors.Misplaced
ends_in k (inner ∷ others) name = if bytes_eq inner.name name then closed (record k { path = others }) inner.element else Err errors.Misplaced

-- an element that has no text and no elements is written as one tag, with a `/` at its end
abbrev pub is_whole : List ℕ → Bool
is_whole tag = ends_with nat_eq tag (codes "/")

abbrev pub starts : Kept → List ℕ → List ℕ → Result Kept DebugError
starts k name tag = do
  _ ← need (nat_lt 0 (length name)) errors.Tag
  next ← begins_in k (slice_get k.path 0) name tag
  if is_whole tag then ends_in next next.path name else Ok next

-- a tag: `<?` begins what is no element and is passed over, `<!` what isn't read, `</` an end
abbrev pub after_tag : Kept → List ℕ → Result Kept DebugError
after_tag k [] = Err errors.Tag
after_tag k (b ∷ rest) =
    if b == 63 then Ok k
    else if b == 33 then Err errors.Tag
    else if b == 47 then ends_in k k.path (name_of rest)
    else starts k (name_of (b ∷ rest)) (b ∷ rest)

-- ---- the file

-- a tag, and the text behind it
abbrev pub after_cut : Kept → Option (List ℕ × List ℕ) → Result Kept DebugError
after_cut k None = Err errors.Tag
after_cut k (Some p) = do
  next ← after_tag k p.0
  Ok (record next { text = p.1 })

abbrev pub after : Kept → List ℕ → Result Kept DebugError
after k part = after_cut k (cut 62 part)

abbrev pub after_all : Kept → List (List ℕ) → Result Kept DebugError
after_all k [] = Ok k
after_all k (part ∷ others) = do
  next ← after k part
  after_all next others

-- the outermost element has begun, and each element is closed
abbrev pub whole_in : Bool → List Open → Found → Result Found DebugError
whole_in false path found = Err errors.NotDebug
whole_in true [] found = Ok found
whole_in true (inner ∷ others) found = Err errors.Unclosed

abbrev pub whole : Kept → Result Found DebugError
whole k = whole_in k.begun k.path k.found

-- what stands before the first tag is blank
abbrev pub read_parts : List (List ℕ) → Result Found DebugError
read_parts [] = Err errors.NotDebug
read_parts (lead ∷ others) = do
  _ ← need (list_all is_blank lead) errors.NotDebug
  k ← after_all opening others
  whole k

-- what a file says, or the first thing that is wrong with it
abbrev pub reading : List ℕ → Result Found DebugError
reading bytes = read_parts (parts 60 bytes)

-- the same of a file that isn't longer than what is read
abbrev pub file_reading : List ℕ → Result Found DebugError
file_reading bytes = if nat_lt FILE_LIMIT (length bytes) then Err errors.TooLong else reading bytes

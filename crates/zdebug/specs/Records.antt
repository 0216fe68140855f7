-- What a file says, as far as it was read.
use Rattle.std.specs.Prelude.{ℕ, ◌==◌, List, [], ◌∷◌, Option, None, Some, Result, Ok, Err, if◌then◌else◌, codes}
use Rattle.std.specs.Ordering.{nat_cmp}
use Rattle.std.specs.Str.{bytes_eq}
use Rattle.std.specs.BTreeMap.{insert_entry}
use Rattle.zdebug.specs.declared.error.DebugError.{DebugError}
use Rattle.zdebug.specs.declared.error.DebugError.TheVariants.{Incomplete}
use Rattle.zdebug.specs.declared.element.Element.{Element}
use Rattle.zdebug.specs.declared.element.Element.TheVariants as elements
use Rattle.zdebug.specs.declared.place.Point.{Point}
use Rattle.zdebug.specs.declared.place.Routine.{Routine}
use Rattle.zdebug.specs.Steps.{◌>>=◌, part}
use Rattle.zdebug.specs.Words.{number_of, text_of}

-- ---- a record that isn't whole yet

pub record Draft : Type 0 where
  -- the text that names it, empty where none came
  pub name : List ℕ
  -- its number, or its address in the story
  pub number : Option ℕ
  -- how many bytes it has
  pub length : Option ℕ
  -- the address of a sequence point of it, and the file and the line of that
  pub address : Option ℕ
  pub file : Option ℕ
  pub line : Option ℕ

abbrev pub blank : Draft
blank = record { name = []; number = None; length = None; address = None; file = None; line = None }

-- what an element leaves of a record, by its text
abbrev pub filled : Draft → Element → List ℕ → Result Draft DebugError
filled d elements.Name text = Ok (record d { name = text })
filled d elements.Number text = do
  n ← number_of text
  Ok (record d { number = Some n })
filled d elements.Length text = do
  n ← number_of text
  Ok (record d { length = Some n })
filled d elements.Address text = do
  n ← number_of text
  Ok (record d { address = Some n })
filled d elements.File text = do
  n ← number_of text
  Ok (record d { file = Some n })
filled d elements.Line text = do
  n ← number_of text
  Ok (record d { line = Some n })
filled d _ text = Ok d

-- what is left of it behind an element: nothing behind a whole record, and behind a sequence point nothing of that
abbrev pub left : Draft → Element → Draft
left d elements.Source = blank
left d elements.Routine = blank
left d elements.Object = blank
left d elements.Property = blank
left d elements.Attribute = blank
left d elements.Global = blank
left d elements.Section = blank
left d elements.Point = record d { address = None; file = None; line = None }
left d _ = d

-- a number and the text of a name, of which neither may be missing
abbrev pub with_name : Option ℕ → List ℕ → Result (ℕ × List ℕ) DebugError
with_name number [] = Err Incomplete
with_name None (b ∷ name) = Err Incomplete
with_name (Some n) (b ∷ name) = Ok (n, b ∷ name)

abbrev pub named : Draft → Result (ℕ × List ℕ) DebugError
named d = with_name d.number d.name

-- ---- whole records

-- names in the order of their numbers
abbrev pub Table : Type 0
Table = List (ℕ × List ℕ)

pub record Found : Type 0 where
  -- paths of files, by their numbers
  pub sources : Table
  -- routines, and the places of sequence points, by their addresses
  pub routines : List (ℕ × Routine)
  pub points : List (ℕ × Point)
  pub objects : Table
  pub properties : Table
  pub attributes : Table
  -- global variables, by their addresses
  pub globals : Table
  -- where the first of these stands
  pub first_global : Option ℕ

abbrev pub nothing : Found
nothing = record { sources = []; routines = []; points = []; objects = []; properties = []; attributes = []; globals = []; first_global = None }

-- a record takes its place in the order of numbers, and the place of one before it with the same number
abbrev pub put : Table → ℕ → List ℕ → Result Table DebugError
put table number text = do
  name ← text_of text
  Ok (insert_entry nat_cmp table number name)

abbrev pub put_draft : Table → Draft → Result Table DebugError
put_draft table d = do
  p ← named d
  put table p.0 p.1

-- a routine that was left out of the story is written with the address 0
abbrev pub put_routine : List (ℕ × Routine) → Draft → Result (List (ℕ × Routine)) DebugError
put_routine routines d = do
  p ← named d
  length ← part d.length
  name ← text_of p.1
  Ok (if p.0 == 0 then routines else insert_entry nat_cmp routines p.0 (record { length = length; name = name }))

abbrev pub put_point : List (ℕ × Point) → Draft → Result (List (ℕ × Point)) DebugError
put_point points d = do
  address ← part d.address
  file ← part d.file
  line ← part d.line
  Ok (insert_entry nat_cmp points address (record { file = file; line = line }))

-- of the parts of the story only that of the global variables is asked for
abbrev pub put_section : Option ℕ → Draft → Result (Option ℕ) DebugError
put_section first d = do
  p ← named d
  Ok (if bytes_eq p.1 (codes "global variables") then Some p.0 else first)

-- what an element adds
abbrev pub entered : Found → Element → Draft → Result Found DebugError
entered f elements.Source d = do
  t ← put_draft f.sources d
  Ok (record f { sources = t })
entered f elements.Routine d = do
  t ← put_routine f.routines d
  Ok (record f { routines = t })
entered f elements.Point d = do
  t ← put_point f.points d
  Ok (record f { points = t })
entered f elements.Object d = do
  t ← put_draft f.objects d
  Ok (record f { objects = t })
entered f elements.Property d = do
  t ← put_draft f.properties d
  Ok (record f { properties = t })
entered f elements.Attribute d = do
  t ← put_draft f.attributes d
  Ok (record f { attributes = t })
entered f elements.Global d = do
  t ← put_draft f.globals d
  Ok (record f { globals = t })
entered f elements.Section d = do
  first ← put_section f.first_global d
  Ok (record f { first_global = first })
entered f _ d = Ok f

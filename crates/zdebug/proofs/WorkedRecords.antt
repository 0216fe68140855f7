-- Values of the definitions, computed: of records.
use Rattle.std.proofs.Common.{◌≡◌, ℕ, List, [], ◌∷◌, None, Some, Ok, Err, refl}
use Rattle.std.specs.Prelude.{codes}
use Rattle.zdebug.specs.declared.error.DebugError.TheVariants as errors
use Rattle.zdebug.specs.declared.element.Element.TheVariants as elements
use Rattle.zdebug.specs.declared.draft.Draft.{Draft as Drafted}
use Rattle.zdebug.specs.declared.path.Open.{Open as Opened}
use Rattle.zdebug.specs.declared.place.Point.{Point}
use Rattle.zdebug.specs.declared.place.Routine.{Routine}
use Rattle.zdebug.specs.declared.reader.Reader.{Reader}
use Rattle.zdebug.specs.declared.records.Records.{Records}
use Rattle.zdebug.specs.Records.{Draft, Found, Table, blank, entered, filled, left, named, nothing, put, put_point, put_routine, put_section}
use Rattle.zdebug.specs.Reading.{headed}
use Rattle.zdebug.specs.View.{draft_of, found_of, kept_of, open_of, path_of}

-- ---- a record that isn't whole yet

abbrev full : Draft
full = record { name = codes "n"; number = Some 1; length = Some 2; address = Some 3; file = Some 4; line = Some 5 }

told : (filled full elements.Name (codes "9") ≡ Ok (record full { name = codes "9" })) × (filled full elements.Number (codes "9") ≡ Ok (record full { number = Some 9 })) × (filled full elements.Length (codes "9") ≡ Ok (record full { length = Some 9 })) × (filled full elements.Address (codes "9") ≡ Ok (record full { address = Some 9 })) × (filled full elements.File (codes "9") ≡ Ok (record full { file = Some 9 })) × (filled full elements.Line (codes "9") ≡ Ok (record full { line = Some 9 }))
told = (refl, refl, refl, refl, refl, refl)

nothing_told : (filled full elements.Other (codes "9") ≡ Ok full) × (filled full elements.Location (codes "9") ≡ Ok full) × (filled full elements.Point (codes "9") ≡ Ok full) × (filled full elements.Routine (codes "9") ≡ Ok full) × (filled full elements.Source (codes "9") ≡ Ok full) × (filled full elements.Story (codes "x") ≡ Ok full)
nothing_told = (refl, refl, refl, refl, refl, refl)

no_number_told : (filled full elements.Number (codes "x") ≡ Err errors.NotNumber) × (filled full elements.Length (codes "x") ≡ Err errors.NotNumber) × (filled full elements.Address (codes "x") ≡ Err errors.NotNumber) × (filled full elements.File (codes "x") ≡ Err errors.NotNumber) × (filled full elements.Line (codes "x") ≡ Err errors.NotNumber)
no_number_told = (refl, refl, refl, refl, refl)

left_of_records : (left full elements.Source ≡ blank) × (left full elements.Routine ≡ blank) × (left full elements.Object ≡ blank) × (left full elements.Property ≡ blank) × (left full elements.Attribute ≡ blank) × (left full elements.Global ≡ blank) × (left full elements.Section ≡ blank)
left_of_records = (refl, refl, refl, refl, refl, refl, refl)

left_of_parts : (left full elements.Point ≡ record full { address = None; file = None; line = None }) × (left full elements.Name ≡ full) × (left full elements.Number ≡ full) × (left full elements.Length ≡ full) × (left full elements.Address ≡ full) × (left full elements.Location ≡ full) × (left full elements.File ≡ full) × (left full elements.Line ≡ full) × (left full elements.Other ≡ full) × (left full elements.Story ≡ full)
left_of_parts = (refl, refl, refl, refl, refl, refl, refl, refl, refl, refl)

-- the tag of a source has its number, and that of no other element
heads : (headed full elements.Source (codes "source index=\"7\"") ≡ Ok (record full { number = Some 7 })) × (headed full elements.Source (codes "source") ≡ Ok full) × (headed full elements.Source (codes "source index=\"x\"") ≡ Err errors.NotNumber) × (headed full elements.Object (codes "object index=\"7\"") ≡ Ok full) × (headed full elements.Other (codes "source index=\"x\"") ≡ Ok full)
heads = (refl, refl, refl, refl, refl)

named_or_not : (named full ≡ Ok (1, codes "n")) × (named (record full { name = [] }) ≡ Err errors.Incomplete) × (named (record full { number = None }) ≡ Err errors.Incomplete) × (named blank ≡ Err errors.Incomplete)
named_or_not = (refl, refl, refl, refl)

-- ---- whole records

abbrev two : Table
two = (3, codes "c") ∷ (7, codes "g") ∷ []

-- in the order of their numbers, and a later one in the place of one before it
puts : (put two 1 (codes "a") ≡ Ok ((1, codes "a") ∷ two)) × (put two 5 (codes "&lt;") ≡ Ok ((3, codes "c") ∷ (5, codes "<") ∷ (7, codes "g") ∷ [])) × (put two 9 (codes "i") ≡ Ok ((3, codes "c") ∷ (7, codes "g") ∷ (9, codes "i") ∷ [])) × (put two 3 (codes "d") ≡ Ok ((3, codes "d") ∷ (7, codes "g") ∷ [])) × (put two 3 (codes "&") ≡ Err errors.Entity)
puts = (refl, refl, refl, refl, refl)

abbrev here : List (ℕ × Routine)
here = (8, record { length = 4; name = codes "m" }) ∷ []

-- one at 0 is left out, but has to be whole
routines : (put_routine here full ≡ Ok ((1, record { length = 2; name = codes "n" }) ∷ here)) × (put_routine here (record full { number = Some 8 }) ≡ Ok ((8, record { length = 2; name = codes "n" }) ∷ [])) × (put_routine here (record full { number = Some 0 }) ≡ Ok here)
routines = (refl, refl, refl)

no_routines : (put_routine here (record full { number = Some 0; length = None }) ≡ Err errors.Incomplete) × (put_routine here (record full { number = Some 0; name = codes "&" }) ≡ Err errors.Entity) × (put_routine here (record full { name = [] }) ≡ Err errors.Incomplete) × (put_routine here (record full { length = None; name = codes "&" }) ≡ Err errors.Incomplete)
no_routines = (refl, refl, refl, refl)

abbrev there : List (ℕ × Point)
there = (9, record { file = 0; line = 6 }) ∷ []

points : (put_point there full ≡ Ok ((3, record { file = 4; line = 5 }) ∷ there)) × (put_point there (record full { address = Some 9 }) ≡ Ok ((9, record { file = 4; line = 5 }) ∷ [])) × (put_point there (record full { address = None }) ≡ Err errors.Incomplete) × (put_point there (record full { file = None }) ≡ Err errors.Incomplete) × (put_point there (record full { line = None }) ≡ Err errors.Incomplete)
points = (refl, refl, refl, refl, refl)

sections : (put_section None (record full { name = codes "global variables" }) ≡ Ok (Some 1)) × (put_section (Some 6) (record full { name = codes "global variables" }) ≡ Ok (Some 1)) × (put_section (Some 6) full ≡ Ok (Some 6)) × (put_section None (record full { name = codes "globals" }) ≡ Ok None) × (put_section None (record full { number = None }) ≡ Err errors.Incomplete) × (put_section (Some 6) (record full { name = [] }) ≡ Err errors.Incomplete)
sections = (refl, refl, refl, refl, refl, refl)

-- ---- what each element adds

-- one record in each table, so that each is told from the others
abbrev some : Found
some = record nothing { sources = (11, codes "s") ∷ []; objects = (12, codes "o") ∷ []; properties = (13, codes "p") ∷ []; attributes = (14, codes "a") ∷ []; globals = (15, codes "g") ∷ [] }

abbrev before : ℕ → List ℕ → Table
before number name = (1, codes "n") ∷ (number, name) ∷ []

added_names : (entered some elements.Source full ≡ Ok (record some { sources = before 11 (codes "s") })) × (entered some elements.Object full ≡ Ok (record some { objects = before 12 (codes "o") })) × (entered some elements.Property full ≡ Ok (record some { properties = before 13 (codes "p") })) × (entered some elements.Attribute full ≡ Ok (record some { attributes = before 14 (codes "a") })) × (entered some elements.Global full ≡ Ok (record some { globals = before 15 (codes "g") }))
added_names = (refl, refl, refl, refl, refl)

added : (entered nothing elements.Routine full ≡ Ok (record nothing { routines = (1, record { length = 2; name = codes "n" }) ∷ [] })) × (entered nothing elements.Point full ≡ Ok (record nothing { points = (3, record { file = 4; line = 5 }) ∷ [] })) × (entered nothing elements.Section (record full { name = codes "global variables" }) ≡ Ok (record nothing { first_global = Some 1 }))
added = (refl, refl, refl)

nothing_added : (entered nothing elements.Story full ≡ Ok nothing) × (entered nothing elements.Name full ≡ Ok nothing) × (entered nothing elements.Number full ≡ Ok nothing) × (entered nothing elements.Length full ≡ Ok nothing) × (entered nothing elements.Address full ≡ Ok nothing) × (entered nothing elements.Location full ≡ Ok nothing) × (entered nothing elements.File full ≡ Ok nothing) × (entered nothing elements.Line full ≡ Ok nothing) × (entered nothing elements.Other blank ≡ Ok nothing)
nothing_added = (refl, refl, refl, refl, refl, refl, refl, refl, refl)

-- ---- what is seen of the code's values

drafts_seen : (d : Drafted) → ((draft_of d).name ≡ d.name.now) × ((draft_of d).number ≡ d.number) × ((draft_of d).length ≡ d.length) × ((draft_of d).address ≡ d.address) × ((draft_of d).file ≡ d.file) × ((draft_of d).line ≡ d.line)
drafts_seen d = (refl, refl, refl, refl, refl, refl)

paths_seen : (outer inner : Opened) → (path_of (outer ∷ inner ∷ []) ≡ open_of inner ∷ open_of outer ∷ []) × ((open_of inner).name ≡ inner.name.now) × ((open_of inner).element ≡ inner.element)
paths_seen outer inner = (refl, refl, refl)

records_seen : (r : Records) → ((found_of r).sources ≡ r.sources.entries) × ((found_of r).routines ≡ r.routines.entries) × ((found_of r).points ≡ r.points.entries) × ((found_of r).objects ≡ r.objects.entries) × ((found_of r).properties ≡ r.properties.entries) × ((found_of r).attributes ≡ r.attributes.entries) × ((found_of r).globals ≡ r.globals.entries) × ((found_of r).first_global ≡ r.first_global)
records_seen r = (refl, refl, refl, refl, refl, refl, refl, refl)

readers_seen : (r : Reader) → ((kept_of r).begun ≡ r.begun) × ((kept_of r).path ≡ path_of r.path.elements.items) × ((kept_of r).text ≡ r.text.now) × ((kept_of r).draft ≡ draft_of r.draft) × ((kept_of r).found ≡ found_of r.records)
readers_seen r = (refl, refl, refl, refl, refl)

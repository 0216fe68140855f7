-- What the code's values say.
use Rattle.std.specs.Prelude.{List, reverse, map}
use Rattle.zdebug.specs.declared.draft.Draft.{Draft as Drafted}
use Rattle.zdebug.specs.declared.path.Open.{Open as Opened}
use Rattle.zdebug.specs.declared.records.Records.{Records}
use Rattle.zdebug.specs.declared.reader.Reader.{Reader}
use Rattle.zdebug.specs.Records.{Draft, Found}
use Rattle.zdebug.specs.Reading.{Open, Kept}

abbrev pub draft_of : Drafted → Draft
draft_of d = record { name = d.name.now; number = d.number; length = d.length; address = d.address; file = d.file; line = d.line }

abbrev pub open_of : Opened → Open
open_of o = record { name = o.name.now; element = o.element }

-- the newest first
abbrev pub path_of : List Opened → List Open
path_of items = reverse (map open_of items)

abbrev pub found_of : Records → Found
found_of r = record { sources = r.sources.entries; routines = r.routines.entries; points = r.points.entries; objects = r.objects.entries; properties = r.properties.entries; attributes = r.attributes.entries; globals = r.globals.entries; first_global = r.first_global }

abbrev pub kept_of : Reader → Kept
kept_of r = record { begun = r.begun; path = path_of r.path.elements.items; text = r.text.now; draft = draft_of r.draft; found = found_of r.records }

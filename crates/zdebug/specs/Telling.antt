-- What is told of an address, and of what has a name and a number (own).
use Rattle.std.specs.Prelude.{ℕ, ◌-◌, ◌&&◌, nat_le, List, ◌++◌, Option, None, if◌then◌else◌, codes, decimal}
use Rattle.std.specs.Option.{option_map}
use Rattle.zdebug.specs.declared.naming.Named.{Named}
use Rattle.zdebug.specs.declared.naming.Named.TheVariants.{Global, Object, Attribute, Property}
use Rattle.zdebug.specs.Records.{Found}
use Rattle.zdebug.specs.Places.{Spot, place_in, global_in, name_at}
use Rattle.zdebug.specs.Shown.{escaped, shown}

-- a place, as `jetty.inf:120, JettyEnter`
abbrev pub spot_text : Spot → List ℕ
spot_text s = shown s.file ++ codes ":" ++ decimal s.line ++ codes ", " ++ shown s.routine

abbrev pub source_text : Found → ℕ → Option (List ℕ)
source_text f address = option_map spot_text (place_in f address)

-- a place, as `{"file":"jetty.inf","line":120,"routine":"JettyEnter"}`
abbrev pub spot_object : Spot → List ℕ
spot_object s =
    codes "{\"file\":\"" ++ escaped (shown s.file)
    ++ codes "\",\"line\":" ++ decimal s.line
    ++ codes ",\"routine\":\"" ++ escaped (shown s.routine) ++ codes "\"}"

abbrev pub source_object : Found → ℕ → Option (List ℕ)
source_object f address = option_map spot_object (place_in f address)

-- the name of a variable of the machine: those from 16 to 255 are global
abbrev pub variable_in : Found → ℕ → Option (List ℕ)
variable_in f variable = if nat_le 16 variable && nat_le variable 255 then global_in f (variable - 16) else None

-- the name of what has a number
abbrev pub named_in : Found → Named → ℕ → Option (List ℕ)
named_in f Global number = variable_in f number
named_in f Object number = name_at f.objects number
named_in f Attribute number = name_at f.attributes number
named_in f Property number = name_at f.properties number

-- a name, as `noun`
abbrev pub name_text : Found → Named → ℕ → Option (List ℕ)
name_text f named number = option_map shown (named_in f named number)

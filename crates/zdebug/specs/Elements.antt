-- The elements that are read, and where each may stand. What isn't named here is passed over as a whole.
use Rattle.std.specs.Prelude.{ℕ, List, if◌then◌else◌, codes}
use Rattle.std.specs.Str.{bytes_eq}
use Rattle.zdebug.specs.declared.element.Element.{Element}
use Rattle.zdebug.specs.declared.element.Element.TheVariants as elements

abbrev pub in_story : List ℕ → Element
in_story name =
    if bytes_eq name (codes "source") then elements.Source
    else if bytes_eq name (codes "routine") then elements.Routine
    else if bytes_eq name (codes "object") then elements.Object
    else if bytes_eq name (codes "class") then elements.Object
    else if bytes_eq name (codes "property") then elements.Property
    else if bytes_eq name (codes "attribute") then elements.Attribute
    else if bytes_eq name (codes "global-variable") then elements.Global
    else if bytes_eq name (codes "story-file-section") then elements.Section
    else elements.Other

abbrev pub in_source : List ℕ → Element
in_source name = if bytes_eq name (codes "given-path") then elements.Name else elements.Other

abbrev pub in_routine : List ℕ → Element
in_routine name =
    if bytes_eq name (codes "identifier") then elements.Name
    else if bytes_eq name (codes "address") then elements.Number
    else if bytes_eq name (codes "byte-count") then elements.Length
    else if bytes_eq name (codes "sequence-point") then elements.Point
    else elements.Other

-- what has a number
abbrev pub in_valued : List ℕ → Element
in_valued name =
    if bytes_eq name (codes "identifier") then elements.Name
    else if bytes_eq name (codes "value") then elements.Number
    else elements.Other

abbrev pub in_global : List ℕ → Element
in_global name =
    if bytes_eq name (codes "identifier") then elements.Name
    else if bytes_eq name (codes "address") then elements.Number
    else elements.Other

abbrev pub in_section : List ℕ → Element
in_section name =
    if bytes_eq name (codes "type") then elements.Name
    else if bytes_eq name (codes "address") then elements.Number
    else elements.Other

abbrev pub in_point : List ℕ → Element
in_point name =
    if bytes_eq name (codes "address") then elements.Address
    else if bytes_eq name (codes "source-code-location") then elements.Location
    else elements.Other

abbrev pub in_location : List ℕ → Element
in_location name =
    if bytes_eq name (codes "file-index") then elements.File
    else if bytes_eq name (codes "line") then elements.Line
    else elements.Other

-- the element of a name, by the element in which it stands
abbrev pub inside : Element → List ℕ → Element
inside elements.Story name = in_story name
inside elements.Source name = in_source name
inside elements.Routine name = in_routine name
inside elements.Object name = in_valued name
inside elements.Property name = in_valued name
inside elements.Attribute name = in_valued name
inside elements.Global name = in_global name
inside elements.Section name = in_section name
inside elements.Point name = in_point name
inside elements.Location name = in_location name
inside _ name = elements.Other

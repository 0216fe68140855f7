-- Objects of JSON, each a line (RFC 8259).
use Rattle.std.specs.Prelude.{◌≡◌, ℕ, ◌<◌, ◌^◌, ⊤, Option, None, Some, List, [], ◌∷◌, ◌++◌, map, decimal}
use Rattle.json.specs.Token.{Token}
use Rattle.json.specs.Token as token
use Rattle.json.specs.Json.{Json, Members, no_members, member}
use Rattle.json.specs.Json as json
use Rattle.json.specs.Print.{print}
use Rattle.json.specs.Tree.{json_tokens}
use Rattle.zjson.specs.declared.object.Value.{Value}
use Rattle.zjson.specs.declared.object.Value.TheVariants.{Text, Number, Flag, Nothing}
use Rattle.zjson.specs.declared.object.Member.{Member}

-- a name with its value
abbrev pub Pair : Type 0
Pair = List ℕ × Json

abbrev pub members_of : List Pair → Members
members_of [] = no_members
members_of (p ∷ ps) = member p.0 p.1 (members_of ps)

-- the members, in their order
abbrev pub object_of : List Pair → Json
object_of ps = json.object (members_of ps)

-- the object with no space and the shortest escapes
abbrev pub object_text : List Pair → List ℕ
object_text ps = print (json_tokens (object_of ps))

abbrev pub line_of : List Pair → List ℕ
line_of ps = object_text ps ++ 10 ∷ []

-- a number, in decimal
abbrev pub number : ℕ → Json
number n = json.number (decimal n)

-- a number, or null
abbrev pub number_or_null : Option ℕ → Json
number_or_null None = json.null
number_or_null (Some n) = number n

-- a text, or null
abbrev pub text_or_null : Option (List ℕ) → Json
text_or_null None = json.null
text_or_null (Some text) = json.string text

-- what a value stands for: a text, a number, true or false, or null
abbrev pub value_of : Value → Json
value_of (Text text) = json.string text.now
value_of (Number n) = number n
value_of (Flag flag) = json.boolean flag
value_of Nothing = json.null

abbrev pub pair_of : Member → Pair
pair_of m = (m.name.now, value_of m.value)

abbrev pub pairs_of : List Member → List Pair
pairs_of ms = map pair_of ms

-- a number is one of 64 bits, as each of a program is, and no value has others within it
abbrev pub IsPlain : Json → Type 0
IsPlain json.null = ⊤
IsPlain (json.boolean flag) = ⊤
IsPlain (json.number text) = (n : ℕ) × (n < 2 ^ 64) × (text ≡ decimal n)
IsPlain (json.string text) = ⊤
IsPlain (json.array _) = ⊥
IsPlain (json.object _) = ⊥

abbrev pub ArePlain : List Pair → Type 0
ArePlain [] = ⊤
ArePlain (p ∷ ps) = IsPlain p.1 × ArePlain ps

-- for private clauses: what a member is written as
abbrev pub pair_tokens : Pair → List Token
pair_tokens p = token.key p.0 ∷ json_tokens p.1

-- Values of the definitions, computed.
use Rattle.std.proofs.Common.{◌≡◌, ◌⊎◌, inl, inr, ℕ, zero, suc, ◌*◌, ◌<◌, ◌≤◌, Bool, true, false, List, [], ◌∷◌, ◌++◌, replicate, length, take, drop, Some, None, Ok, Err, refl, subst, arith, lit<, lit≤}
use Rattle.std.specs.List.{find}
use Rattle.zstory.specs.Bytes.{AreBytes, byte_at}
use Rattle.zstory.specs.Objects.{object_place, property_table}
use Rattle.zobj.specs.declared.error.ObjectError.TheVariants.{AbsentObject, AbsentProperty, PropertyTooLong}
use Rattle.zobj.specs.declared.tree.Link.{Link}
use Rattle.zobj.specs.declared.tree.Link.TheVariants.{Parent, Sibling, Child}
use Rattle.zobj.specs.declared.property.Property.{Property}
use Rattle.zobj.specs.declared.name.ShortName.TheVariants.{Empty, At, Outside}
use Rattle.zobj.specs.Entries.{HasTable, HasEntry, HasDefaults, IsAttributeByte, IsLinkByte}
use Rattle.zobj.specs.Attributes.{has_attribute, with_attribute}
use Rattle.zobj.specs.Tree.{linked, parent, sibling, child, with_link, IsTree}
use Rattle.zobj.specs.Moves.{row, lead_of, unlinked, inserted}
use Rattle.zobj.specs.Properties.{IsReadable, list_place, data_length, property_number, is_property, first_properties, properties_from, properties, has_number, property_of, after_number, next_in}
use Rattle.zobj.specs.Values.{IsDataByte, default_word, value_of, property_value, with_value, with_property, length_before}
use Rattle.zobj.specs.Kept.{DiffersOnly}
use Rattle.zobj.specs.declared.answers.PropertyQuestion.TheVariants.{Value, Address, Next}
use Rattle.zobj.specs.Answers.{answer_of}
use Rattle.zobj.specs.Names.{name_in, short_name}
use Rattle.zobj.proofs.Lists.{property_inside}

-- ---- a story with two objects

-- up to the entries at 0x25E, and behind them
front : List ℕ
front = 0x03 ∷ 0x00 ∷ 0x00 ∷ 0x01 ∷ 0x03 ∷ 0x70 ∷ 0x03 ∷ 0x70 ∷ 0x03 ∷ 0x5C ∷ 0x02 ∷ 0x20 ∷ 0x00 ∷ 0x40 ∷ 0x02 ∷ 0x9A
    ∷ 0x00 ∷ 0x00 ∷ 0x32 ∷ 0x36 ∷ 0x30 ∷ 0x31 ∷ 0x30 ∷ 0x31 ∷ 0x02 ∷ 0x9A ∷ 0x01 ∷ 0xB9 ∷ 0x4B ∷ 0x12 ∷ replicate 576 0

-- the property table of object 1, named `a`, at 0x270, and that of object 2, named `b`, at 0x279
tables : List ℕ
tables = 0x01 ∷ 0x98 ∷ 0xA5 ∷ 0x05 ∷ 0x07 ∷ 0x23 ∷ 0x12 ∷ 0x34 ∷ 0x00 ∷ 0x01 ∷ 0x9C ∷ 0xA5 ∷ 0x00 ∷ []

-- the four bytes of attributes, the three links, and the address of the property table
state : (parent sibling child : ℕ) → List ℕ
state parent sibling child = 0 ∷ 0 ∷ 0 ∷ 0 ∷ parent ∷ sibling ∷ child ∷ []

story_with : List ℕ → List ℕ → List ℕ
story_with one two = front ++ one ++ 0x02 ∷ 0x70 ∷ two ++ 0x02 ∷ 0x79 ∷ tables

-- object 2 is in object 1
story : List ℕ
story = story_with (state 0 0 2) (state 1 0 0)

sizes : (length front ≡ 0x25E) × (length story ≡ 0x27D) × (object_place story 1 ≡ 0x25E) × (object_place story 2 ≡ 0x267) × (property_table story 1 ≡ 0x270) × (property_table story 2 ≡ 0x279)
unfolding story story_with state front tables
sizes = (refl, refl, refl, refl, refl, refl)

-- what calls ask for, on both sides of each bound
asked : HasTable story 2 × HasTable story 3 × (HasTable story 4 → ⊥) × HasEntry story 2 × HasEntry story 3 × (HasEntry story 4 → ⊥) × (HasEntry story 0 → ⊥) × HasDefaults story
unfolding story story_with state front tables
asked = (
  record { few = lit≤ tt; above = lit≤ tt; within = lit≤ tt },
  record { few = lit≤ tt; above = lit≤ tt; within = lit≤ tt },
  λ h. omega (arith, h.within),
  record { first = lit≤ tt; above = lit≤ tt; within = lit≤ tt },
  record { first = lit≤ tt; above = lit≤ tt; within = lit≤ tt },
  λ h. omega (arith, h.within),
  λ h. omega (arith, h.first),
  record { above = lit≤ tt; within = lit≤ tt },
)

links : (child story 1 ≡ 2) × (parent story 2 ≡ 1) × (parent story 1 ≡ 0) × (sibling story 2 ≡ 0)
unfolding story story_with state front tables
links = (refl, refl, refl, refl)

-- object 1 put under its own child: a cycle, and no error
cycle : inserted 2 1 2 story ≡ Ok (story_with (state 2 0 2) (state 1 0 1))
unfolding story story_with state front tables row
cycle = refl

-- and object 2 taken out of it
out_of_cycle : unlinked 2 2 (story_with (state 2 0 2) (state 1 0 1)) ≡ Ok (story_with (state 2 0 0) (state 0 0 1))
unfolding story_with state front tables row
out_of_cycle = refl

-- ---- its properties

five : Property
five = record { number = 5; place = 0x274; length = 1 }

three : Property
three = record { number = 3; place = 0x276; length = 2 }

listed : (list_place story 0x270 ≡ 0x273) × (properties story 1 ≡ five ∷ three ∷ []) × (properties story 2 ≡ []) × (properties story 0 ≡ [])
unfolding story story_with state front tables first_properties five three
listed = (refl, refl, refl, refl)

values : (property_value story 1 5 ≡ Ok 7) × (property_value story 1 3 ≡ Ok 4660) × (property_value story 1 9 ≡ Ok 0)
unfolding story story_with state front tables first_properties
values = (refl, refl, refl)

found : (property_of story 1 3 ≡ Some three) × (three.place ≡ 630) × (property_of story 1 9 ≡ None) × (length_before story 630 ≡ Some 2) × (length_before story 0 ≡ Some 0)
unfolding story story_with state front tables first_properties three
found = (refl, refl, refl, refl, refl)

next_numbers : (next_in (properties story 1) 0 ≡ Some 5) × (next_in (properties story 1) 5 ≡ Some 3) × (next_in (properties story 1) 3 ≡ Some 0) × (next_in (properties story 1) 9 ≡ None) × (next_in (properties story 2) 0 ≡ Some 0)
unfolding story story_with state front tables first_properties after_number
next_numbers = (refl, refl, refl, refl, refl)

names : (short_name story 1 ≡ At 0x271) × (short_name story 2 ≡ At 0x27A) × (short_name story 0 ≡ Empty)
unfolding story story_with state front tables
names = (refl, refl, refl)

-- a word in two bytes, its low byte in one, and no property 9
put_words : (with_property 1 3 0xFF12 story ≡ Ok (take 0x276 story ++ 0xFF ∷ 0x12 ∷ drop 0x278 story)) × (with_property 1 3 0xABCD story ≡ Ok (take 0x276 story ++ 0xAB ∷ 0xCD ∷ drop 0x278 story)) × (with_property 1 5 0xABCD story ≡ Ok (take 0x274 story ++ 0xCD ∷ drop 0x275 story)) × (with_property 1 9 0xABCD story ≡ Err AbsentProperty)
unfolding story story_with state front tables first_properties
put_words = (refl, refl, refl, refl)

-- ---- trees

-- a table at 64, in which the default of property n is 256n + 200 + n, and entries from 126 on
grove : List ℕ → List ℕ
grove entries = replicate 10 0 ++ 0x00 ∷ 0x40 ∷ replicate 52 0 ++ 1 ∷ 201 ∷ 2 ∷ 202 ∷ 3 ∷ 203 ∷ 4 ∷ 204 ∷ 5 ∷ 205 ∷ 6 ∷ 206 ∷ 7 ∷ 207 ∷ 8 ∷ 208 ∷ 9 ∷ 209 ∷ 10 ∷ 210 ∷ 11 ∷ 211 ∷ 12 ∷ 212 ∷ 13 ∷ 213 ∷ 14 ∷ 214 ∷ 15 ∷ 215 ∷ 16 ∷ 216 ∷ 17 ∷ 217 ∷ 18 ∷ 218 ∷ 19 ∷ 219 ∷ 20 ∷ 220 ∷ 21 ∷ 221 ∷ 22 ∷ 222 ∷ 23 ∷ 223 ∷ 24 ∷ 224 ∷ 25 ∷ 225 ∷ 26 ∷ 226 ∷ 27 ∷ 227 ∷ 28 ∷ 228 ∷ 29 ∷ 229 ∷ 30 ∷ 230 ∷ 31 ∷ 231 ∷ [] ++ entries

node : (parent sibling child : ℕ) → List ℕ
node parent sibling child = 0 ∷ 0 ∷ 0 ∷ 0 ∷ parent ∷ sibling ∷ child ∷ 0 ∷ 0 ∷ []

-- four objects, by the links of each
four : List ℕ → List ℕ → List ℕ → List ℕ → List ℕ
four one two three last = grove (one ++ two ++ three ++ last)

-- objects 1, 4 and 2, in this order, are in object 3
family : List ℕ
family = four (node 3 4 0) (node 3 0 0) (node 0 0 1) (node 3 2 0)

rows : (row 4 family 1 ≡ 1 ∷ 4 ∷ 2 ∷ []) × (row 2 family 1 ≡ 1 ∷ 4 ∷ []) × (row 0 family 1 ≡ []) × (row 4 family 0 ≡ [])
unfolding family four grove node row
rows = (refl, refl, refl, refl)

leads : (lead_of 4 family 4 ≡ Ok (Some (record { link = Sibling; object = 1 }))) × (lead_of 4 family 1 ≡ Ok (Some (record { link = Child; object = 3 }))) × (lead_of 4 family 2 ≡ Ok (Some (record { link = Sibling; object = 4 }))) × (lead_of 4 family 3 ≡ Ok None) × (lead_of 4 (four (node 3 2 0) (node 3 0 0) (node 0 0 4) (node 3 1 0)) 2 ≡ Ok (Some (record { link = Sibling; object = 1 })))
unfolding family four grove node row
leads = (refl, refl, refl, refl, refl)

-- the one in the middle, the first, and the parent, whose children stay
taken : (unlinked 4 4 family ≡ Ok (four (node 3 2 0) (node 3 0 0) (node 0 0 1) (node 0 0 0))) × (unlinked 4 1 family ≡ Ok (four (node 0 0 0) (node 3 0 0) (node 0 0 4) (node 3 2 0))) × (unlinked 4 3 family ≡ Ok family)
unfolding family four grove node row
taken = (refl, refl, refl)

-- the last child made the first, one put under its sibling, and one under itself
put_under : (inserted 4 2 3 family ≡ Ok (four (node 3 4 0) (node 3 1 0) (node 0 0 2) (node 3 0 0))) × (inserted 4 4 1 family ≡ Ok (four (node 3 2 4) (node 3 0 0) (node 0 0 1) (node 1 0 0))) × (inserted 4 4 4 family ≡ Ok (four (node 3 2 0) (node 3 0 0) (node 0 0 1) (node 4 0 4)))
unfolding family four grove node row
put_under = (refl, refl, refl)

-- two siblings that lead to one another, of which neither leads to object 4; and a row that ends before it
ring : List ℕ
ring = four (node 3 2 0) (node 3 1 0) (node 0 0 1) (node 3 2 0)

not_met : (row 4 ring 1 ≡ 1 ∷ 2 ∷ 1 ∷ 2 ∷ []) × (unlinked 4 4 ring ≡ Ok (four (node 3 2 0) (node 3 1 0) (node 0 0 1) (node 0 0 0))) × (unlinked 4 4 (four (node 3 2 0) (node 3 0 0) (node 0 0 1) (node 3 2 0)) ≡ Ok (four (node 3 2 0) (node 3 0 0) (node 0 0 1) (node 0 0 0)))
unfolding ring four grove node row
not_met = (refl, refl, refl)

-- an object that is nobody's child isn't sought: what leads to it stays
nobodys : unlinked 4 4 (four (node 3 4 0) (node 3 0 0) (node 0 0 1) (node 0 2 0)) ≡ Ok (four (node 3 4 0) (node 3 0 0) (node 0 0 1) (node 0 0 0))
unfolding four grove node row
nobodys = refl

-- an object that is its own parent, child and sibling
selfish : unlinked 4 4 (four (node 0 0 0) (node 0 0 0) (node 0 0 0) (node 4 4 4)) ≡ Ok (four (node 0 0 0) (node 0 0 0) (node 0 0 0) (node 0 0 4))
unfolding four grove node row
selfish = refl

-- a number above that of the objects: the parent, the parent's child, a sibling on the way
no_objects : (unlinked 4 4 (four (node 3 4 0) (node 3 0 0) (node 0 0 1) (node 5 2 0)) ≡ Err AbsentObject) × (unlinked 4 4 (four (node 3 4 0) (node 3 0 0) (node 0 0 5) (node 3 2 0)) ≡ Err AbsentObject) × (unlinked 4 4 (four (node 3 5 0) (node 3 0 0) (node 0 0 1) (node 3 2 0)) ≡ Err AbsentObject) × (inserted 4 4 1 (four (node 3 5 0) (node 3 0 0) (node 0 0 1) (node 3 2 0)) ≡ Err AbsentObject)
unfolding four grove node row
no_objects = (refl, refl, refl, refl)

-- one that isn't met: behind the object, its own, or that of the new parent's child
unmet : (unlinked 4 4 (four (node 3 4 0) (node 3 5 0) (node 0 0 1) (node 3 2 0)) ≡ Ok (four (node 3 2 0) (node 3 5 0) (node 0 0 1) (node 0 0 0))) × (unlinked 4 4 (four (node 3 4 0) (node 3 0 0) (node 0 0 1) (node 3 5 0)) ≡ Ok (four (node 3 5 0) (node 3 0 0) (node 0 0 1) (node 0 0 0))) × (inserted 4 4 1 (four (node 3 4 9) (node 3 0 0) (node 0 0 1) (node 3 2 0)) ≡ Ok (four (node 3 2 4) (node 3 0 0) (node 0 0 1) (node 1 9 0)))
unfolding four grove node row
unmet = (refl, refl, refl)

-- number 0 is no object: it has no links, and none is written
none : (parent family 0 ≡ 0) × (linked Child family 0 ≡ 0) × (with_link Parent 0 9 family ≡ family) × (has_attribute family 0 1 ≡ false) × (with_attribute true 0 1 family ≡ family)
unfolding family four grove node
none = (refl, refl, refl, refl, refl)

-- a link that leads to one of the objects, and one that doesn't
trees : IsTree (grove (node 1 1 0)) 1 × (IsTree (grove (node 0 2 0)) 1 → ⊥)
unfolding grove node
trees = (record { small = λ link object least most. let one : 1 ≡ object = omega (arith, least, most) in subst (λ (n : ℕ). linked link (grove (node 1 1 0)) n ≤ 1) one (by link) }, λ t. omega (arith, t.small Sibling 1 (lit≤ tt) (lit≤ tt)))
  where
    by : (link : Link) → linked link (grove (node 1 1 0)) 1 ≤ 1
    by Parent = lit≤ tt
    by Sibling = lit≤ tt
    by Child = lit≤ tt

-- ---- attributes

flagged : List ℕ → List ℕ
flagged flags = grove (node 0 0 0 ++ flags ++ 0x07 ∷ 0x08 ∷ 0x09 ∷ 0 ∷ 0 ∷ [])

bits : (has_attribute (flagged (0x80 ∷ 0x00 ∷ 0x00 ∷ 0x00 ∷ [])) 2 0 ≡ true) × (has_attribute (flagged (0x7F ∷ 0xFF ∷ 0xFF ∷ 0xFF ∷ [])) 2 0 ≡ false) × (has_attribute (flagged (0x00 ∷ 0x00 ∷ 0x00 ∷ 0x01 ∷ [])) 2 31 ≡ true) × (has_attribute (flagged (0xFF ∷ 0xFF ∷ 0xFF ∷ 0xFE ∷ [])) 2 31 ≡ false) × (has_attribute (flagged (0x01 ∷ 0x00 ∷ 0x00 ∷ 0x00 ∷ [])) 2 7 ≡ true) × (has_attribute (flagged (0x00 ∷ 0x80 ∷ 0x00 ∷ 0x00 ∷ [])) 2 8 ≡ true)
unfolding flagged grove node
bits = (refl, refl, refl, refl, refl, refl)

set_bits : (with_attribute true 2 16 (flagged (0x01 ∷ 0x02 ∷ 0x04 ∷ 0x08 ∷ [])) ≡ flagged (0x01 ∷ 0x02 ∷ 0x84 ∷ 0x08 ∷ [])) × (with_attribute true 2 0 (flagged (0x00 ∷ 0x00 ∷ 0x00 ∷ 0x00 ∷ [])) ≡ flagged (0x80 ∷ 0x00 ∷ 0x00 ∷ 0x00 ∷ [])) × (with_attribute true 2 31 (flagged (0x80 ∷ 0x00 ∷ 0x00 ∷ 0x80 ∷ [])) ≡ flagged (0x80 ∷ 0x00 ∷ 0x00 ∷ 0x81 ∷ [])) × (with_attribute true 2 12 (flagged (0x00 ∷ 0x08 ∷ 0x00 ∷ 0x00 ∷ [])) ≡ flagged (0x00 ∷ 0x08 ∷ 0x00 ∷ 0x00 ∷ []))
unfolding flagged grove node
set_bits = (refl, refl, refl, refl)

cleared_bits : (with_attribute false 2 21 (flagged (0x01 ∷ 0x02 ∷ 0x84 ∷ 0x08 ∷ [])) ≡ flagged (0x01 ∷ 0x02 ∷ 0x80 ∷ 0x08 ∷ [])) × (with_attribute false 2 12 (flagged (0xFF ∷ 0xFF ∷ 0xFF ∷ 0xFF ∷ [])) ≡ flagged (0xFF ∷ 0xF7 ∷ 0xFF ∷ 0xFF ∷ [])) × (with_attribute false 2 31 (flagged (0x00 ∷ 0x00 ∷ 0x00 ∷ 0x01 ∷ [])) ≡ flagged (0x00 ∷ 0x00 ∷ 0x00 ∷ 0x00 ∷ [])) × (with_attribute false 2 16 (flagged (0xFF ∷ 0xFF ∷ 0x7F ∷ 0xFF ∷ [])) ≡ flagged (0xFF ∷ 0xFF ∷ 0x7F ∷ 0xFF ∷ []))
unfolding flagged grove node
cleared_bits = (refl, refl, refl, refl)

-- the last object there can be
hundreds : List ℕ
hundreds = grove (replicate 2286 0 ++ 0x00 ∷ 0x00 ∷ 0x00 ∷ 0x01 ∷ 0xFE ∷ 0xFD ∷ 0xFC ∷ 0x00 ∷ 0x00 ∷ [])

last_object : (object_place hundreds 255 ≡ 2412) × (has_attribute hundreds 255 31 ≡ true) × (parent hundreds 255 ≡ 254) × (sibling hundreds 255 ≡ 253) × (child hundreds 255 ≡ 252)
unfolding hundreds grove
last_object = (refl, refl, refl, refl, refl)

full_table : HasTable hundreds 255 × (HasTable (hundreds ++ replicate 9 0) 256 → ⊥)
unfolding hundreds grove
full_table = (record { few = lit≤ tt; above = lit≤ tt; within = lit≤ tt }, λ h. omega (arith, h.few))

-- the bytes of attributes and links of two objects, and no others
parts : IsAttributeByte family 2 126 × IsAttributeByte family 2 138 × (IsAttributeByte family 2 139 → ⊥) × (IsAttributeByte family 2 147 → ⊥) × IsLinkByte family 2 130 × IsLinkByte family 2 132 × (IsLinkByte family 2 133 → ⊥) × (IsLinkByte family 2 129 → ⊥)
unfolding family four grove node
parts = (
  record { object = 1; least = lit≤ tt; most = lit≤ tt; from = lit≤ tt; below = lit< tt },
  record { object = 2; least = lit≤ tt; most = lit≤ tt; from = lit≤ tt; below = lit< tt },
  λ h. omega (arith, h.least, h.most, h.from, h.below),
  λ h. omega (arith, h.least, h.most, h.from, h.below),
  record { object = 1; least = lit≤ tt; most = lit≤ tt; from = lit≤ tt; below = lit< tt },
  record { object = 1; least = lit≤ tt; most = lit≤ tt; from = lit≤ tt; below = lit< tt },
  λ h. omega (arith, h.least, h.most, h.from, h.below),
  λ h. omega (arith, h.least, h.most, h.from, h.below),
)

-- ---- properties

-- a table of its own at 0, so many words of name, then the list
shelf : ℕ → List ℕ → List ℕ
shelf words list = words ∷ replicate (2 * words) 0xFF ++ list

list_places : (list_place (shelf 0 []) 0 ≡ 1) × (list_place (shelf 3 []) 0 ≡ 7) × (list_place (shelf 3 []) 9 ≡ 10)
unfolding shelf
list_places = (refl, refl, refl)

-- lengths 1 to 8, and numbers 0 to 31
sized : (data_length 0x1F ≡ 1) × (data_length 0x20 ≡ 2) × (data_length 0xFF ≡ 8) × (property_number 0xFF ≡ 31) × (property_number 0xE0 ≡ 0) × (property_number 0x2A ≡ 10)
sized = (refl, refl, refl, refl, refl, refl)

-- a zero byte ends a list, and a size byte with number 0 and a length doesn't
ends : (properties_from (0x01 ∷ 0x07 ∷ 0x00 ∷ 0x02 ∷ 0x08 ∷ []) 0 ≡ record { number = 1; place = 1; length = 1 } ∷ []) × (properties_from (0x20 ∷ 0x07 ∷ 0x08 ∷ 0x00 ∷ []) 0 ≡ record { number = 0; place = 1; length = 2 } ∷ [])
unfolding first_properties
ends = (refl, refl)

-- so does the end of memory, behind a property or within it
cut : (properties_from (0x01 ∷ 0x07 ∷ 0x3F ∷ 0x08 ∷ 0x09 ∷ []) 0 ≡ record { number = 1; place = 1; length = 1 } ∷ record { number = 31; place = 3; length = 2 } ∷ []) × (properties_from (0x01 ∷ 0x07 ∷ 0x3F ∷ 0x08 ∷ []) 0 ≡ record { number = 1; place = 1; length = 1 } ∷ []) × (properties_from (0x01 ∷ 0x07 ∷ 0x3F ∷ []) 0 ≡ record { number = 1; place = 1; length = 1 } ∷ []) × (properties_from (0x01 ∷ 0x07 ∷ []) 5 ≡ [])
unfolding first_properties
cut = (refl, refl, refl, refl)

-- nothing is read from 65,536 on, however long memory is
far : (memory : List ℕ) → is_property memory 65535 ≡ false
far memory = by (is_property memory 65535) refl
  where
    by : (b : Bool) → is_property memory 65535 ≡ b → b ≡ false
    by true e = let inside = property_inside memory 65535 e in absurd (omega (arith, inside.0, inside.1))
    by false e = refl

near : is_property (replicate 65534 0 ++ 0x1F ∷ 0x07 ∷ 0x09 ∷ 0x09 ∷ []) 65534 ≡ true
near = refl

-- of equal numbers the first counts
twins : List ℕ
twins = 0x05 ∷ 0x0A ∷ 0x06 ∷ 0x0B ∷ 0x05 ∷ 0x0C ∷ 0x04 ∷ 0x0D ∷ 0x00 ∷ []

first_of_equals : (find (has_number 5) (properties_from twins 0) ≡ Some (record { number = 5; place = 1; length = 1 })) × (next_in (properties_from twins 0) 5 ≡ Some 6) × (next_in (properties_from twins 0) 6 ≡ Some 5) × (next_in (properties_from twins 0) 4 ≡ Some 0) × (next_in (properties_from twins 0) 7 ≡ None)
unfolding twins first_properties after_number
first_of_equals = (refl, refl, refl, refl, refl)

-- ---- answers

-- object 1 has the properties 5, of one byte, and 3, of two
asked_values : (answer_of Value story 1 5 ≡ Ok 7) × (answer_of Value story 1 3 ≡ Ok 4660) × (answer_of Value story 1 9 ≡ Ok 0) × (answer_of Value story 1 1 ≡ Ok 0) × (answer_of Value story 1 0 ≡ Err AbsentProperty) × (answer_of Value story 1 32 ≡ Err AbsentProperty) × (answer_of Value family 1 31 ≡ Ok 8167)
unfolding story story_with state front tables family four grove node first_properties
asked_values = (refl, refl, refl, refl, refl, refl, refl)

asked_addresses : (answer_of Address story 1 3 ≡ Ok 630) × (answer_of Address story 1 5 ≡ Ok 628) × (answer_of Address story 1 4 ≡ Ok 0) × (answer_of Address story 1 259 ≡ Ok 0)
unfolding story story_with state front tables first_properties
asked_addresses = (refl, refl, refl, refl)

asked_next : (answer_of Next story 1 0 ≡ Ok 5) × (answer_of Next story 1 5 ≡ Ok 3) × (answer_of Next story 1 3 ≡ Ok 0) × (answer_of Next story 1 9 ≡ Err AbsentProperty) × (answer_of Next story 2 0 ≡ Ok 0)
unfolding story story_with state front tables first_properties after_number
asked_next = (refl, refl, refl, refl, refl)

-- ---- values

-- defaults stand in the table, from property 1 on
default_words : (default_word family 1 ≡ 457) × (default_word family 31 ≡ 8167) × (default_word family 0 ≡ 0)
unfolding family four grove node
default_words = (refl, refl, refl)

long : Property
long = record { number = 5; place = 1; length = 3 }

too_long : (value_of twins long ≡ Err PropertyTooLong) × (with_value 1 twins long ≡ Err PropertyTooLong)
unfolding twins long
too_long = (refl, refl)

-- the size byte before an address has to be readable
size_bytes : (length_before twins 1 ≡ Some 1) × (length_before (0xFF ∷ []) 1 ≡ Some 8) × (length_before (0xFF ∷ []) 2 ≡ None)
unfolding twins
size_bytes = (refl, refl, refl)

-- ---- names

no_names : (name_in (0x00 ∷ 0x05 ∷ []) 0 ≡ Empty) × (name_in (0x01 ∷ 0x94 ∷ 0xA5 ∷ []) 0 ≡ At 1) × (name_in (0x01 ∷ 0x94 ∷ []) 0 ≡ At 1) × (name_in (0x00 ∷ 0x01 ∷ []) 1 ≡ Outside) × (name_in (0x00 ∷ 0x00 ∷ []) 1 ≡ Empty) × (name_in (0x00 ∷ 0x00 ∷ []) 2 ≡ Outside)
no_names = (refl, refl, refl, refl, refl, refl)

-- a text begins at 65,536 as anywhere else, where memory goes on there
far_names : (name_in (replicate 65535 0 ++ 0x01 ∷ 0x94 ∷ []) 65535 ≡ At 65536) × (name_in (replicate 65535 0 ++ 0x01 ∷ []) 65535 ≡ Outside) × (name_in (replicate 65536 0) 65535 ≡ Empty)
far_names = (refl, refl, refl)

-- ---- what is left as it is

data_bytes : IsDataByte three 630 × IsDataByte three 631 × (IsDataByte three 629 → ⊥) × (IsDataByte three 632 → ⊥)
unfolding three
data_bytes = ((lit≤ tt, lit< tt), (lit≤ tt, lit< tt), λ h. omega (arith, h.0), λ h. omega (arith, h.1))

readable : IsReadable (take 632 story) three × (IsReadable (take 631 story) three → ⊥)
unfolding story story_with state front tables three
readable = (record { some = lit≤ tt; within = lit≤ tt }, λ h. omega (arith, h.within))

-- a byte that differs, at its place and at no other
differing : DiffersOnly (λ p. p ≡ 1) (7 ∷ 8 ∷ []) (7 ∷ 9 ∷ []) × (DiffersOnly (λ p. p ≡ 0) (7 ∷ 8 ∷ []) (7 ∷ 9 ∷ []) → ⊥) × (DiffersOnly (λ p. p ≡ 1) (7 ∷ 8 ∷ []) (7 ∷ []) → ⊥)
differing = (record { size = refl; rest = by }, λ d. elim (d.rest 1) [ inl e ↦ omega (arith, e) | inr e ↦ omega (arith, e) ], λ d. omega (arith, d.size))
  where
    by : (p : ℕ) → (byte_at (7 ∷ 9 ∷ []) p ≡ byte_at (7 ∷ 8 ∷ []) p) ⊎ (p ≡ 1)
    by zero = inl refl
    by (suc zero) = inr refl
    by (suc (suc p)) = inl refl

bytes : AreBytes (255 ∷ []) × (AreBytes (256 ∷ []) → ⊥)
bytes = (by, λ are. omega (arith, are 0))
  where
    by : (p : ℕ) → byte_at (255 ∷ []) p < 256
    by zero = lit< tt
    by (suc p) = lit< tt

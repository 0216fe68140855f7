-- Values of the definitions, computed.
use Rattle.std.proofs.Common.{◌≡◌, ℕ, List, [], ◌∷◌, ◌++◌, replicate, refl}
use Rattle.zdict.specs.Lookup.{entry_places, lookup}
use Rattle.zdict.specs.Tokens.{Span, separators, tokens}

-- ---- entries

-- The dictionary is at 12. It lists a full stop, a comma and a quote, and has five entries of six bytes, of which the second and the third
-- are equal.
memory : List ℕ
memory =
    replicate 8 0 ++ 0 ∷ 12 ∷ 0 ∷ 0 ∷ 3 ∷ 46 ∷ 44 ∷ 34 ∷ 6 ∷ 0 ∷ 5
    ∷ 0x13 ∷ 0x8D ∷ 0x94 ∷ 0xA5 ∷ 0x01 ∷ 0x02
    ∷ 0x1A ∷ 0x31 ∷ 0xE0 ∷ 0xA5 ∷ 0x03 ∷ 0x04
    ∷ 0x1A ∷ 0x31 ∷ 0xE0 ∷ 0xA5 ∷ 0x05 ∷ 0x06
    ∷ 0x45 ∷ 0x50 ∷ 0x80 ∷ 0xA5 ∷ 0x07 ∷ 0x08
    ∷ 0x65 ∷ 0xAA ∷ 0xC8 ∷ 0xA6 ∷ 0x09 ∷ 0x0A
    ∷ []

parts : (separators memory ≡ 46 ∷ 44 ∷ 34 ∷ []) × (entry_places memory ≡ 19 ∷ 25 ∷ 31 ∷ 37 ∷ 43 ∷ [])
unfolding memory
parts = (refl, refl)

-- the first, the last, and the first of two that are equal
found : (lookup memory (0x13 ∷ 0x8D ∷ 0x94 ∷ 0xA5 ∷ []) ≡ 19) × (lookup memory (0x65 ∷ 0xAA ∷ 0xC8 ∷ 0xA6 ∷ []) ≡ 43) × (lookup memory (0x1A ∷ 0x31 ∷ 0xE0 ∷ 0xA5 ∷ []) ≡ 25)
unfolding memory lookup
found = (refl, refl, refl)

-- below all, above all, between two, and apart from an entry in one byte, each of the four
absent : (lookup memory (0 ∷ 0 ∷ 0 ∷ 0 ∷ []) ≡ 0) × (lookup memory (255 ∷ 255 ∷ 255 ∷ 255 ∷ []) ≡ 0) × (lookup memory (0x20 ∷ 0 ∷ 0 ∷ 0 ∷ []) ≡ 0)
unfolding memory lookup
absent = (refl, refl, refl)

one_byte_apart : (lookup memory (0x46 ∷ 0x50 ∷ 0x80 ∷ 0xA5 ∷ []) ≡ 0) × (lookup memory (0x45 ∷ 0x51 ∷ 0x80 ∷ 0xA5 ∷ []) ≡ 0) × (lookup memory (0x45 ∷ 0x50 ∷ 0x81 ∷ 0xA5 ∷ []) ≡ 0) × (lookup memory (0x45 ∷ 0x50 ∷ 0x80 ∷ 0xA4 ∷ []) ≡ 0)
unfolding memory lookup
one_byte_apart = (refl, refl, refl, refl)

-- a dictionary of no separators and no entries
bare : List ℕ
bare = replicate 8 0 ++ 0 ∷ 12 ∷ 0 ∷ 0 ∷ 0 ∷ 7 ∷ 0 ∷ 0 ∷ []

nothing : (separators bare ≡ []) × (entry_places bare ≡ []) × (lookup bare (0 ∷ 0 ∷ 0 ∷ 0 ∷ []) ≡ 0)
unfolding bare lookup
nothing = (refl, refl, refl)

-- ---- tokens

listed : List ℕ
listed = 46 ∷ 44 ∷ 34 ∷ []

abbrev span : ℕ → List ℕ → Span
span place bytes = record { place = place; bytes = bytes }

-- "fred,go fishing", the example of Z 13.6.1
runs : tokens listed (102 ∷ 114 ∷ 101 ∷ 100 ∷ 44 ∷ 103 ∷ 111 ∷ 32 ∷ 102 ∷ 105 ∷ 115 ∷ 104 ∷ 105 ∷ 110 ∷ 103 ∷ []) ≡ span 0 (102 ∷ 114 ∷ 101 ∷ 100 ∷ []) ∷ span 4 (44 ∷ []) ∷ span 5 (103 ∷ 111 ∷ []) ∷ span 8 (102 ∷ 105 ∷ 115 ∷ 104 ∷ 105 ∷ 110 ∷ 103 ∷ []) ∷ []
unfolding listed
runs = refl

-- separators side by side, and spaces at both ends
ends : tokens listed (32 ∷ 46 ∷ 44 ∷ 32 ∷ 120 ∷ 32 ∷ []) ≡ span 1 (46 ∷ []) ∷ span 2 (44 ∷ []) ∷ span 4 (120 ∷ []) ∷ []
unfolding listed
ends = refl

-- a run between separators, and two spaces
quoted : tokens listed (34 ∷ 97 ∷ 34 ∷ 32 ∷ 32 ∷ 98 ∷ 46 ∷ 34 ∷ []) ≡ span 0 (34 ∷ []) ∷ span 1 (97 ∷ []) ∷ span 2 (34 ∷ []) ∷ span 5 (98 ∷ []) ∷ span 6 (46 ∷ []) ∷ span 7 (34 ∷ []) ∷ []
unfolding listed
quoted = refl

empty : (tokens listed [] ≡ []) × (tokens listed (32 ∷ 32 ∷ []) ≡ [])
unfolding listed
empty = (refl, refl)

-- a space is no token, also where it is listed
listed_space : tokens (32 ∷ 46 ∷ []) (97 ∷ 32 ∷ 98 ∷ 46 ∷ 32 ∷ 99 ∷ []) ≡ span 0 (97 ∷ []) ∷ span 2 (98 ∷ []) ∷ span 3 (46 ∷ []) ∷ span 5 (99 ∷ []) ∷ []
listed_space = refl

-- what isn't listed divides nothing
unlisted : tokens [] (97 ∷ 46 ∷ 98 ∷ 32 ∷ 99 ∷ []) ≡ span 0 (97 ∷ 46 ∷ 98 ∷ []) ∷ span 4 (99 ∷ []) ∷ []
unlisted = refl

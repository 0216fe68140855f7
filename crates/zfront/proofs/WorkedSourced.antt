-- Values of the definitions of what is told of the source, computed.
use Rattle.std.proofs.Common.{◌≡◌, ℕ, Some, None, [], ◌∷◌, List, cond, nat_eq, refl}
use Rattle.std.specs.Fmt.{digits}
use Rattle.std.specs.Prelude.{codes, Option}
use Rattle.zdebug.specs.Records.{Found, nothing}
use Rattle.zdebug.specs.declared.naming.Named.{Named}
use Rattle.zdebug.specs.declared.naming.Named.TheVariants.{Global, Object, Attribute, Property}
use Rattle.zfront.specs.Sourced.{Known, address_at, known_of, line_told, number_at}

-- the place of the address 0x387 is known, and a name of each kind
names : Named → ℕ → Option (List ℕ)
names Global n = cond (nat_eq n 33) (Some (codes "noun")) None
names Object n = cond (nat_eq n 5) (Some (codes "Lamp")) None
names Attribute n = cond (nat_eq n 3) (Some (codes "light")) None
names Property n = cond (nat_eq n 7) (Some (codes "n_to")) None

abbrev story : Known
story = record {
  place = λ n. cond (nat_eq n 903) (Some (codes "jetty.inf:120, JettyEnter")) None;
  object = λ n. cond (nat_eq n 903) (Some (codes "{\"line\":120}")) None;
  name = names;
}

-- ---- numbers

-- five digits, four and six, an upper-case one, and what stands behind
addresses : (address_at (codes "00387") ≡ Some 903) × (address_at (codes "0387") ≡ None) × (address_at (codes "003870") ≡ None) × (address_at (codes "0038A") ≡ None) × (address_at (codes "fffff:") ≡ Some 1048575) × (address_at (codes "00387f") ≡ None) × (address_at (codes "00387g") ≡ Some 903)
addresses = (refl, refl, refl, refl, refl, refl, refl)

-- a sign, a letter behind, the last number, and the one behind it
numbers : (number_at (codes "33") ≡ Some 33) × (number_at (codes "33,") ≡ Some 33) × (number_at (codes "-33") ≡ None) × (number_at (codes "33x") ≡ None) × (number_at (codes "33X") ≡ None) × (number_at [] ≡ None) × (number_at (codes "4294967295") ≡ Some 4294967295) × (number_at (codes "4294967296") ≡ None)
numbers = (refl, refl, refl, refl, refl, refl, refl, refl)

-- ---- lines

-- an address that a line begins with: with a place and without one, with no space behind it, with a sixth digit, and with an end of line
own : (line_told story (codes "00387 1 get_parent") ≡ codes "00387 1 get_parent (jetty.inf:120, JettyEnter)") × (line_told story (codes "00388 1 quit") ≡ codes "00388 1 quit") × (line_told story (codes "00387") ≡ codes "00387") × (line_told story (codes "003870 1 quit") ≡ codes "003870 1 quit") × (line_told story (codes "00387 1 quit\n") ≡ codes "00387 1 quit (jetty.inf:120, JettyEnter)\n")
own = (refl, refl, refl, refl, refl)

-- one behind `at`: with something behind it and without, without a place, with a sixth digit, and behind another word
behind_at : (line_told story (codes "refused: I5 at 00387: an operand\n") ≡ codes "refused: I5 at 00387 (jetty.inf:120, JettyEnter): an operand\n") × (line_told story (codes "fault: F6 at 00387") ≡ codes "fault: F6 at 00387 (jetty.inf:120, JettyEnter)") × (line_told story (codes "routine 3 at 00388, locals 2") ≡ codes "routine 3 at 00388, locals 2") × (line_told story (codes "at 00387f") ≡ codes "at 00387f") × (line_told story (codes "hat 00387") ≡ codes "hat 00387")
behind_at = (refl, refl, refl, refl, refl)

-- names of each kind, and numbers that have none, or are none
named : (line_told story (codes "global 33: 0 to 5") ≡ codes "noun (global 33): 0 to 5") × (line_told story (codes "of object 5, attribute 3") ≡ codes "of Lamp (object 5), light (attribute 3)") × (line_told story (codes "property 7") ≡ codes "n_to (property 7)")
    × (line_told story (codes "global 34") ≡ codes "global 34") × (line_told story (codes "global -33") ≡ codes "global -33") × (line_told story (codes "global 33x") ≡ codes "global 33x") × (line_told story (codes "global  33") ≡ codes "global  33") × (line_told story (codes "globals 33") ≡ codes "globals 33") × (line_told story (codes "global") ≡ codes "global")
unfolding names
named = (refl, refl, refl, refl, refl, refl, refl, refl, refl)

-- both in one line, a name behind a place, and the same word twice
both : (line_told story (codes "00387 1 get_parent global 33\n") ≡ codes "00387 1 get_parent noun (global 33) (jetty.inf:120, JettyEnter)\n") × (line_told story (codes "I5 at 00387 object 5") ≡ codes "I5 at 00387 (jetty.inf:120, JettyEnter) Lamp (object 5)") × (line_told story (codes "global global 33") ≡ codes "global noun (global 33)")
unfolding names
both = (refl, refl, refl)

-- ---- objects of JSON

-- the member of an address at the beginning, in the middle and at the end; without a place; with a sixth digit; with no text; and within a text
objects : (line_told story (codes "{\"address\":\"00387\",\"routine\":0}\n") ≡ codes "{\"address\":\"00387\",\"source\":{\"line\":120},\"routine\":0}\n") × (line_told story (codes "{\"code\":\"I5\",\"address\":\"00387\"}") ≡ codes "{\"code\":\"I5\",\"address\":\"00387\",\"source\":{\"line\":120}}") × (line_told story (codes "{\"address\":\"00388\"}") ≡ codes "{\"address\":\"00388\"}")
    × (line_told story (codes "{\"address\":\"003870\"}") ≡ codes "{\"address\":\"003870\"}") × (line_told story (codes "{\"address\":null}") ≡ codes "{\"address\":null}") × (line_told story (codes "{\"file\":\",\\\"address\\\":\\\"00387\\\"\"}") ≡ codes "{\"file\":\",\\\"address\\\":\\\"00387\\\"\"}")
objects = (refl, refl, refl, refl, refl, refl)

-- words and other addresses in an object stay as they are, and braces within a text
untold : (line_told story (codes "{\"text\":\"at 00387, global 33\"}") ≡ codes "{\"text\":\"at 00387, global 33\"}") × (line_told story (codes "{\"a\":{\"address\":\"00387\"}}") ≡ codes "{\"a\":{\"address\":\"00387\"}}") × (line_told story [] ≡ []) × (line_told story (codes "\n") ≡ codes "\n")
untold = (refl, refl, refl, refl)

-- ---- debug information

-- a global variable is told by the number that instructions have for it
abbrev said : Found
said = record nothing {
  sources = (0, codes "jetty.inf") ∷ [];
  routines = (16, record { length = 8; name = codes "JettyEnter" }) ∷ [];
  points = (17, record { file = 0; line = 120 }) ∷ [];
  globals = (134, codes "noun") ∷ [];
  first_global = Some 100;
}

known : (line_told (known_of said) (codes "fault: F6 at 00011") ≡ codes "fault: F6 at 00011 (jetty.inf:120, JettyEnter)") × (line_told (known_of said) (codes "routine 3 at 00010, locals 2") ≡ codes "routine 3 at 00010, locals 2") × (line_told (known_of said) (codes "global 33") ≡ codes "noun (global 33)") × (line_told (known_of said) (codes "{\"address\":\"00011\"}") ≡ codes "{\"address\":\"00011\",\"source\":{\"file\":\"jetty.inf\",\"line\":120,\"routine\":\"JettyEnter\"}}")
unfolding digits
known = (refl, refl, refl, refl)

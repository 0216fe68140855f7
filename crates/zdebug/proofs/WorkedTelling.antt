-- Values of the definitions, computed: what is told of an address and of a number, and of a file that is refused.
use Rattle.std.proofs.Common.{◌≡◌, ℕ, Bool, true, false, cond, List, [], ◌∷◌, None, Some, Ok, Err, length, refl, ap}
use Rattle.std.specs.Fmt.{digits}
use Rattle.std.specs.Prelude.{codes, nat_lt}
use Rattle.zdebug.specs.Records.{Found, nothing}
use Rattle.zdebug.specs.Reading.{file_reading, reading}
use Rattle.zdebug.specs.Refusal.{number_of}
use Rattle.zdebug.specs.Shown.{escaped, is_string, shown}
use Rattle.zdebug.specs.Telling.{name_text, source_object, source_text, spot_object, spot_text}
use Rattle.zdebug.specs.declared.error.DebugError.TheVariants as errors
use Rattle.zdebug.specs.declared.info.TheConstants.{FILE_LIMIT}
use Rattle.zdebug.specs.declared.naming.Named.TheVariants as kinds

-- ---- names

-- with a backslash, with bytes that aren't printed, with those of a code that clears a screen, and none
names : (shown (codes "JettyEnter") ≡ codes "JettyEnter") × (shown (92 ∷ 0 ∷ 32 ∷ 126 ∷ 127 ∷ 255 ∷ []) ≡ codes "\\x5c\\x00 ~\\x7f\\xff") × (shown (27 ∷ codes "[2J") ≡ codes "\\x1b[2J") × (shown [] ≡ [])
names = (refl, refl, refl, refl)

-- in a string of JSON: a quotation mark, a backslash, which is shown in four characters, and a byte that isn't ASCII
strings : (escaped (shown (codes "\"Basin\"")) ≡ codes "\\\"Basin\\\"") × (escaped (shown (92 ∷ [])) ≡ codes "\\\\x5c") × (escaped (shown (200 ∷ [])) ≡ codes "\\\\xc8") × (escaped (shown []) ≡ [])
strings = (refl, refl, refl, refl)

-- what a string of JSON can be, with both escapes; and with a bare quotation mark, another escape, an end behind a backslash, and a byte that isn't printed
quoted : (is_string false (codes "a\\\"b\\\\") ≡ true) × (is_string false (codes "a\"b") ≡ false) × (is_string false (codes "\\n") ≡ false) × (is_string false (codes "a\\") ≡ false) × (is_string false (10 ∷ []) ≡ false) × (is_string false [] ≡ true)
quoted = (refl, refl, refl, refl, refl, refl)

-- ---- places

spots : (spot_text (record { file = codes "jetty.inf"; line = 120; routine = codes "JettyEnter" }) ≡ codes "jetty.inf:120, JettyEnter") × (spot_text (record { file = 7 ∷ []; line = 4294967295; routine = 10 ∷ [] }) ≡ codes "\\x07:4294967295, \\x0a")
unfolding digits
spots = (refl, refl)

objects : (spot_object (record { file = codes "jetty.inf"; line = 120; routine = codes "JettyEnter" }) ≡ codes "{\"file\":\"jetty.inf\",\"line\":120,\"routine\":\"JettyEnter\"}") × (spot_object (record { file = 34 ∷ 92 ∷ []; line = 0; routine = 200 ∷ [] }) ≡ codes "{\"file\":\"\\\"\\\\x5c\",\"line\":0,\"routine\":\"\\\\xc8\"}")
unfolding digits
objects = (refl, refl)

abbrev said : Found
said = record nothing {
  sources = (0, codes "jetty.inf") ∷ [];
  routines = (16, record { length = 8; name = codes "JettyEnter" }) ∷ [];
  points = (17, record { file = 0; line = 120 }) ∷ [];
  objects = (5, codes "Pool") ∷ [];
  properties = (5, codes "depth") ∷ (7, 10 ∷ []) ∷ [];
  attributes = (0, codes "wet") ∷ (5, codes "deep") ∷ [];
  globals = (100, codes "first") ∷ (134, codes "noun") ∷ (578, codes "last") ∷ (580, codes "past") ∷ [];
  first_global = Some 100;
}

-- in front of the first point of its routine, at it, at the last byte, and behind
places : (source_text said 16 ≡ None) × (source_text said 17 ≡ Some (codes "jetty.inf:120, JettyEnter")) × (source_text said 23 ≡ Some (codes "jetty.inf:120, JettyEnter")) × (source_text said 24 ≡ None)
unfolding digits
places = (refl, refl, refl, refl)

objects_there : (source_object said 16 ≡ None) × (source_object said 23 ≡ Some (codes "{\"file\":\"jetty.inf\",\"line\":120,\"routine\":\"JettyEnter\"}"))
unfolding digits
objects_there = (refl, refl)

-- ---- names by numbers

-- the stack and a local, the first global, one in the middle, one without a name, the last, and one past it that has a record
variables : (name_text said kinds.Global 0 ≡ None) × (name_text said kinds.Global 15 ≡ None) × (name_text said kinds.Global 16 ≡ Some (codes "first")) × (name_text said kinds.Global 33 ≡ Some (codes "noun")) × (name_text said kinds.Global 34 ≡ None) × (name_text said kinds.Global 255 ≡ Some (codes "last")) × (name_text said kinds.Global 256 ≡ None)
variables = (refl, refl, refl, refl, refl, refl, refl)

-- one number of three kinds, a name that isn't printed, and numbers that nothing has
others : (name_text said kinds.Object 5 ≡ Some (codes "Pool")) × (name_text said kinds.Attribute 5 ≡ Some (codes "deep")) × (name_text said kinds.Property 5 ≡ Some (codes "depth")) × (name_text said kinds.Property 7 ≡ Some (codes "\\x0a")) × (name_text said kinds.Attribute 0 ≡ Some (codes "wet")) × (name_text said kinds.Object 0 ≡ None) × (name_text said kinds.Property 0 ≡ None)
others = (refl, refl, refl, refl, refl, refl, refl)

-- ---- files that are refused

limit : FILE_LIMIT ≡ 16777216
limit = refl

too_long : (bytes : List ℕ) → nat_lt 16777216 (length bytes) ≡ true → file_reading bytes ≡ Err errors.TooLong
too_long bytes h = ap (λ (b : Bool). cond b (Err errors.TooLong) (reading bytes)) h

short : (file_reading [] ≡ Err errors.NotDebug) × (file_reading (codes "<inform-story-file version=\"1.0\"/>") ≡ Ok nothing)
short = (refl, refl)

numbers : (number_of errors.TooLong ≡ 1) × (number_of errors.NotDebug ≡ 2) × (number_of errors.Incomplete ≡ 9) × (number_of errors.OutOfMemory ≡ 10)
numbers = (refl, refl, refl, refl)

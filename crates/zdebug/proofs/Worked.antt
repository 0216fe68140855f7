-- Values of the definitions, computed: of bytes, texts, numbers, tags and elements.
use Rattle.std.proofs.Common.{◌≡◌, ℕ, Bool, true, false, List, [], ◌∷◌, None, Some, Result, Ok, Err, refl}
use Rattle.std.specs.Prelude.{codes}
use Rattle.zdebug.specs.declared.error.DebugError.{DebugError}
use Rattle.zdebug.specs.declared.error.DebugError.TheVariants as errors
use Rattle.zdebug.specs.declared.element.Element.TheVariants as elements
use Rattle.zdebug.specs.Steps.{◌>>=◌, Answers, Leads, Refuses, need, part}
use Rattle.zdebug.specs.Cutting.{before, behind, cut, is_blank, parts, unblanked}
use Rattle.zdebug.specs.Words.{entity, is_digit, number_of, text_of}
use Rattle.zdebug.specs.Elements.{inside}
use Rattle.zdebug.specs.Reading.{attribute, is_known, is_whole, name_of}

-- ---- bytes

blanks : (is_blank 32 ≡ true) × (is_blank 9 ≡ true) × (is_blank 10 ≡ true) × (is_blank 13 ≡ true) × (is_blank 0 ≡ false) × (is_blank 8 ≡ false) × (is_blank 11 ≡ false) × (is_blank 12 ≡ false) × (is_blank 14 ≡ false) × (is_blank 31 ≡ false) × (is_blank 33 ≡ false) × (is_blank 160 ≡ false)
blanks = (refl, refl, refl, refl, refl, refl, refl, refl, refl, refl, refl, refl)

fronts : (unblanked (9 ∷ codes " \r\na b ") ≡ codes "a b ") × (unblanked (codes "  ") ≡ []) × (unblanked [] ≡ [])
fronts = (refl, refl, refl)

cuts : (cut 61 (codes "a=b=c") ≡ Some (codes "a", codes "b=c")) × (cut 61 (codes "=") ≡ Some ([], [])) × (cut 61 (codes "abc") ≡ None) × (cut 61 [] ≡ None)
cuts = (refl, refl, refl, refl)

sides : (before 61 (codes "a=b=c") ≡ codes "a") × (behind 61 (codes "a=b=c") ≡ codes "b=c") × (before 61 (codes "abc") ≡ codes "abc") × (behind 61 (codes "abc") ≡ [])
sides = (refl, refl, refl, refl)

all_parts : (parts 61 (codes "a==b") ≡ codes "a" ∷ [] ∷ codes "b" ∷ []) × (parts 61 (codes "=a") ≡ [] ∷ codes "a" ∷ []) × (parts 61 (codes "abc") ≡ codes "abc" ∷ []) × (parts 61 [] ≡ [] ∷ [])
all_parts = (refl, refl, refl, refl)

-- ---- numbers

digits : (is_digit 48 ≡ true) × (is_digit 57 ≡ true) × (is_digit 47 ≡ false) × (is_digit 58 ≡ false)
digits = (refl, refl, refl, refl)

numbers : (number_of (codes "0") ≡ Ok 0) × (number_of (codes "1290") ≡ Ok 1290) × (number_of (codes "      684") ≡ Ok 684) × (number_of (9 ∷ codes "\n\r007") ≡ Ok 7)
numbers = (refl, refl, refl, refl)

-- below 2 ^ 32
greatest : (number_of (codes "4294967295") ≡ Ok 4294967295) × (number_of (codes "4294967296") ≡ Err errors.NotNumber) × (number_of (codes "42949672950") ≡ Err errors.NotNumber) × (number_of (codes "99999999999999999999999") ≡ Err errors.NotNumber)
greatest = (refl, refl, refl, refl)

no_numbers : (number_of [] ≡ Err errors.NotNumber) × (number_of (codes "  ") ≡ Err errors.NotNumber) × (number_of (codes "1/") ≡ Err errors.NotNumber) × (number_of (codes "1:") ≡ Err errors.NotNumber) × (number_of (codes "-1") ≡ Err errors.NotNumber) × (number_of (codes "+1") ≡ Err errors.NotNumber) × (number_of (codes "1 ") ≡ Err errors.NotNumber) × (number_of (codes "1 2") ≡ Err errors.NotNumber) × (number_of (codes "0x1") ≡ Err errors.NotNumber) × (number_of (codes "$10") ≡ Err errors.NotNumber)
no_numbers = (refl, refl, refl, refl, refl, refl, refl, refl, refl, refl)

-- ---- texts

entities : (entity (codes "amp") ≡ Ok 38) × (entity (codes "lt") ≡ Ok 60) × (entity (codes "gt") ≡ Ok 62) × (entity (codes "quot") ≡ Ok 34) × (entity (codes "apos") ≡ Ok 39) × (entity [] ≡ Err errors.Entity) × (entity (codes "AMP") ≡ Err errors.Entity) × (entity (codes "am") ≡ Err errors.Entity) × (entity (codes "#38") ≡ Err errors.Entity)
entities = (refl, refl, refl, refl, refl, refl, refl, refl, refl)

texts : (text_of (codes "a;b c") ≡ Ok (codes "a;b c")) × (text_of (codes "a&lt;b&gt;;&amp;&quot;c&apos;") ≡ Ok (codes "a<b>;&\"c'")) × (text_of (codes "&amp;lt;") ≡ Ok (codes "&lt;")) × (text_of [] ≡ Ok [])
texts = (refl, refl, refl, refl)

no_texts : (text_of (codes "a&b;") ≡ Err errors.Entity) × (text_of (codes "a&amp") ≡ Err errors.Entity) × (text_of (codes "a&") ≡ Err errors.Entity) × (text_of (codes "&;") ≡ Err errors.Entity) × (text_of (codes "&amp;&lt&gt;") ≡ Err errors.Entity)
no_texts = (refl, refl, refl, refl, refl)

-- ---- tags

names : (name_of (codes "given-path") ≡ codes "given-path") × (name_of (codes "source index=\"0\"") ≡ codes "source") × (name_of (codes "a\nb") ≡ codes "a") × (name_of (codes "a/") ≡ codes "a") × (name_of (codes "a:b_1.c") ≡ codes "a:b_1.c") × (name_of (codes " a") ≡ []) × (name_of [] ≡ [])
names = (refl, refl, refl, refl, refl, refl, refl)

wholes : (is_whole (codes "a/") ≡ true) × (is_whole (codes "a b=\"1\" /") ≡ true) × (is_whole (codes "a") ≡ false) × (is_whole (codes "a/ ") ≡ false) × (is_whole (codes "a/b") ≡ false) × (is_whole [] ≡ false)
wholes = (refl, refl, refl, refl, refl, refl)

attributes : (attribute (codes " b=") (codes "a b=\"1\"") ≡ Some (codes "1")) × (attribute (codes " c=") (codes "a b=\"1\" c=\"23\"/") ≡ Some (codes "23")) × (attribute (codes " b=") (codes "a b=\"\"") ≡ Some []) × (attribute (codes " b=") (codes "a b=\"1\" b=\"2\"") ≡ Some (codes "1"))
attributes = (refl, refl, refl, refl)

-- another name, one of which only the end is the same, none, and what stands in the value of another
no_attributes : (attribute (codes " b=") (codes "a c=\"1\"") ≡ None) × (attribute (codes " b=") (codes "a xb=\"1\"") ≡ None) × (attribute (codes " b=") (codes "a b=1") ≡ None) × (attribute (codes " b=") (codes "a b='1'") ≡ None) × (attribute (codes " b=") (codes "a c=\" b=\" d=\"1\"") ≡ None) × (attribute (codes " b=") (codes "a") ≡ None)
no_attributes = (refl, refl, refl, refl, refl, refl)

versions : (is_known (Some (codes "1.0")) ≡ true) × (is_known (Some (codes "1.1")) ≡ true) × (is_known (Some (codes "1.2")) ≡ false) × (is_known (Some (codes "0.9")) ≡ false) × (is_known (Some (codes "1")) ≡ false) × (is_known (Some (codes "1.00")) ≡ false) × (is_known (Some []) ≡ false) × (is_known None ≡ false)
versions = (refl, refl, refl, refl, refl, refl, refl, refl)

-- ---- elements

of_the_story : (inside elements.Story (codes "source") ≡ elements.Source) × (inside elements.Story (codes "routine") ≡ elements.Routine) × (inside elements.Story (codes "object") ≡ elements.Object) × (inside elements.Story (codes "class") ≡ elements.Object) × (inside elements.Story (codes "property") ≡ elements.Property) × (inside elements.Story (codes "attribute") ≡ elements.Attribute) × (inside elements.Story (codes "global-variable") ≡ elements.Global) × (inside elements.Story (codes "story-file-section") ≡ elements.Section)
of_the_story = (refl, refl, refl, refl, refl, refl, refl, refl)

others_of_the_story : (inside elements.Story (codes "constant") ≡ elements.Other) × (inside elements.Story (codes "array") ≡ elements.Other) × (inside elements.Story (codes "identifier") ≡ elements.Other) × (inside elements.Story (codes "story-file-prefix") ≡ elements.Other) × (inside elements.Story (codes "inform-story-file") ≡ elements.Other) × (inside elements.Story (codes "Source") ≡ elements.Other) × (inside elements.Story [] ≡ elements.Other)
others_of_the_story = (refl, refl, refl, refl, refl, refl, refl)

of_a_source : (inside elements.Source (codes "given-path") ≡ elements.Name) × (inside elements.Source (codes "resolved-path") ≡ elements.Other) × (inside elements.Source (codes "language") ≡ elements.Other) × (inside elements.Source (codes "index") ≡ elements.Other)
of_a_source = (refl, refl, refl, refl)

-- the value of a routine is its packed address
of_a_routine : (inside elements.Routine (codes "identifier") ≡ elements.Name) × (inside elements.Routine (codes "address") ≡ elements.Number) × (inside elements.Routine (codes "byte-count") ≡ elements.Length) × (inside elements.Routine (codes "sequence-point") ≡ elements.Point) × (inside elements.Routine (codes "value") ≡ elements.Other) × (inside elements.Routine (codes "local-variable") ≡ elements.Other) × (inside elements.Routine (codes "source-code-location") ≡ elements.Other)
of_a_routine = (refl, refl, refl, refl, refl, refl, refl)

of_a_point : (inside elements.Point (codes "address") ≡ elements.Address) × (inside elements.Point (codes "source-code-location") ≡ elements.Location) × (inside elements.Point (codes "line") ≡ elements.Other) × (inside elements.Location (codes "file-index") ≡ elements.File) × (inside elements.Location (codes "line") ≡ elements.Line) × (inside elements.Location (codes "end-line") ≡ elements.Other) × (inside elements.Location (codes "character") ≡ elements.Other) × (inside elements.Location (codes "file-position") ≡ elements.Other) × (inside elements.Location (codes "address") ≡ elements.Other)
of_a_point = (refl, refl, refl, refl, refl, refl, refl, refl, refl)

of_an_object : (inside elements.Object (codes "identifier") ≡ elements.Name) × (inside elements.Object (codes "value") ≡ elements.Number) × (inside elements.Object (codes "class-number") ≡ elements.Other) × (inside elements.Object (codes "address") ≡ elements.Other) × (inside elements.Object (codes "source-code-location") ≡ elements.Other)
of_an_object = (refl, refl, refl, refl, refl)

of_a_property : (inside elements.Property (codes "identifier") ≡ elements.Name) × (inside elements.Property (codes "value") ≡ elements.Number) × (inside elements.Property (codes "address") ≡ elements.Other) × (inside elements.Attribute (codes "identifier") ≡ elements.Name) × (inside elements.Attribute (codes "value") ≡ elements.Number) × (inside elements.Attribute (codes "address") ≡ elements.Other)
of_a_property = (refl, refl, refl, refl, refl, refl)

of_a_global : (inside elements.Global (codes "identifier") ≡ elements.Name) × (inside elements.Global (codes "address") ≡ elements.Number) × (inside elements.Global (codes "value") ≡ elements.Other) × (inside elements.Section (codes "type") ≡ elements.Name) × (inside elements.Section (codes "address") ≡ elements.Number) × (inside elements.Section (codes "end-address") ≡ elements.Other) × (inside elements.Section (codes "identifier") ≡ elements.Other)
of_a_global = (refl, refl, refl, refl, refl, refl, refl)

-- nothing is read within what is passed over, or within a text
within_others : (inside elements.Other (codes "routine") ≡ elements.Other) × (inside elements.Other (codes "identifier") ≡ elements.Other) × (inside elements.Name (codes "identifier") ≡ elements.Other) × (inside elements.Number (codes "value") ≡ elements.Other) × (inside elements.Length (codes "address") ≡ elements.Other) × (inside elements.Address (codes "address") ≡ elements.Other) × (inside elements.File (codes "line") ≡ elements.Other) × (inside elements.Line (codes "line") ≡ elements.Other)
within_others = (refl, refl, refl, refl, refl, refl, refl, refl)

-- ---- answers

needs : (need true errors.Tag ≡ Ok tt) × (need false errors.Tag ≡ Err errors.Tag) × (part {A = ℕ} (Some 3) ≡ Ok 3) × (part {A = ℕ} None ≡ Err errors.Incomplete)
needs = (refl, refl, refl, refl)

abbrev then_listed : Result ℕ DebugError → Result (List ℕ) DebugError
then_listed r = r >>= (λ n. Ok (n ∷ []))

abbrev then_refused : Result ℕ DebugError → Result ℕ DebugError
then_refused r = r >>= (λ n. Err errors.Tag)

steps : (then_listed (Ok 1) ≡ Ok (1 ∷ [])) × (then_listed (Err errors.Entity) ≡ Err errors.Entity) × (then_refused (Ok 1) ≡ Err errors.Tag) × (then_refused (Err errors.Entity) ≡ Err errors.Entity)
steps = (refl, refl, refl, refl)

-- each error is the one that is due, but for want of memory
refused : Refuses {Y = ℕ} errors.Tag (Err errors.Tag) × (Refuses {Y = ℕ} errors.Tag (Err errors.Entity) → ⊥) × Refuses {Y = ℕ} errors.OutOfMemory (Ok 1) × Refuses {Y = ℕ} errors.OutOfMemory (Err errors.Tag)
refused = (refl, λ h. cc, tt, tt)

none_refused : (Refuses {Y = Bool} errors.TooLong (Ok true) → ⊥) × (Refuses {Y = Bool} errors.NotDebug (Ok true) → ⊥) × (Refuses {Y = Bool} errors.Version (Ok true) → ⊥) × (Refuses {Y = Bool} errors.Tag (Ok true) → ⊥) × (Refuses {Y = Bool} errors.Misplaced (Ok true) → ⊥) × (Refuses {Y = Bool} errors.Unclosed (Ok true) → ⊥) × (Refuses {Y = Bool} errors.NotNumber (Ok true) → ⊥) × (Refuses {Y = Bool} errors.Entity (Ok true) → ⊥) × (Refuses {Y = Bool} errors.Incomplete (Ok true) → ⊥)
none_refused = (λ h. cc, λ h. cc, λ h. cc, λ h. cc, λ h. cc, λ h. cc, λ h. cc, λ h. cc, λ h. cc)

answered : Answers {X = Bool} {Y = Bool} (λ b. b) (Ok true) (Ok true) × (Answers {X = Bool} {Y = Bool} (λ b. b) (Ok true) (Ok false) → ⊥) × (Answers {X = Bool} {Y = Bool} (λ b. b) (Ok true) (Err errors.Tag) → ⊥) × (Answers {X = Bool} {Y = Bool} (λ b. b) (Err errors.Tag) (Ok true) → ⊥)
answered = (refl, λ h. cc, λ h. cc, λ h. cc)

led : Leads {U = ℕ} {Y = Bool} true (Ok 5) (Ok true) × (Leads {U = ℕ} {Y = Bool} true (Ok 5) (Ok false) → ⊥) × (Leads {U = ℕ} {Y = Bool} true (Ok 5) (Err errors.Tag) → ⊥) × (Leads {U = ℕ} {Y = Bool} true (Err errors.Tag) (Ok true) → ⊥)
led = (refl, λ h. cc, λ h. cc, λ h. cc)

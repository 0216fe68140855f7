-- Values of the definitions, computed: of files.
use Rattle.std.proofs.Common.{◌≡◌, ℕ, List, [], ◌∷◌, ◌++◌, Some, Ok, Err, refl}
use Rattle.std.specs.Prelude.{codes}
use Rattle.zdebug.specs.declared.error.DebugError.TheVariants as errors
use Rattle.zdebug.specs.Records.{Found, nothing}
use Rattle.zdebug.specs.Reading.{read_parts, reading}

-- ---- a small file

abbrev story : List ℕ → List ℕ
story inner = codes "<inform-story-file version=\"1.0\">" ++ inner ++ codes "</inform-story-file>"

abbrev head : List ℕ
head = codes "<?xml version=\"1.0\" encoding=\"UTF-8\"?>\n<inform-story-file version=\"1.0\" content-creator=\"Inform\">"

abbrev source : List ℕ
source = codes "<source index=\"1\"><given-path>a&amp;b.inf</given-path><language>Inform 6</language></source>"

abbrev main_routine : List ℕ
main_routine =
    codes "<routine><identifier>Main</identifier><address>   16</address><value>7</value><byte-count>8</byte-count>"
    ++ codes "<source-code-location><file-index>9</file-index><line>9</line></source-code-location><local-variable><identifier>x</identifier></local-variable>"
    ++ codes "<sequence-point><address>17</address><source-code-location><file-index>1</file-index><line>3</line><character>2</character></source-code-location></sequence-point>"
    ++ codes "<sequence-point><address>20</address><source-code-location><file-index>1</file-index><line>5</line></source-code-location></sequence-point></routine>"

-- one that was left out, and one with a point of another file at the address of a point before it
abbrev routines : List ℕ
routines =
    codes "<routine><identifier>Gone</identifier><address>0</address><byte-count>40</byte-count></routine>"
    ++ codes "<routine><identifier artificial=\"true\">b.c</identifier><address>24</address><byte-count>4</byte-count>"
    ++ codes "<sequence-point><source-code-location><line>6</line><file-index>2</file-index></source-code-location><address>20</address></sequence-point></routine>"

abbrev names : List ℕ
names =
    codes "<object><identifier>a&lt;b</identifier><value>5</value></object>\n<class ><identifier>Class</identifier><class-number>0</class-number><value>1</value></class>"
    ++ codes "<property><identifier>name</identifier><value>1</value></property><attribute><identifier>lit</identifier><value>0</value></attribute>"
    ++ codes "<constant><identifier>X</identifier><value>-1</value></constant><empty a=\"/\"/>"

abbrev globals : List ℕ
globals =
    codes "<global-variable><identifier>glob</identifier><address>102</address></global-variable><global-variable><identifier>noun</identifier><address>102</address></global-variable>"
    ++ codes "<story-file-section><type>header</type><address>0</address><end-address>64</end-address></story-file-section>"
    ++ codes "<story-file-section><type>global variables</type><address>100</address><end-address>580</end-address></story-file-section>"
    ++ codes "<story-file-section><type>array space</type><address>580</address></story-file-section>"

abbrev small : List ℕ
small = head ++ source ++ main_routine ++ routines ++ names ++ globals ++ codes "</inform-story-file>\n"

abbrev said : Found
said = record {
  sources = (1, codes "a&b.inf") ∷ [];
  routines = (16, record { length = 8; name = codes "Main" }) ∷ (24, record { length = 4; name = codes "b.c" }) ∷ [];
  points = (17, record { file = 1; line = 3 }) ∷ (20, record { file = 2; line = 6 }) ∷ [];
  objects = (1, codes "Class") ∷ (5, codes "a<b") ∷ [];
  properties = (1, codes "name") ∷ [];
  attributes = (0, codes "lit") ∷ [];
  globals = (102, codes "noun") ∷ [];
  first_global = Some 100;
}

small_says : reading small ≡ Ok said
small_says = refl

-- ---- the outermost element

with_nothing : (reading (story []) ≡ Ok nothing) × (reading (codes "<inform-story-file version=\"1.1\"/>") ≡ Ok nothing) × (reading (9 ∷ codes " \r\n<inform-story-file a=\"b\" version=\"1.0\"\n></inform-story-file><?x?>") ≡ Ok nothing)
with_nothing = (refl, refl, refl)

not_debug : (reading [] ≡ Err errors.NotDebug) × (reading (codes " \n") ≡ Err errors.NotDebug) × (reading (codes "abc") ≡ Err errors.NotDebug) × (reading (codes "x" ++ story []) ≡ Err errors.NotDebug) × (reading (codes "<?xml?>") ≡ Err errors.NotDebug) × (reading (codes "<html>") ≡ Err errors.NotDebug) × (reading (codes "<source version=\"1.0\"/>") ≡ Err errors.NotDebug)
not_debug = (refl, refl, refl, refl, refl, refl, refl)

versions : (reading (codes "<inform-story-file version=\"1.2\"/>") ≡ Err errors.Version) × (reading (codes "<inform-story-file>") ≡ Err errors.Version) × (reading (codes "<inform-story-file content-version=\"1.0\">") ≡ Err errors.Version)
versions = (refl, refl, refl)

-- a file has one part at least: without any it would be refused
no_parts : read_parts [] ≡ Err errors.NotDebug
no_parts = refl

-- ---- tags

tags : (reading (codes "<>" ++ story []) ≡ Err errors.Tag) × (reading (codes "<!-- x -->" ++ story []) ≡ Err errors.Tag) × (reading (story (codes "< a/>")) ≡ Err errors.Tag) × (reading (story (codes "<a<b/>")) ≡ Err errors.Tag) × (reading (codes "<inform-story-file version=\"1.0\"") ≡ Err errors.Tag) × (reading (codes "<") ≡ Err errors.Tag)
tags = (refl, refl, refl, refl, refl, refl)

misplaced : (reading (codes "</a>") ≡ Err errors.Misplaced) × (reading (story (codes "</>")) ≡ Err errors.Misplaced) × (reading (story (codes "<a><b></a></b>")) ≡ Err errors.Misplaced) × (reading (story [] ++ codes "<a/>") ≡ Err errors.Misplaced) × (reading (story [] ++ story []) ≡ Err errors.Misplaced) × (reading (story [] ++ codes "</inform-story-file>") ≡ Err errors.Misplaced)
misplaced = (refl, refl, refl, refl, refl, refl)

unclosed : (reading (codes "<inform-story-file version=\"1.0\">") ≡ Err errors.Unclosed) × (reading (codes "<inform-story-file version=\"1.0\"><a>") ≡ Err errors.Unclosed)
unclosed = (refl, refl)

ends : (reading (story (codes "<a></a ><b></b c><d/>")) ≡ Ok nothing) × (reading (story (codes "<?b></b>")) ≡ Err errors.Misplaced)
ends = (refl, refl)

-- what is passed over has to be closed in its order, and nothing of it is read
passed_over : (reading (story (codes "<verb><a b=\"c\"/><object><identifier>&</identifier><value>x</value></object></verb>")) ≡ Ok nothing) × (reading (story (codes "<verb></identifier></verb>")) ≡ Err errors.Misplaced)
passed_over = (refl, refl)

-- the first thing that is wrong is told
first_told : (reading (story (codes "</b><")) ≡ Err errors.Misplaced) × (reading (story (codes "< ></b>")) ≡ Err errors.Tag) × (reading (codes "x<!>") ≡ Err errors.NotDebug) × (reading (codes "<inform-story-file version=\"1.0\"><object></object>") ≡ Err errors.Incomplete)
first_told = (refl, refl, refl, refl)

-- ---- records

incomplete : (reading (story (codes "<object><identifier>a</identifier></object>")) ≡ Err errors.Incomplete) × (reading (story (codes "<object><identifier></identifier><value>1</value></object>")) ≡ Err errors.Incomplete) × (reading (story (codes "<object index=\"1\"><identifier>a</identifier></object>")) ≡ Err errors.Incomplete) × (reading (story (codes "<source><given-path>a</given-path></source>")) ≡ Err errors.Incomplete) × (reading (story (codes "<routine><identifier>a</identifier><address>1</address></routine>")) ≡ Err errors.Incomplete)
incomplete = (refl, refl, refl, refl, refl)

-- nothing is left of a record before, nor of a sequence point before, nor of the place of a routine itself
forgotten : (reading (story (codes "<object><identifier>a</identifier><value>1</value></object><object><value>2</value></object>")) ≡ Err errors.Incomplete) × (reading (story (codes "<object><identifier>a</identifier><value>1</value></object><object><identifier>b</identifier></object>")) ≡ Err errors.Incomplete) × (reading (story (codes "<routine><source-code-location><file-index>1</file-index><line>1</line></source-code-location><sequence-point><address>1</address></sequence-point></routine>")) ≡ Err errors.Incomplete)
forgotten = (refl, refl, refl)

-- the text of an element is what stands behind the last tag in it
last_text : (reading (story (codes "<object><identifier>a<b/>c</identifier><value>1</value></object>")) ≡ Ok (record nothing { objects = (1, codes "c") ∷ [] })) × (reading (story (codes "<object><identifier>a</identifier>1<value/></object>")) ≡ Err errors.NotNumber) × (reading (story (codes "<object><value>2<value></value></value><identifier>a</identifier></object>")) ≡ Err errors.NotNumber)
last_text = (refl, refl, refl)

-- the last one in a record counts
twice : reading (story (codes "<object><identifier>a</identifier><value>1</value><identifier>b</identifier><value>2</value></object>")) ≡ Ok (record nothing { objects = (2, codes "b") ∷ [] })
twice = refl

wrong_words : (reading (story (codes "<object><identifier>a&b;</identifier><value>1</value></object>")) ≡ Err errors.Entity) × (reading (story (codes "<object><identifier>a</identifier><value>1 </value></object>")) ≡ Err errors.NotNumber) × (reading (story (codes "<source index=\"a\"><given-path>a</given-path></source>")) ≡ Err errors.NotNumber)
wrong_words = (refl, refl, refl)

-- Values of the definitions, computed.
use Rattle.std.proofs.Common.{◌≡◌, ◌∙◌, List, ℕ, [], ◌∷◌, ◌++◌, ap, codes, true, refl}
use Rattle.std.specs.Borrow.{Bor}
use Rattle.std.specs.Fmt.{digits}
use Rattle.std.specs.Prelude.{false, Some, None}
use Rattle.json.specs.Json.{boolean, null, string}
use Rattle.json.specs.Print.{print_from, escape_byte}
use Rattle.zjson.specs.Answers.{listed_line, verdict_line}
use Rattle.zjson.specs.Objects.{line_of, number}

-- no member
empty : line_of [] ≡ codes "{}" ++ 10 ∷ []
unfolding print_from
empty = refl

-- a text with a quotation mark, an end of line and a character of two bytes, and each other kind of value, in the order of members
all : line_of ((codes "file", string (97 ∷ 34 ∷ 10 ∷ 195 ∷ 169 ∷ [])) ∷ (codes "release", number 88) ∷ (codes "right", boolean true) ∷ (codes "code", null) ∷ [])
    ≡ codes "{\"file\":\"a\\\"\\n" ++ 195 ∷ 169 ∷ codes "\",\"release\":88,\"right\":true,\"code\":null}" ++ 10 ∷ []
unfolding print_from escape_byte digits
all = refl

-- an instruction that is marked, and one that isn't, and isn't there
marks :
    (listed_line (codes "00387") 7 (Some (codes "get_parent")) true (Some (codes "I5")) ≡ codes "{\"address\":\"00387\",\"routine\":7,\"opcode\":\"get_parent\",\"marked\":true,\"rule\":\"I5\"}" ++ 10 ∷ [])
    × (listed_line (codes "00387") 7 None false None ≡ codes "{\"address\":\"00387\",\"routine\":7,\"opcode\":null,\"marked\":false,\"rule\":null}" ++ 10 ∷ [])
unfolding print_from escape_byte digits
marks = (refl, refl)

-- a story of release 88 that is refused at an instruction, of a file that couldn't be digested
refused : List ℕ → List ℕ → List ℕ → List ℕ
refused file outcome code =
    line_of
    ((codes "file", string file) ∷ (codes "sha256", null) ∷ (codes "release", number 88) ∷ (codes "serial", null) ∷ (codes "checksum", number 41257) ∷ (codes "outcome", string outcome) ∷ (codes "marks", null)
    ∷ (codes "code", string code) ∷ (codes "address", null) ∷ (codes "text", null) ∷ [])

verdict : (file outcome code : Bor (List ℕ)) → file.now ≡ codes "a.z3" → outcome.now ≡ codes "refused" → code.now ≡ codes "I5"
    → verdict_line (record { file = file; digest = None; release = Some 88; serial = None; checksum = Some 41257; outcome = outcome; marks = None; code = Some code; address = None; text = None })
    ≡ codes "{\"file\":\"a.z3\",\"sha256\":null,\"release\":88,\"serial\":null,\"checksum\":41257,\"outcome\":\"refused\",\"marks\":null,\"code\":\"I5\",\"address\":null,\"text\":null}" ++ 10 ∷ []
unfolding print_from escape_byte digits refused
verdict file outcome code first second third =
    ap (λ (t : List ℕ). refused t outcome.now code.now) first ∙ ap (λ (t : List ℕ). refused (codes "a.z3") t code.now) second ∙ ap (λ (t : List ℕ). refused (codes "a.z3") (codes "refused") t) third

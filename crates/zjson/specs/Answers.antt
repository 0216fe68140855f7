-- The objects that the commands answer with (own).
use Rattle.std.specs.Prelude.{ℕ, Bool, List, [], ◌∷◌, Option, option_map, codes}
use Rattle.json.specs.Json.{boolean, string}
use Rattle.zjson.specs.Objects.{Pair, line_of, number, number_or_null, text_or_null}
use Rattle.zjson.specs.declared.answers.Verdict.{Verdict}

-- what came of a file
abbrev pub verdict_pairs : Verdict → List Pair
verdict_pairs verdict =
    (codes "file", string verdict.file.now) ∷ (codes "sha256", text_or_null (option_map (λ text. text.now) verdict.digest))
    ∷ (codes "release", number_or_null verdict.release) ∷ (codes "serial", text_or_null (option_map (λ text. text.now) verdict.serial)) ∷ (codes "checksum", number_or_null verdict.checksum)
    ∷ (codes "outcome", string verdict.outcome.now) ∷ (codes "marks", number_or_null verdict.marks) ∷ (codes "code", text_or_null (option_map (λ text. text.now) verdict.code))
    ∷ (codes "address", text_or_null (option_map (λ text. text.now) verdict.address)) ∷ (codes "text", text_or_null (option_map (λ text. text.now) verdict.text)) ∷ []

abbrev pub verdict_line : Verdict → List ℕ
verdict_line verdict = line_of (verdict_pairs verdict)

-- an instruction that a certificate lists
abbrev pub listed_line : List ℕ → ℕ → Option (List ℕ) → Bool → Option (List ℕ) → List ℕ
listed_line address routine opcode marked rule =
    line_of ((codes "address", string address) ∷ (codes "routine", number routine) ∷ (codes "opcode", text_or_null opcode) ∷ (codes "marked", boolean marked) ∷ (codes "rule", text_or_null rule) ∷ [])

-- a listed instruction
abbrev pub instruction_line : List ℕ → ℕ → List ℕ → List ℕ
instruction_line address routine opcode = line_of ((codes "address", string address) ∷ (codes "routine", number routine) ∷ (codes "opcode", string opcode) ∷ [])

-- what a code means
abbrev pub explained_line : List ℕ → List ℕ → List ℕ
explained_line code text = line_of ((codes "code", string code) ∷ (codes "text", string text) ∷ [])

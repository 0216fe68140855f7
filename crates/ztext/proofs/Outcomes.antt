-- What the outcome of decoding says of a text's output.
use Rattle.std.proofs.Common.{◌≡◌, ℕ, ◌+◌, ◌<◌, ◌↔◌, Bool, true, false, List, ◌++◌, length, take, Option, Some, None, option_map, if◌then◌else◌, Result, Ok, Err, refl, sym, ◌∙◌}
use Rattle.std.specs.Prelude.{IsErrOf, IsOk, IsOkAnd}
use Rattle.std.specs.Option.{ok_or}
use Rattle.std.proofs.Math.Seq.{take-append_seam}
use Rattle.ztext.specs.declared.error.TextError.{TextError}
use Rattle.ztext.specs.declared.error.TextError.TheVariants.{Outside, NestedAbbreviation, OutOfMemory}
use Rattle.ztext.specs.declared.pieces.Piece.{Piece}
use Rattle.ztext.specs.Words.{text_at, characters_in}
use Rattle.ztext.specs.Pieces.{pieces_of}
use Rattle.ztext.specs.Output.{output_of, output_of_characters, output_at}
use Rattle.ztext.specs.Progress.{all_joined, piece_output, memory_use, characters_printed, error_of, IsStopped, IsWritten}
use Rattle.ztext.proofs.Printed.{output_of_characters-joined}

pub output_at-none : (memory : List ℕ) (at : ℕ) → text_at memory at ≡ None → output_at memory at ≡ Err Outside
unfolding output_at
output_at-none memory at e = rw (e, output_at) refl

output_at-characters : (memory : List ℕ) (at : ℕ) (text : List ℕ) → text_at memory at ≡ Some text → output_at memory at ≡ output_of_characters memory (characters_in text)
unfolding output_at
output_at-characters memory at text e = rw (e, output_at) refl

pub output_at-some : (memory : List ℕ) (at : ℕ) (text : List ℕ) → text_at memory at ≡ Some text → output_at memory at ≡ all_joined (piece_output memory) (pieces_of (characters_in text))
output_at-some memory at text e = output_at-characters memory at text e ∙ output_of_characters-joined memory (characters_in text)

abbrev error : TextError → Result ℕ TextError
error e = Err e

abbrev answer : ℕ → Result ℕ TextError
answer size = Ok size

-- all was written
pub appended_since : (capacity : ℕ) (old new : List ℕ) (u : Unit {0}) (output : Result (List ℕ) TextError) → IsWritten capacity old new (Some u) output → IsOkAnd output (λ out. new ≡ old ++ out)
unfolding IsWritten
appended_since capacity old new u output h = rw h.1 h.2

pub not_outside_since : (capacity : ℕ) (old new : List ℕ) (size : ℕ) (u : Unit {0}) (output : Result (List ℕ) TextError) → IsWritten capacity old new (Some u) output → IsErrOf (answer size) Outside ↔ IsErrOf output Outside
unfolding IsWritten
not_outside_since capacity old new size u output h = let f = h.1 in (λ g. absurd cc, λ g. absurd cc)

pub not_nested_since : (capacity : ℕ) (old new : List ℕ) (size : ℕ) (u : Unit {0}) (output : Result (List ℕ) TextError) → IsWritten capacity old new (Some u) output → IsErrOf (answer size) NestedAbbreviation ↔ IsErrOf output NestedAbbreviation
unfolding IsWritten
not_nested_since capacity old new size u output h = let f = h.1 in (λ g. absurd cc, λ g. absurd cc)

-- writing has stopped
pub front_since : (capacity : ℕ) (old : List ℕ) (size : ℕ) (new cut : List ℕ) (output : Result (List ℕ) TextError) → size ≡ length old → cut ≡ take size new → IsWritten capacity old new None output → cut ≡ old
unfolding IsWritten IsStopped
front_since capacity old size new cut output s t h = rw (t, s, h.0.1) (take-append_seam old h.0.0)

pub outside_since : (e : TextError) (output : Result (List ℕ) TextError) → e ≡ error_of output → IsErrOf (error e) Outside ↔ IsErrOf output Outside
outside_since e (Ok out) is = (λ g. absurd cc, λ g. absurd cc)
outside_since e (Err d) is = rw is (λ g. let same : d ≡ Outside = cc in rw same refl, λ g. let same : d ≡ Outside = cc in rw same refl)

pub nested_since : (e : TextError) (output : Result (List ℕ) TextError) → e ≡ error_of output → IsErrOf (error e) NestedAbbreviation ↔ IsErrOf output NestedAbbreviation
nested_since e (Ok out) is = (λ g. absurd cc, λ g. absurd cc)
nested_since e (Err d) is = rw is (λ g. let same : d ≡ NestedAbbreviation = cc in rw same refl, λ g. let same : d ≡ NestedAbbreviation = cc in rw same refl)

pub refused_since : (capacity size : ℕ) (old new : List ℕ) (e : TextError) (output : Result (List ℕ) TextError) → (output ≡ Err OutOfMemory → ⊥) → size ≡ length old → e ≡ error_of output → IsWritten capacity old new None output → IsErrOf (error e) OutOfMemory → IsOkAnd output (λ out. capacity < size + length out)
unfolding IsWritten IsStopped
refused_since capacity size old new e (Ok out) never s is h r = rw s (h.1 out refl)
refused_since capacity size old new e (Err d) never s is h r = absurd (never (let same : d ≡ OutOfMemory = cc in rw same refl))

-- no text prints want of memory
pub never_refused : (memory : List ℕ) (at : ℕ) → output_at memory at ≡ Err OutOfMemory → ⊥
unfolding output_of_characters
never_refused memory at = by_text (text_at memory at) refl
  where
    by_codes : (whole : Bool) (codes : Option (List ℕ)) (output : Result (List ℕ) TextError) → (if whole then ok_or (option_map output_of codes) NestedAbbreviation else Err Outside) ≡ output → output ≡ Err OutOfMemory → ⊥
    by_codes true (Some codes) output e f = absurd cc
    by_codes true None output e f = absurd cc
    by_codes false codes output e f = absurd cc

    by_text : (text : Option (List ℕ)) → text_at memory at ≡ text → output_at memory at ≡ Err OutOfMemory → ⊥
    by_text None e f = let none = output_at-none memory at e in absurd cc
    by_text (Some text) e f = by_codes _ _ (output_of_characters memory (characters_in text)) refl (let same = output_at-characters memory at text e in sym same ∙ f)

-- no output at all, where the text isn't whole
pub outside_for : (memory : List ℕ) (at : ℕ) → None ≡ text_at memory at → IsErrOf (error Outside) Outside ↔ IsErrOf (output_at memory at) Outside
outside_for memory at e = (λ _. output_at-none memory at (sym e), λ _. refl)

pub not_nested_for : (memory : List ℕ) (at : ℕ) → None ≡ text_at memory at → IsErrOf (error Outside) NestedAbbreviation ↔ IsErrOf (output_at memory at) NestedAbbreviation
not_nested_for memory at e = let f = output_at-none memory at (sym e) in (λ g. absurd cc, λ g. absurd cc)

-- what was written of a text's bytes says of its output
pub IsWritten-at : (memory : List ℕ) (at : ℕ) (text : List ℕ) (capacity : ℕ) (old new : List ℕ) (answer : Option (Unit {0})) → Some text ≡ text_at memory at → IsWritten capacity old new answer (characters_printed (memory_use memory) (characters_in text)) → IsWritten capacity old new answer (output_at memory at)
IsWritten-at memory at text capacity old new answer e written = rw (output_at-some memory at text (sym e)) written

pub error_of-at : (memory : List ℕ) (at : ℕ) (text : List ℕ) (pieces : List Piece) (e : TextError) → Some text ≡ text_at memory at → pieces ≡ pieces_of (characters_in text) → e ≡ error_of (all_joined (piece_output memory) pieces) → e ≡ error_of (output_at memory at)
error_of-at memory at text pieces e is p error = rw (output_at-some memory at text (sym is), ← p) error

-- what is judged of a text, with nothing written
pub judged_ok : (e : TextError) (output : Result (List ℕ) TextError) → (output ≡ Err OutOfMemory → ⊥) → e ≡ OutOfMemory → e ≡ error_of output → IsOk output
judged_ok e (Ok out) never whole is = refl
judged_ok e (Err d) never whole is = absurd (never (rw (sym is ∙ whole) refl))

pub judged_err : (e : TextError) (output : Result (List ℕ) TextError) → (e ≡ OutOfMemory → ⊥) → e ≡ error_of output → output ≡ Err e
judged_err e (Ok out) other is = absurd (other is)
judged_err e (Err d) other is = rw is refl

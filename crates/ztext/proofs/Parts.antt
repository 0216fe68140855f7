-- Writing part by part.
use Rattle.std.proofs.Common.{◌≡◌, ℕ, ◌+◌, ◌<◌, ◌≤◌, List, [], ◌∷◌, ◌++◌, length, Option, Some, None, Result, Ok, Err, refl, sym, ap, ◌∙◌, append_assoc, arith}
use Rattle.std.specs.Prelude.{is_ok, OnErr, if◌then◌else◌}
use Rattle.std.specs.Result.{result_ok}
use Rattle.std.proofs.lemmas.List.{append-nil, length-append}
use Rattle.ztext.specs.declared.error.TextError.{TextError}
use Rattle.ztext.specs.declared.error.TextError.TheVariants.{Outside, NestedAbbreviation, OutOfMemory}
use Rattle.ztext.specs.declared.pieces.Piece.{Piece}
use Rattle.ztext.specs.declared.pieces.Begun.{Begun}
use Rattle.ztext.specs.declared.pieces.Piece.TheVariants.{Code, Abbreviation}
use Rattle.ztext.specs.Words.{characters_in}
use Rattle.ztext.specs.Pieces.{pieces_of}
use Rattle.ztext.specs.Codes.{abbreviations_among}
use Rattle.ztext.specs.Abbreviations.{abbreviation_at}
use Rattle.ztext.specs.Output.{output_of_code}
use Rattle.ztext.specs.Progress.{first_error, joined, all_joined, plain_output, memory_use, error_of, IsStopped, IsWritten, LeadsOn}

first_error-assoc : (a b c : TextError) → first_error (first_error a b) c ≡ first_error a (first_error b c)
first_error-assoc Outside b c = refl
first_error-assoc NestedAbbreviation Outside c = refl
first_error-assoc NestedAbbreviation NestedAbbreviation Outside = refl
first_error-assoc NestedAbbreviation NestedAbbreviation NestedAbbreviation = refl
first_error-assoc NestedAbbreviation NestedAbbreviation OutOfMemory = refl
first_error-assoc NestedAbbreviation OutOfMemory c = refl
first_error-assoc OutOfMemory b c = refl

pub joined-assoc : (a b c : Result (List ℕ) TextError) → joined (joined a b) c ≡ joined a (joined b c)
joined-assoc (Ok a) (Ok b) (Ok c) = ap (λ (xs : List ℕ). Ok xs) (append_assoc a b c)
joined-assoc (Ok a) (Ok b) (Err f) = refl
joined-assoc (Ok a) (Err e) (Ok c) = refl
joined-assoc (Ok a) (Err e) (Err f) = refl
joined-assoc (Err d) (Ok b) (Ok c) = refl
joined-assoc (Err d) (Ok b) (Err f) = refl
joined-assoc (Err d) (Err e) (Ok c) = refl
joined-assoc (Err d) (Err e) (Err f) = ap (λ (x : TextError). Err x) (first_error-assoc d e f)

pub joined-none : (r : Result (List ℕ) TextError) → joined (Ok []) r ≡ r
joined-none (Ok a) = refl
joined-none (Err e) = refl

pub joined-end : (r : Result (List ℕ) TextError) → joined r (Ok []) ≡ r
joined-end (Ok a) = ap (λ (xs : List ℕ). Ok xs) (append-nil a)
joined-end (Err e) = refl

-- a front of a value is one part of it
joined-ok : (front rest : Result (List ℕ) TextError) (out : List ℕ) → joined front rest ≡ Ok out → (a : List ℕ) × (b : List ℕ) × (front ≡ Ok a) × (rest ≡ Ok b) × (out ≡ a ++ b)
joined-ok (Ok a) (Ok b) out e = (a, b, refl, refl, let same : a ++ b ≡ out = cc in sym same)
joined-ok (Ok a) (Err f) out e = absurd cc
joined-ok (Err d) (Ok b) out e = absurd cc
joined-ok (Err d) (Err f) out e = absurd cc

-- what stops in a part stops in the whole
IsStopped-part : (capacity : ℕ) (old new : List ℕ) (whole part rest : Result (List ℕ) TextError) → whole ≡ joined part rest → IsStopped capacity old new part → IsStopped capacity old new whole
unfolding IsStopped
IsStopped-part capacity old new whole part rest e stop = (
  stop.0,
  λ out is.
      let p = joined-ok part rest out (sym e ∙ is) in
      let small : capacity < length old + length p.0 = stop.1 p.0 p.2 in
      omega (arith, ap length p.4, length-append p.0 p.1),
)

-- and what stops behind a part that was written
IsStopped-behind : (capacity larger : ℕ) (old mid new out : List ℕ) (whole rest : Result (List ℕ) TextError) → whole ≡ joined (Ok out) rest → mid ≡ old ++ out → capacity ≤ larger → IsStopped larger mid new rest → IsStopped capacity old new whole
unfolding IsStopped
IsStopped-behind capacity larger old mid new out whole rest e m grows stop = (
  (out ++ stop.0.0, stop.0.1 ∙ rw m (append_assoc old out stop.0.0)),
  λ all is.
      let p = joined-ok (Ok out) rest all (sym e ∙ is) in
      let small : larger < length mid + length p.1 = stop.1 p.1 p.3 in
      let front : out ≡ p.0 = cc in
      omega (arith, ap length p.4, length-append p.0 p.1, ap length m, length-append old out, ap length front),
)

-- nothing has to be written
pub IsWritten-none : (capacity : ℕ) (items : List ℕ) (u : Unit {0}) → IsWritten capacity items items (Some u) (Ok [])
unfolding IsWritten
IsWritten-none capacity items u = ([], refl, sym (append-nil items))

-- one byte is written, or its growth was refused
pub IsWritten-push : {X : Type 0} (capacity size : ℕ) (items new : List ℕ) (byte : ℕ) (r : Result (Unit {0}) X) → size ≡ length items → new ≡ (if is_ok r then items ++ byte ∷ [] else items) → OnErr r (capacity ≤ size) → IsWritten capacity items new (result_ok r) (Ok (byte ∷ []))
unfolding IsWritten IsStopped
IsWritten-push capacity size items new byte (Ok u) s n full = (byte ∷ [], refl, n)
IsWritten-push capacity size items new byte (Err x) s n full = (([], n ∙ sym (append-nil items)), λ out is. let same : byte ∷ [] ≡ out = cc in rw (← same) (omega arith))

-- no more than the characters of what begins
pub LeadsOn-begins : (capacity : ℕ) (items : List ℕ) (begun : Begun) (whole : Result (List ℕ) TextError) (left : Begun → Result (List ℕ) TextError) → whole ≡ left begun → LeadsOn capacity items items (Some begun) whole left
unfolding LeadsOn
LeadsOn-begins capacity items begun whole left e = ([], e ∙ sym (joined-none (left begun)), sym (append-nil items))

-- a part, and what is left then
pub LeadsOn-part : (capacity : ℕ) (old new : List ℕ) (begun : Begun) (u : Unit {0}) (whole part : Result (List ℕ) TextError) (left : Begun → Result (List ℕ) TextError) → whole ≡ joined part (left begun) → IsWritten capacity old new (Some u) part → LeadsOn capacity old new (Some begun) whole left
unfolding LeadsOn IsWritten
LeadsOn-part capacity old new begun u whole part left e written = (written.0, rw (← written.1) e, written.2)

pub LeadsOn-stopped : (capacity : ℕ) (old new : List ℕ) (whole part rest : Result (List ℕ) TextError) (left : Begun → Result (List ℕ) TextError) → whole ≡ joined part rest → IsWritten capacity old new None part → LeadsOn capacity old new None whole left
unfolding LeadsOn IsWritten
LeadsOn-stopped capacity old new whole part rest left e stop = IsStopped-part capacity old new whole part rest e stop

-- one step after another
pub LeadsOn-then : (capacity larger : ℕ) (old mid new : List ℕ) (begun : Begun) (answer : Option Begun) (whole : Result (List ℕ) TextError) (left after : Begun → Result (List ℕ) TextError) → capacity ≤ larger → LeadsOn capacity old mid (Some begun) whole left → LeadsOn larger mid new answer (left begun) after → LeadsOn capacity old new answer whole after
unfolding LeadsOn
LeadsOn-then capacity larger old mid new begun (Some next) whole left after grows first second = (
  first.0 ++ second.0,
  first.1 ∙ ap (λ (r : Result (List ℕ) TextError). joined (Ok first.0) r) second.1 ∙ sym (joined-assoc (Ok first.0) (Ok second.0) (after next)),
  second.2 ∙ rw first.2 (append_assoc old first.0 second.0),
)
LeadsOn-then capacity larger old mid new begun None whole left after grows first second =
    IsStopped-behind capacity larger old mid new first.0 whole (left begun) first.1 first.2 grows second

-- nothing is left
pub IsWritten-end : (capacity : ℕ) (old new : List ℕ) (begun : Begun) (u : Unit {0}) (whole : Result (List ℕ) TextError) (left : Begun → Result (List ℕ) TextError) → left begun ≡ Ok [] → LeadsOn capacity old new (Some begun) whole left → IsWritten capacity old new (Some u) whole
unfolding LeadsOn IsWritten
IsWritten-end capacity old new begun u whole left end leads =
    (leads.0, leads.1 ∙ ap (λ (r : Result (List ℕ) TextError). joined (Ok leads.0) r) end ∙ joined-end (Ok leads.0), leads.2)

pub IsWritten-stopped : (capacity : ℕ) (old new : List ℕ) (whole : Result (List ℕ) TextError) (left : Begun → Result (List ℕ) TextError) → LeadsOn capacity old new None whole left → IsWritten capacity old new None whole
unfolding LeadsOn IsWritten
IsWritten-stopped capacity old new whole left stop = stop

-- ---- the error that stands

pub error_of-joined : (front rest : Result (List ℕ) TextError) → error_of (joined front rest) ≡ first_error (error_of front) (error_of rest)
error_of-joined (Ok a) (Ok b) = refl
error_of-joined (Ok a) (Err f) = refl
error_of-joined (Err Outside) (Ok b) = refl
error_of-joined (Err NestedAbbreviation) (Ok b) = refl
error_of-joined (Err OutOfMemory) (Ok b) = refl
error_of-joined (Err e) (Err f) = refl

-- what has been looked at, and what is left
pub error_of-more : (print : Piece → Result (List ℕ) TextError) (error next whole : TextError) (left after : List Piece) (piece : Piece) → left ≡ piece ∷ after → next ≡ first_error error (error_of (print piece)) → first_error error (error_of (all_joined print left)) ≡ whole
    → first_error next (error_of (all_joined print after)) ≡ whole
error_of-more print error next whole left after piece l n so_far =
    rw n (first_error-assoc error (error_of (print piece)) (error_of (all_joined print after))
    ∙ ap (λ (e : TextError). first_error error e) (sym (error_of-joined (print piece) (all_joined print after)))
    ∙ rw l at so_far)

first_error-none : (error : TextError) → first_error error OutOfMemory ≡ error
first_error-none Outside = refl
first_error-none NestedAbbreviation = refl
first_error-none OutOfMemory = refl

-- a code has no error
pub error_of-code : (print : Piece → Result (List ℕ) TextError) (error whole : TextError) (left after : List Piece) (piece : Piece) (out : List ℕ) → print piece ≡ Ok out → left ≡ piece ∷ after → first_error error (error_of (all_joined print left)) ≡ whole → first_error error (error_of (all_joined print after)) ≡ whole
error_of-code print error whole left after piece out is l so_far =
    error_of-more print error error whole left after piece l (rw is (sym (first_error-none error))) so_far

pub error_of-end : (print : Piece → Result (List ℕ) TextError) (error whole : TextError) (left : List Piece) → left ≡ [] → first_error error (error_of (all_joined print left)) ≡ whole → error ≡ whole
error_of-end print error whole left none so_far = sym (first_error-none error) ∙ rw none at so_far

-- the pieces of an abbreviation's text
error_of-plain : (pieces : List Piece) → abbreviations_among pieces ≡ [] → error_of (all_joined plain_output pieces) ≡ OutOfMemory
error_of-plain [] e = refl
error_of-plain (Code c ∷ pieces) e = error_of-joined (Ok (output_of_code c)) (all_joined plain_output pieces) ∙ error_of-plain pieces e
error_of-plain (Abbreviation n ∷ pieces) e = absurd cc

nested_first : (e : TextError) → (e ≡ Outside → ⊥) → first_error NestedAbbreviation e ≡ NestedAbbreviation
nested_first Outside h = absurd (h refl)
nested_first NestedAbbreviation h = refl
nested_first OutOfMemory h = refl

never_outside : (pieces : List Piece) → error_of (all_joined plain_output pieces) ≡ Outside → ⊥
never_outside [] e = absurd cc
never_outside (Code c ∷ pieces) e = never_outside pieces (sym (error_of-joined (Ok (output_of_code c)) (all_joined plain_output pieces)) ∙ e)
never_outside (Abbreviation n ∷ pieces) e =
    let first : NestedAbbreviation ≡ Outside = sym (nested_first _ (never_outside pieces)) ∙ sym (error_of-joined (Err NestedAbbreviation) (all_joined plain_output pieces)) ∙ e in
    absurd cc

error_of-nested : (pieces : List Piece) → (abbreviations_among pieces ≡ [] → ⊥) → error_of (all_joined plain_output pieces) ≡ NestedAbbreviation
error_of-nested [] h = absurd (h refl)
error_of-nested (Code c ∷ pieces) h = error_of-joined (Ok (output_of_code c)) (all_joined plain_output pieces) ∙ error_of-nested pieces h
error_of-nested (Abbreviation n ∷ pieces) h = error_of-joined (Err NestedAbbreviation) (all_joined plain_output pieces) ∙ nested_first _ (never_outside pieces)

-- the error of an abbreviation's use, where its text is whole in memory
pub error_of-plain_use : (memory : List ℕ) (n : ℕ) (bytes : List ℕ) (pieces : List Piece) → Some bytes ≡ abbreviation_at memory n → pieces ≡ pieces_of (characters_in bytes) → abbreviations_among pieces ≡ [] → OutOfMemory ≡ error_of (memory_use memory n)
error_of-plain_use memory n bytes pieces e p none = rw (← e, ← p) (sym (error_of-plain pieces none))

pub error_of-nested_use : (memory : List ℕ) (n : ℕ) (bytes : List ℕ) (pieces : List Piece) → Some bytes ≡ abbreviation_at memory n → pieces ≡ pieces_of (characters_in bytes) → (abbreviations_among pieces ≡ [] → ⊥) → NestedAbbreviation ≡ error_of (memory_use memory n)
error_of-nested_use memory n bytes pieces e p some = rw (← e, ← p) (sym (error_of-nested pieces some))

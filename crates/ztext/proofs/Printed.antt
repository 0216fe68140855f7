-- What pieces print is what they print one after the other.
use Rattle.std.proofs.Common.{◌≡◌, ℕ, ◌++◌, Bool, true, false, ◌&&◌, List, [], ◌∷◌, Option, Some, None, option_map, unwrap_or, Result, Ok, Err, refl, sym, ap, ◌∙◌, append_assoc}
use Rattle.std.specs.Prelude.{is_some, if◌then◌else◌}
use Rattle.std.specs.Option.{ok_or, option_and_then}
use Rattle.std.specs.List.{list_all}
use Rattle.ztext.specs.declared.error.TextError.{TextError}
use Rattle.ztext.specs.declared.error.TextError.TheVariants.{Outside, NestedAbbreviation}
use Rattle.ztext.specs.declared.pieces.Piece.{Piece}
use Rattle.ztext.specs.declared.pieces.Piece.TheVariants.{Code, Abbreviation}
use Rattle.ztext.specs.Words.{characters_in}
use Rattle.ztext.specs.Pieces.{pieces_of}
use Rattle.ztext.specs.Codes.{plain_codes, codes_of, abbreviations_among}
use Rattle.ztext.specs.Abbreviations.{abbreviation_at, abbreviation_characters}
use Rattle.ztext.specs.Output.{output_of_code, output_of, output_of_characters}
use Rattle.ztext.specs.Progress.{joined, all_joined, plain_output, abbreviation_output, piece_output}

-- what codes print, where there are any
abbrev printed : Option (List ℕ) → Result (List ℕ) TextError
printed codes = ok_or (option_map output_of codes) NestedAbbreviation

-- and where each abbreviation is whole in memory
abbrev printed_if : Bool → Option (List ℕ) → Result (List ℕ) TextError
printed_if whole codes = if whole then printed codes else Err Outside

output_of-append : (a b : List ℕ) → output_of (a ++ b) ≡ output_of a ++ output_of b
output_of-append [] b = refl
output_of-append (c ∷ a) b = ap (λ (xs : List ℕ). output_of_code c ++ xs) (output_of-append a b) ∙ sym (append_assoc (output_of_code c) (output_of a) (output_of b))

printed-code : (c : ℕ) (codes : Option (List ℕ)) → printed (option_map (λ cs. c ∷ cs) codes) ≡ joined (Ok (output_of_code c)) (printed codes)
printed-code c (Some cs) = refl
printed-code c None = refl

printed-nested : (codes : Option (List ℕ)) → Err NestedAbbreviation ≡ joined (Err NestedAbbreviation) (printed codes)
printed-nested (Some cs) = refl
printed-nested None = refl

plain_output-all : (pieces : List Piece) → printed (plain_codes pieces) ≡ all_joined plain_output pieces
plain_output-all [] = refl
plain_output-all (Code c ∷ pieces) = printed-code c (plain_codes pieces) ∙ ap (λ (r : Result (List ℕ) TextError). joined (Ok (output_of_code c)) r) (plain_output-all pieces)
plain_output-all (Abbreviation n ∷ pieces) = printed-nested (plain_codes pieces) ∙ ap (λ (r : Result (List ℕ) TextError). joined (Err NestedAbbreviation) r) (plain_output-all pieces)

printed_if-code : (c : ℕ) (whole : Bool) (codes : Option (List ℕ)) → printed_if whole (option_map (λ cs. c ∷ cs) codes) ≡ joined (Ok (output_of_code c)) (printed_if whole codes)
printed_if-code c true codes = printed-code c codes
printed_if-code c false codes = refl

outside_first : (r : Result (List ℕ) TextError) → Err Outside ≡ joined (Err Outside) r
outside_first (Ok out) = refl
outside_first (Err e) = refl

-- the codes of an abbreviation, and those after it
printed_if-front : (front codes : Option (List ℕ)) (whole : Bool) → printed_if whole (option_and_then (λ f. option_map (λ cs. f ++ cs) codes) front) ≡ joined (printed front) (printed_if whole codes)
printed_if-front (Some f) (Some cs) true = ap (λ (xs : List ℕ). Ok xs) (output_of-append f cs)
printed_if-front (Some f) None true = refl
printed_if-front None (Some cs) true = refl
printed_if-front None None true = refl
printed_if-front (Some f) codes false = refl
printed_if-front None codes false = refl

-- the same from the abbreviation's bytes, where they are whole
printed_if-abbreviation : (text : Option (List ℕ)) (whole : Bool) (codes : Option (List ℕ))
    → printed_if (is_some text && whole) (option_and_then (λ f. option_map (λ cs. f ++ cs) codes) (plain_codes (pieces_of (unwrap_or (option_map characters_in text) []))))
    ≡ joined (abbreviation_output (option_map (λ t. pieces_of (characters_in t)) text)) (printed_if whole codes)
printed_if-abbreviation None whole codes = outside_first (printed_if whole codes)
printed_if-abbreviation (Some text) whole codes =
    printed_if-front (plain_codes (pieces_of (characters_in text))) codes whole
    ∙ ap (λ (r : Result (List ℕ) TextError). joined r (printed_if whole codes)) (plain_output-all (pieces_of (characters_in text)))

-- what pieces print, each abbreviation among them being whole in memory
abbrev output_of_pieces : List ℕ → List Piece → Result (List ℕ) TextError
output_of_pieces memory pieces = printed_if (list_all (λ n. is_some (abbreviation_at memory n)) (abbreviations_among pieces)) (codes_of (abbreviation_characters memory) pieces)

output_of_pieces-joined : (memory : List ℕ) (pieces : List Piece) → output_of_pieces memory pieces ≡ all_joined (piece_output memory) pieces
output_of_pieces-joined memory [] = refl
output_of_pieces-joined memory (Code c ∷ pieces) =
    printed_if-code c (list_all (λ n. is_some (abbreviation_at memory n)) (abbreviations_among pieces)) (codes_of (abbreviation_characters memory) pieces)
    ∙ ap (λ (r : Result (List ℕ) TextError). joined (Ok (output_of_code c)) r) (output_of_pieces-joined memory pieces)
output_of_pieces-joined memory (Abbreviation n ∷ pieces) =
    printed_if-abbreviation (abbreviation_at memory n) (list_all (λ n. is_some (abbreviation_at memory n)) (abbreviations_among pieces)) (codes_of (abbreviation_characters memory) pieces)
    ∙ ap (λ (r : Result (List ℕ) TextError). joined (piece_output memory (Abbreviation n)) r) (output_of_pieces-joined memory pieces)

pub output_of_characters-joined : (memory zs : List ℕ) → output_of_characters memory zs ≡ all_joined (piece_output memory) (pieces_of zs)
unfolding output_of_characters
output_of_characters-joined memory zs = output_of_pieces-joined memory (pieces_of zs)

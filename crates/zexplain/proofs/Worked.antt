-- Values of the definitions, computed.
use Rattle.std.proofs.Common.{◌≡◌, ◌==◌, Bool, true, List, ℕ, [], ◌∷◌, ◌++◌, codes, refl}
use Rattle.std.specs.List.{list_all}
use Rattle.std.specs.Prelude.{Option, None, Some, count_by, option_map, take}
use Rattle.std.specs.Str.{bytes_eq}
use Rattle.zexplain.specs.Short.{all_codes, codes_of_certificates, codes_of_debugging, codes_of_play, codes_of_stories, first_line, in_short_of, shortened}
use Rattle.zexplain.specs.Texts.{explanation_of}
use Rattle.zexplain.specs.declared.certificates.TheConstants.{FINDING, FITTING, READING}
use Rattle.zexplain.specs.declared.debugging.TheConstants.{DEBUGGING}
use Rattle.zexplain.specs.declared.faults.TheConstants.{FAULTS}
use Rattle.zexplain.specs.declared.playing.TheConstants.{KEEPING, PLAYING, SAVING, UNPACKING}
use Rattle.zexplain.specs.declared.rules.TheConstants.{RULES}
use Rattle.zexplain.specs.declared.stories.TheConstants.{DECODING, LISTING, LOADING, TEXTS}

-- the first bytes of a code's text
beginning : ℕ → List ℕ → Option (List ℕ)
beginning count code = option_map (take count) (explanation_of code)

-- a text begins with its code, in each table
first_of_each :
    (beginning 3 (codes "L1") ≡ Some (codes "L1:")) × (beginning 3 (codes "J1") ≡ Some (codes "J1:")) × (beginning 3 (codes "E1") ≡ Some (codes "E1:")) × (beginning 3 (codes "U1") ≡ Some (codes "U1:"))
    × (beginning 3 (codes "K1") ≡ Some (codes "K1:")) × (beginning 3 (codes "S1") ≡ Some (codes "S1:")) × (beginning 3 (codes "G1") ≡ Some (codes "G1:")) × (beginning 3 (codes "I1") ≡ Some (codes "I1:"))
    × (beginning 3 (codes "F1") ≡ Some (codes "F1:")) × (beginning 3 (codes "Q1") ≡ Some (codes "Q1:")) × (beginning 3 (codes "C1") ≡ Some (codes "C1:")) × (beginning 3 (codes "P1") ≡ Some (codes "P1:")) × (beginning 3 (codes "N1") ≡ Some (codes "N1:"))
    × (beginning 3 (codes "B1") ≡ Some (codes "B1:"))
unfolding beginning
first_of_each = (refl, refl, refl, refl, refl, refl, refl, refl, refl, refl, refl, refl, refl, refl)

-- a code isn't told by its beginning
longer : (beginning 4 (codes "L11") ≡ Some (codes "L11:")) × (beginning 4 (codes "I18") ≡ Some (codes "I18:")) × (beginning 4 (codes "F16") ≡ Some (codes "F16:")) × (beginning 3 (codes "K9") ≡ Some (codes "K9:")) × (beginning 4 (codes "B10") ≡ Some (codes "B10:"))
unfolding beginning
longer = (refl, refl, refl, refl, refl)

-- what is no code has no text
none :
    (explanation_of [] ≡ None) × (explanation_of (codes "L") ≡ None) × (explanation_of (codes "L0") ≡ None) × (explanation_of (codes "L13") ≡ None) × (explanation_of (codes "I05") ≡ None)
    × (explanation_of (codes "I19") ≡ None) × (explanation_of (codes "X1") ≡ None) × (explanation_of (codes "N3") ≡ None) × (explanation_of (codes "C10") ≡ None) × (explanation_of (codes "K10") ≡ None)
    × (explanation_of (codes "B11") ≡ None)
none = (refl, refl, refl, refl, refl, refl, refl, refl, refl, refl, refl)

-- a small letter in front is read as the capital, and nothing else is
small :
    (explanation_of (codes "i5") ≡ explanation_of (codes "I5")) × (beginning 4 (codes "l11") ≡ Some (codes "L11:")) × (explanation_of (codes "i") ≡ None) × (explanation_of (codes "iI5") ≡ None) × (explanation_of (codes "x1") ≡ None)
unfolding beginning
small = (refl, refl, refl, refl, refl)

-- a code in a few words
in_short :
    (in_short_of (codes "I5") ≡ Some (codes "an operand that has to be an object may be none, most often 0")) × (in_short_of (codes "f10") ≡ Some (codes "a division by 0"))
    × (in_short_of (codes "S1") ≡ Some (codes "the certificate is of another story")) × (in_short_of (codes "I19") ≡ None)
in_short = (refl, refl, refl, refl)

-- the text of an entry begins with the code, a colon, a space, and what it means in a few words with a full stop
is_headed : List ℕ → List ℕ → Bool
is_headed code text = bytes_eq (first_line text) (code ++ codes ": " ++ shortened (first_line text) ++ codes ".")

-- each does
stories : list_all (λ e. is_headed e.0.now e.1.now) (LOADING ++ DECODING ++ TEXTS ++ LISTING) ≡ true
unfolding is_headed
stories = refl

certificates : list_all (λ e. is_headed e.0.now e.1.now) (READING ++ FITTING ++ FINDING ++ RULES) ≡ true
unfolding is_headed
certificates = refl

play : list_all (λ e. is_headed e.0.now e.1.now) (FAULTS ++ SAVING ++ UNPACKING ++ PLAYING ++ KEEPING) ≡ true
unfolding is_headed
play = refl

debugging : list_all (λ e. is_headed e.0.now e.1.now) DEBUGGING ≡ true
unfolding is_headed
debugging = refl

-- how all codes begin, and how many they are
all_begin : take 62 all_codes ≡ codes "L1: the file is too short to be a story." ++ 10 ∷ codes "L2: the file is too l"
unfolding codes_of_stories codes_of_certificates codes_of_play codes_of_debugging
all_begin = refl

all_are : count_by (λ byte. byte == 10) all_codes ≡ 113
unfolding codes_of_stories codes_of_certificates codes_of_play codes_of_debugging
all_are = refl

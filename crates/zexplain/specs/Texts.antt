-- The texts of the codes, which stand in the tables of the sources alone (own).
use Rattle.std.specs.Prelude.{List, ℕ, [], ◌∷◌, Option, Some, None, find, map, option_map}
use Rattle.std.specs.Char.{to_ascii_uppercase}
use Rattle.std.specs.Str.{bytes_eq}
use Rattle.zexplain.specs.declared.certificates.TheConstants.{FINDING, FITTING, READING}
use Rattle.zexplain.specs.declared.debugging.TheConstants.{DEBUGGING}
use Rattle.zexplain.specs.declared.faults.TheConstants.{FAULTS}
use Rattle.zexplain.specs.declared.playing.TheConstants.{KEEPING, PLAYING, SAVING, UNPACKING}
use Rattle.zexplain.specs.declared.rules.TheConstants.{RULES}
use Rattle.zexplain.specs.declared.stories.TheConstants.{DECODING, LISTING, LOADING, TEXTS}

-- the text of the first of these pairs with a code
abbrev pub text_among : List (List ℕ × List ℕ) → List ℕ → Option (List ℕ)
text_among pairs code = option_map (λ pair. pair.1) (find (λ pair. bytes_eq pair.0 code) pairs)

-- a story file that isn't loaded
abbrev pub loading_text : List ℕ → Option (List ℕ)
loading_text code = text_among (map (λ entry. (entry.0.now, entry.1.now)) LOADING) code

-- bytes that spell no instruction
abbrev pub decoding_text : List ℕ → Option (List ℕ)
decoding_text code = text_among (map (λ entry. (entry.0.now, entry.1.now)) DECODING) code

-- a text that can't be decoded
abbrev pub decoded_text : List ℕ → Option (List ℕ)
decoded_text code = text_among (map (λ entry. (entry.0.now, entry.1.now)) TEXTS) code

-- a story that has no listing
abbrev pub listing_text : List ℕ → Option (List ℕ)
listing_text code = text_among (map (λ entry. (entry.0.now, entry.1.now)) LISTING) code

-- a file that is no certificate
abbrev pub reading_text : List ℕ → Option (List ℕ)
reading_text code = text_among (map (λ entry. (entry.0.now, entry.1.now)) READING) code

-- a story that a certificate doesn't fit
abbrev pub fitting_text : List ℕ → Option (List ℕ)
fitting_text code = text_among (map (λ entry. (entry.0.now, entry.1.now)) FITTING) code

-- a story for which no certificate is found
abbrev pub finding_text : List ℕ → Option (List ℕ)
finding_text code = text_among (map (λ entry. (entry.0.now, entry.1.now)) FINDING) code

-- an instruction that breaks a rule of certificates
abbrev pub rule_text : List ℕ → Option (List ℕ)
rule_text code = text_among (map (λ entry. (entry.0.now, entry.1.now)) RULES) code

-- a fault
abbrev pub fault_text : List ℕ → Option (List ℕ)
fault_text code = text_among (map (λ entry. (entry.0.now, entry.1.now)) FAULTS) code

-- a save from which play doesn't go on
abbrev pub saving_text : List ℕ → Option (List ℕ)
saving_text code = text_among (map (λ entry. (entry.0.now, entry.1.now)) SAVING) code

-- a save of another interpreter that isn't unpacked
abbrev pub unpacking_text : List ℕ → Option (List ℕ)
unpacking_text code = text_among (map (λ entry. (entry.0.now, entry.1.now)) UNPACKING) code

-- what breaks a play off
abbrev pub playing_text : List ℕ → Option (List ℕ)
playing_text code = text_among (map (λ entry. (entry.0.now, entry.1.now)) PLAYING) code

-- a file that isn't written over
abbrev pub keeping_text : List ℕ → Option (List ℕ)
keeping_text code = text_among (map (λ entry. (entry.0.now, entry.1.now)) KEEPING) code

-- a file of debug information that isn't read
abbrev pub debugging_text : List ℕ → Option (List ℕ)
debugging_text code = text_among (map (λ entry. (entry.0.now, entry.1.now)) DEBUGGING) code

-- the first that is there
abbrev pub or_else : Option (List ℕ) → Option (List ℕ) → Option (List ℕ)
or_else None other = other
or_else (Some text) other = Some text

abbrev pub of_stories : List ℕ → Option (List ℕ)
of_stories code = or_else (or_else (or_else (loading_text code) (decoding_text code)) (decoded_text code)) (listing_text code)

abbrev pub of_certificates : List ℕ → Option (List ℕ)
of_certificates code = or_else (or_else (or_else (reading_text code) (fitting_text code)) (finding_text code)) (rule_text code)

abbrev pub of_play : List ℕ → Option (List ℕ)
of_play code = or_else (or_else (or_else (or_else (fault_text code) (saving_text code)) (unpacking_text code)) (playing_text code)) (keeping_text code)

-- the text of a code, if it is one
abbrev pub text_of : List ℕ → Option (List ℕ)
text_of code = or_else (or_else (or_else (of_stories code) (of_certificates code)) (of_play code)) (debugging_text code)

-- a word whose first byte, if it is a letter a to z, is the capital
abbrev pub with_capital : List ℕ → List ℕ
with_capital [] = []
with_capital (first ∷ others) = to_ascii_uppercase first ∷ others

-- what a word means that is a code, but that its letter may be small
abbrev pub explanation_of : List ℕ → Option (List ℕ)
explanation_of word = text_of (with_capital word)

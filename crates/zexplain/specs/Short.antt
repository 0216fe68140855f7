-- What the codes mean in a few words (own).
use Rattle.std.specs.Prelude.{ℕ, ◌==◌, List, [], ◌∷◌, ◌++◌, Option, option_map, flat_map}
use Rattle.std.specs.List.{after_first, before_first}
use Rattle.std.specs.Io.BufRead.{strip_last}
use Rattle.zexplain.specs.Texts.{explanation_of}
use Rattle.zexplain.specs.declared.certificates.TheConstants.{FINDING, FITTING, READING}
use Rattle.zexplain.specs.declared.debugging.TheConstants.{DEBUGGING}
use Rattle.zexplain.specs.declared.faults.TheConstants.{FAULTS}
use Rattle.zexplain.specs.declared.playing.TheConstants.{KEEPING, PLAYING, SAVING, UNPACKING}
use Rattle.zexplain.specs.declared.rules.TheConstants.{RULES}
use Rattle.zexplain.specs.declared.stories.TheConstants.{DECODING, LISTING, LOADING, TEXTS}

-- a text up to its first end of line
abbrev pub first_line : List ℕ → List ℕ
first_line text = before_first (λ byte. byte == 10) text

-- a line without its first word, and without a full stop at its end
abbrev pub shortened : List ℕ → List ℕ
shortened line = strip_last 46 (after_first (λ byte. byte == 32) line)

-- what a code means in a few words: the first line of its text, which the code begins as a word, without that
abbrev pub in_short_of : List ℕ → Option (List ℕ)
in_short_of code = option_map (λ text. shortened (first_line text)) (explanation_of code)

-- the first line of a text, with its end
abbrev pub heading : List ℕ → List ℕ
heading text = first_line text ++ 10 ∷ []

unfoldable pub codes_of_stories : List ℕ
codes_of_stories = flat_map (λ e. heading e.1.now) LOADING ++ flat_map (λ e. heading e.1.now) DECODING ++ flat_map (λ e. heading e.1.now) TEXTS ++ flat_map (λ e. heading e.1.now) LISTING

unfoldable pub codes_of_certificates : List ℕ
codes_of_certificates = flat_map (λ e. heading e.1.now) READING ++ flat_map (λ e. heading e.1.now) FITTING ++ flat_map (λ e. heading e.1.now) FINDING ++ flat_map (λ e. heading e.1.now) RULES

unfoldable pub codes_of_play : List ℕ
codes_of_play = flat_map (λ e. heading e.1.now) FAULTS ++ flat_map (λ e. heading e.1.now) SAVING ++ flat_map (λ e. heading e.1.now) UNPACKING ++ flat_map (λ e. heading e.1.now) PLAYING ++ flat_map (λ e. heading e.1.now) KEEPING

unfoldable pub codes_of_debugging : List ℕ
codes_of_debugging = flat_map (λ e. heading e.1.now) DEBUGGING

-- every code in a few words, each on a line of its own
abbrev pub all_codes : List ℕ
all_codes = codes_of_stories ++ codes_of_certificates ++ codes_of_play ++ codes_of_debugging

-- Values of what `show` writes, computed.
use Rattle.std.proofs.Common.{false, ◌≡◌, [], ◌∷◌, ◌++◌, None, Some, true, codes, refl}
use Rattle.std.specs.Prelude.{pos, negsuc}
use Rattle.std.specs.Fmt.{digits}
use Rattle.zdomain.specs.declared.interval.Interval.{Interval}
use Rattle.zrule.specs.declared.rule.Rule.TheVariants as rules
use Rattle.zcommand.specs.CommandLine.{Show}
use Rattle.zperform.specs.Keeping.{kept_in}
use Rattle.zperform.specs.Performing.{is_quiet, written_by}
use Rattle.zperform.specs.Report.{status_of, text_of}
use Rattle.zperform.specs.Showing.{ShowComesTo, address_in, answer_line, claims_text, fact_line, facts_line, first_line, frame_text, interval_kind, interval_text, list_text, spelled_line, unlisted_line, values_kind}
use Rattle.zperform.specs.declared.outcome.Outcome.TheVariants.{NoAddress, Shown}

-- an address has one to five digits, capitals or not
addresses :
    (address_in (codes "00325") ≡ Some 805) × (address_in (codes "0") ≡ Some 0) × (address_in (codes "fffff") ≡ Some 1048575) × (address_in (codes "1aBcD") ≡ Some 109517) × (address_in (codes "9") ≡ Some 9) × (address_in [] ≡ None)
    × (address_in (codes "000325") ≡ None) × (address_in (codes "+325") ≡ None) × (address_in (codes "-325") ≡ None) × (address_in (codes "0032g") ≡ None) × (address_in (codes "0032G") ≡ None) × (address_in (codes "0x325") ≡ None) × (address_in (codes "32 ") ≡ None)
addresses = (refl, refl, refl, refl, refl, refl, refl, refl, refl, refl, refl, refl, refl)

five : Interval
five = record { lo = pos 0; hi = pos 5; ordered = record { le = tt } }

any_but_the_least : Interval
any_but_the_least = record { lo = negsuc 32766; hi = pos 32767; ordered = record { le = tt } }

any_but_the_greatest : Interval
any_but_the_greatest = record { lo = negsuc 32767; hi = pos 32766; ordered = record { le = tt } }

any : Interval
any = record { lo = negsuc 32767; hi = pos 32767; ordered = record { le = tt } }

one : Interval
one = record { lo = negsuc 6; hi = negsuc 6; ordered = record { le = tt } }

intervals :
    (interval_text five ≡ codes "0 to 5") × (interval_text one ≡ codes "-7") × (interval_text any ≡ codes "any word") × (interval_text any_but_the_least ≡ codes "-32767 to 32767")
    × (interval_text any_but_the_greatest ≡ codes "-32768 to 32766")
unfolding digits five any_but_the_least any_but_the_greatest any one
intervals = (refl, refl, refl, refl, refl)

lists : (list_text (65531 ∷ 3 ∷ 1000 ∷ []) ≡ codes "-5, 3, 1000") × (list_text (32768 ∷ 32767 ∷ []) ≡ codes "-32768, 32767")
unfolding digits
lists = (refl, refl)

-- with a word that is no address, nothing is shown
no_address : ShowComesTo None None (Some (codes "+325")) (Some []) (Some []) NoAddress × (ShowComesTo None None (Some (codes "+325")) (Some []) (Some []) Shown → ⊥) × (ShowComesTo None None None (Some []) (Some []) NoAddress → ⊥)
no_address = ((refl, refl), λ shown. absurd (let e = shown.0 in cc), λ none. none)

-- no input is read for it, nor is a file written
unwritten : (is_quiet (Show (1 ∷ []) (2 ∷ []) None) ≡ true) × (written_by (Show (1 ∷ []) (2 ∷ []) None) ≡ None) × (kept_in (Show (1 ∷ []) (2 ∷ []) None) ≡ None)
unwritten = (refl, refl, refl)

-- a certificate with one of each
claims :
    claims_text interval_text 3 interval_kind
    (record { identity = record { release = 1; serial = []; checksum = 0; length = 64 }; limit = Some 3; marking = false; stating = false; ranges = record { first = 544; last = 545 } ∷ []; globals = five ∷ one ∷ []; routines = record { address = 806; locals = 2; result = any } ∷ []; instructions = []; facts = [] })
    ≡ codes "version 3, intervals" ++ 10 ∷ codes "frame limit 3" ++ 10 ∷ codes "frozen 00220 to 00221" ++ 10 ∷ codes "global 16: 0 to 5" ++ 10 ∷ codes "global 17: -7" ++ 10 ∷ codes "routine 1 at 00326, locals 2, result any word" ++ 10 ∷ []
unfolding digits five any one
claims = refl

kinds : values_kind ≡ codes "intervals and lists"
kinds = refl

frames :
    frame_text interval_text (record { address = 804; routine = 1; is_marked = false; locals = five ∷ []; slots = one ∷ any ∷ [] })
    ≡ codes "height 2" ++ 10 ∷ codes "local 1: 0 to 5" ++ 10 ∷ codes "slot 1: -7" ++ 10 ∷ codes "slot 2: any word" ++ 10 ∷ []
unfolding digits five any one
frames = refl

facts :
    (fact_line interval_text (record { address = 804; global = 0; values = five }) ≡ codes "global 16: 0 to 5" ++ 10 ∷ []) × (fact_line interval_text (record { address = 0; global = 239; values = one }) ≡ codes "global 255: -7" ++ 10 ∷ [])
    × (facts_line 0 ≡ []) × (facts_line 12 ≡ codes "facts 12" ++ 10 ∷ [])
unfolding digits five one
facts = (refl, refl, refl, refl)

unspelled : (spelled_line {V = Interval} (record { address = 804; routine = 1; is_marked = false; locals = []; slots = [] }) None ≡ codes "00324 1 no instruction" ++ 10 ∷ []) × (unlisted_line 1048575 ≡ codes "fffff isn't listed" ++ 10 ∷ [])
unfolding digits
unspelled = (refl, refl)

first_lines : (first_line (codes "one" ++ 10 ∷ codes "two" ++ 10 ∷ []) ≡ codes "one") × (first_line (codes "one") ≡ codes "one") × (first_line [] ≡ [])
first_lines = (refl, refl, refl)

answers :
    (answer_line None ≡ codes "its rule holds" ++ 10 ∷ []) × (answer_line (Some rules.Object) ≡ codes "broken: I5: an operand that has to be an object may be none, most often 0." ++ 10 ∷ [])
    × (answer_line (Some rules.Decodes) ≡ codes "broken: I1: no instruction stands there." ++ 10 ∷ [])
unfolding digits
answers = (refl, refl, refl)

statuses : (status_of Shown ≡ 0) × (status_of NoAddress ≡ 2) × (text_of Shown ≡ [])
statuses = (refl, refl, refl)

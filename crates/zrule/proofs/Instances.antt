-- A small story of which the claims of a certificate hold, and what breaks each of them.
use Rattle.std.proofs.Common.{◌≡◌, ◌⊎◌, inl, inr, ℕ, zero, suc, ◌+◌, ◌*◌, ◌<◌, ◌≤◌, Bool, true, false, List, [], ◌∷◌, ◌++◌, replicate, length, drop, Option, Some, None, Result, Ok, refl, sym, ap, subst, ◌∙◌, arith, if◌then◌else◌, nat_lt, min}
use Rattle.std.specs.Prelude.{map, pos, option_map, IfSome, ◌==◌, slice_get}
use Rattle.std.specs.List.{AllByRecursion}
use Rattle.std.proofs.lemmas.Bool.{eqb-true, lt-ltb}
use Rattle.std.proofs.lemmas.Option.{same_Some, slice_get_within}
use Rattle.std.specs.Option.{option_and_then, IsSomeAnd}
use Rattle.zstory.specs.Bytes.{byte_at, word_at}
use Rattle.zstory.specs.Header as headers
use Rattle.zstory.specs.LoadedStory.{LoadedStory, identity_of}
use Rattle.zstory.specs.Objects.{HasEntries}
use Rattle.ztext.specs.Words.{text_at, characters_in}
use Rattle.ztext.specs.Codes.{abbreviations_used}
use Rattle.ztext.specs.Abbreviations.{readable_word, abbreviation_at, IsPlainAbbreviation}
use Rattle.ztext.specs.Local.{read_length}
use Rattle.zcode.specs.declared.opcode.Opcode.TheVariants.{Print, NewLine, Quit}
use Rattle.zcode.specs.Instruction.{Instruction}
use Rattle.zcode.specs.Operation.{operation_of}
use Rattle.zcode.specs.Reading.{instruction_at, head_at, short_head, checked_head, operands_at, store_if, branch_if, text_if}
use Rattle.zdomain.specs.declared.interval.Interval.{Interval}
use Rattle.zdomain.specs.Domain.{In}
use Rattle.zdomain.specs.IntervalLaw.{interval_sound}
use Rattle.zdomain.specs.Interval.{point, all_words, interval_operations}
use Rattle.zcert.specs.Certificate.{Instruction as Listed, Certificate}
use Rattle.zcert.specs.Listed.{listed_at}
use Rattle.zstate.specs.State.{Frame, opening}
use Rattle.zrule.specs.declared.rule.Rule.{Rule}
use Rattle.zrule.specs.declared.rule.Rule.TheVariants as rules
use Rattle.zrule.specs.Numbers.{number_of}
use Rattle.zflow.specs.declared.parts.Lead.TheVariants.{Ahead}
use Rattle.zflow.specs.declared.parts.Outcome.{Outcome}
use Rattle.zflow.specs.Transfer.{Shape, below, demands_of, outcome_of, outcome_at, goes_on}
use Rattle.zrule.specs.Claims.{Entry, Claims, claims_of, entry_of, frozen_in, told_of, globals_at}
use Rattle.zplace.specs.Bytes.{IsWithin, IsChanging, IsAbbreviation, IsFixed, static}
use Rattle.zruns.specs.Texts.{HasFixedText}
use Rattle.zrule.specs.Rules.{Covers, HasFirstPlace, HasGlobals, HasDisjointTables, IsThere, Whatever, Leads, GoesOn, Asks, Keeps, IsLowestBroken, Supports}
use Rattle.zrule.specs.Described.{Callers, Described, IsLoadedStory}
use Rattle.zrule.proofs.Asking.{asks_keeps}
use Rattle.zrule.proofs.Opening.{opening_described}
use Rattle.zstory.proofs.Computed.{bytes_tested}

-- ---- the story

-- Globals are at 64, the object table at 544, and static memory begins at 606 with the table of abbreviations: each of its
-- words is 514, so the text of each is at 1,028. The first instruction is at 798, and behind the
-- three of them an empty dictionary at 805.
unfoldable pub memory : List ℕ
memory =
    3 ∷ replicate 5 0 ++ 3 ∷ 0x1E ∷ 3 ∷ 0x25 ∷ 2 ∷ 0x20 ∷ 0 ∷ 0x40 ∷ 2 ∷ 0x5E ∷ replicate 8 0 ++ 2 ∷ 0x5E ∷ replicate 580 0 ++ replicate 192 2 ++ 0xB2 ∷ 0x35 ∷ 0x51 ∷ 0xC6 ∷ 0x85 ∷ 0xBB ∷ 0xBA ∷ 0 ∷ 4 ∷ replicate 221 0 ++ 0x94 ∷ 0xA5 ∷ []

unfoldable pub story : LoadedStory
story = record { memory = memory; objects = 0 }

pub places : (headers.first_instruction memory ≡ 798) × (headers.globals memory ≡ 64) × (headers.object_table memory ≡ 544) × (headers.static_base memory ≡ 606) × (headers.abbreviations memory ≡ 606) × (length memory ≡ 1030)
unfolding memory
places = (refl, refl, refl, refl, refl, refl)

-- nothing changes behind the globals
still : (p : ℕ) → 544 ≤ p → IsChanging story p → ⊥
unfolding story
still p above (inl flags) = omega (arith, above, flags.1)
still p above (inr (inl a_global)) = let at = places.1 in omega (arith, above, at, a_global.1)
still p above (inr (inr state)) = omega (arith, state.first, state.last)

fixed : (p : ℕ) → 606 ≤ p → IsFixed story (λ q. false) p
unfolding story
fixed p above = record { closed = static (let at = places.3 in omega (arith, at, above)); unchanging = still p (omega (arith, above)) }

-- ---- its abbreviations

-- so many bytes from a place on are this one
are : ℕ → ℕ → ℕ → Bool
are b zero place = true
are b (suc n) place = if byte_at memory place == b then are b n (place + 1) else false

byte_is : (b n place k : ℕ) → are b n place ≡ true → k < n → byte_at memory (place + k) ≡ b
unfolding are
byte_is b zero place k all less = absurd (omega (arith, less))
byte_is b (suc n) place k all less = by_test (byte_at memory place == b) refl (byte_is b n (place + 1)) all k less
  where
    by_test : (t : Bool) → (byte_at memory place == b) ≡ t → ((k : ℕ) → are b n (place + 1) ≡ true → k < n → byte_at memory (place + 1 + k) ≡ b) → (if t then are b n (place + 1) else false) ≡ true → (k : ℕ) → k < suc n → byte_at memory (place + k) ≡ b
    by_test true here rest all zero less = ap (byte_at memory) (omega arith) ∙ eqb-true (byte_at memory place) b here
    by_test true here rest all (suc k) less = ap (byte_at memory) (omega arith) ∙ rest k all (omega (arith, less))
    by_test false here rest all k less = absurd cc

tables_filled : (are 2 192 606 ≡ true) × (are 0 480 64 ≡ true)
unfolding are memory
tables_filled = (refl, refl)

word_of_two : (bytes : List ℕ) (at : ℕ) → nat_lt (at + 1) (min (length bytes) 65536) ≡ true → byte_at bytes at ≡ 2 → byte_at bytes (at + 1) ≡ 2 → readable_word bytes at ≡ Some 514
word_of_two bytes at inside high low = rw (inside, high, low) refl

words : (n : ℕ) → n < 96 → readable_word memory (606 + 2 * n) ≡ Some 514
words n few =
    let long = places.5 in
    let inside : nat_lt (606 + 2 * n + 1) (min (length memory) 65536) ≡ true = subst (λ (k : ℕ). nat_lt (606 + 2 * n + 1) (min k 65536) ≡ true) (sym long) (lt-ltb (606 + 2 * n + 1) 1030 (omega (arith, few))) in
    let low : byte_at memory (606 + 2 * n + 1) ≡ 2 = ap (byte_at memory) (omega arith) ∙ byte_is 2 192 606 (2 * n + 1) tables_filled.0 (omega (arith, few)) in
    word_of_two memory (606 + 2 * n) inside (byte_is 2 192 606 (2 * n) tables_filled.0 (omega (arith, few))) low

-- what the header's word and a word of the table lead to
found_by : (bytes : List ℕ) (n table word : ℕ) (text : List ℕ) → readable_word bytes 0x18 ≡ Some table → readable_word bytes (table + 2 * n) ≡ Some word → text_at bytes (2 * word) ≡ Some text → abbreviation_at bytes n ≡ Some text
found_by bytes n table word text first second third =
    ap (λ (o : Option ℕ). option_and_then (λ t. option_and_then (λ w. text_at bytes (2 * w)) (readable_word bytes (t + 2 * n))) o) first ∙ ap (λ (o : Option ℕ). option_and_then (λ w. text_at bytes (2 * w)) o) second ∙ third

ends_there : (readable_word memory 0x18 ≡ Some 606) × (text_at memory 1028 ≡ Some (0x94 ∷ 0xA5 ∷ []))
unfolding memory
ends_there = (refl, refl)

pub plain : (n : ℕ) → n < 96 → IsPlainAbbreviation memory n
plain n few =
    let found : abbreviation_at memory n ≡ Some (0x94 ∷ 0xA5 ∷ []) = found_by memory n 606 514 (0x94 ∷ 0xA5 ∷ []) ends_there.0 (words n few) ends_there.1 in
    subst (λ (o : Option (List ℕ)). IsSomeAnd o (λ text. abbreviations_used (characters_in text) ≡ [])) (sym found) refl

pub abbreviations_stay : (p : ℕ) → IsAbbreviation story p → IsChanging story p → ⊥
unfolding story
abbreviations_stay p part = by_half part.number part.last part.inside
  where
    by_half : (n : ℕ) → n < 96 → IsWithin (headers.abbreviations memory + 2 * n) 2 p ⊎ ((word : ℕ) × (readable_word memory (headers.abbreviations memory + 2 * n) ≡ Some word) × IsWithin (2 * word) (read_length memory (2 * word)) p) → IsChanging story p → ⊥
    by_half n few (inl word) = let at = places.4 in still p (omega (arith, at, word.0))
    by_half n few (inr (word, found, inside)) =
        let here : readable_word memory (606 + 2 * n) ≡ Some word = subst (λ (t : ℕ). readable_word memory (t + 2 * n) ≡ Some word) places.4 found in
        let is : word ≡ 514 = same_Some word 514 (sym here ∙ words n few) in
        still p (omega (arith, is, inside.0))

-- ---- its claims

unfoldable pub bare : Shape Interval
bare = record { locals = []; slots = [] }

unfoldable pub bare_entry : Entry Interval
bare_entry = record { routine = 0; shape = bare }

-- an instruction of the main code, with nothing on the stack
unfoldable pub at_bare : ℕ → Listed Interval
at_bare place = record { address = place; routine = 0; is_marked = false; locals = []; slots = [] }

-- a certificate that lists so many places, and says that each global is 0
unfoldable pub certificate_at : List ℕ → Certificate Interval
certificate_at qs = record { identity = identity_of story; limit = None; marking = false; stating = false; ranges = []; globals = replicate 240 (point 0); routines = []; instructions = map at_bare qs; facts = [] }

unfoldable pub claims_at : List ℕ → Claims Interval
claims_at qs = claims_of interval_operations (certificate_at qs)

unfoldable pub claims : Claims Interval
claims = claims_at (798 ∷ 803 ∷ 804 ∷ [])

-- what holds at each place where something is listed
each_among : (P : ℕ → Entry Interval → Type 0) (qs : List ℕ) → AllByRecursion (λ q. P q bare_entry) qs → (p : ℕ) (e : Entry Interval) → option_map entry_of (listed_at (map at_bare qs) p) ≡ Some e → P p e
unfolding at_bare bare_entry bare
each_among P [] all p e listed = absurd cc
each_among P (q ∷ qs) all p e listed = by_test (q == p) refl (each_among P qs all.1 p e) listed
  where
    by_test : (b : Bool) → (q == p) ≡ b → (option_map entry_of (listed_at (map at_bare qs) p) ≡ Some e → P p e) → option_map entry_of (if b then Some (at_bare q) else listed_at (map at_bare qs) p) ≡ Some e → P p e
    by_test true here rest f = subst (P p) (same_Some _ e f) (subst (λ (k : ℕ). P k bare_entry) (eqb-true q p here) all.0)
    by_test false here rest f = rest f

pub each_listed : (P : ℕ → Entry Interval → Type 0) (qs : List ℕ) → AllByRecursion (λ q. P q bare_entry) qs → (p : ℕ) (e : Entry Interval) → (claims_at qs).entry p ≡ Some e → P p e
unfolding claims_at certificate_at
each_listed = each_among

-- ---- the rules on the story

pub first_place : HasFirstPlace interval_operations claims story
unfolding claims claims_at certificate_at at_bare bare_entry bare story memory
first_place = record { entry = record { routine = 0; shape = record { locals = []; slots = [] } }; listed = refl; main = refl; no_locals = refl; no_slots = refl; implied = tt }

-- not where nothing is listed there
pub no_first_place : HasFirstPlace interval_operations (claims_at (803 ∷ [])) story → ⊥
unfolding claims_at certificate_at at_bare story memory
no_first_place first = let listed = first.listed in cc

same_in : {A : Type 0} (n k : ℕ) (x v : A) → slice_get (replicate n x) k ≡ Some v → x ≡ v
same_in zero k x v e = absurd cc
same_in (suc n) zero x v e = same_Some x v e
same_in (suc n) (suc k) x v e = same_in n k x v e

-- each global is 0, as its set says
pub values : HasGlobals interval_operations claims story memory
unfolding claims claims_at certificate_at story
values k v found =
    let few : k < 240 = slice_get_within (replicate 240 (point 0)) k v found in
    let at = places.1 in
    let high : byte_at memory (headers.globals memory + 2 * k) ≡ 0 = ap (byte_at memory) (omega (arith, at)) ∙ byte_is 0 480 64 (2 * k) tables_filled.1 (omega (arith, few)) in
    let low : byte_at memory (headers.globals memory + 2 * k + 1) ≡ 0 = ap (byte_at memory) (omega (arith, at)) ∙ byte_is 0 480 64 (2 * k + 1) tables_filled.1 (omega (arith, few)) in
    let none : word_at memory (headers.globals memory + 2 * k) ≡ 0 = omega (arith, high, low) in
    subst (λ (set : Interval). In interval_operations set (word_at memory (headers.globals memory + 2 * k))) (same_in 240 k (point 0) v found)
    (subst (λ (x : ℕ). In interval_operations (point 0) x) (sym none) (interval_sound.single 0 (omega arith)))

pub tables : HasDisjointTables story (λ p. false)
unfolding story
tables = record {
  apart = λ p global entry. let at = places in omega (arith, at.1, at.2, global.1, entry.0);
  frozen_above = λ p e. absurd cc;
  frozen_below = λ p e. absurd cc;
  unchanging = λ p e. absurd cc;
}

-- ---- the rules on each instruction

unfoldable pub hello : Instruction
hello = record { opcode = Print; operands = []; store = None; branch = None; size = 5 }

unfoldable pub line : Instruction
line = record { opcode = NewLine; operands = []; store = None; branch = None; size = 1 }

unfoldable pub stop : Instruction
stop = record { opcode = Quit; operands = []; store = None; branch = None; size = 1 }

pub reads : (instruction_at (drop 798 memory) ≡ Ok hello) × (instruction_at (drop 803 memory) ≡ Ok line) × (instruction_at (drop 804 memory) ≡ Ok stop)
unfolding memory hello line stop instruction_at head_at short_head checked_head operands_at store_if branch_if text_if operation_of
reads = (refl, refl, refl)

same_ok : {A E : Type 0} (x y : A) → ◌≡◌ {A = Result A E} (Ok x) (Ok y) → x ≡ y
same_ok x y e = cc

-- whatever may come of an instruction, by the answer of its condition
pub by_answers : (c : Claims Interval) (p : ℕ) (i : Instruction) (e : Shape Interval) (P : Outcome Interval → Type 0) → IfSome (outcome_at interval_operations (globals_at c p) i e (told_of c story) true) P → IfSome (outcome_at interval_operations (globals_at c p) i e (told_of c story) false) P → Whatever interval_operations c p story i e P
by_answers c p i e P held failed w (true, comes) = subst (λ (x : Option (Outcome Interval)). IfSome x P) comes held
by_answers c p i e P held failed w (false, comes) = subst (λ (x : Option (Outcome Interval)). IfSome x P) comes failed

-- what each rule asks of `print`
asks_hello : (c : Claims Interval) → Leads interval_operations c 0 (globals_at c 798) bare 803 → HasFixedText story (frozen_in c) 799 → (rule : Rule) → Asks interval_operations c story 798 bare_entry hello rule
unfolding hello bare bare_entry operation_of demands_of outcome_of
asks_hello c leads text rules.Decodes = tt
asks_hello c leads text rules.Height = λ known. (omega arith, tt)
asks_hello c leads text rules.Local = λ known. (tt, tt, tt)
asks_hello c leads text rules.Successor = λ divides reads knows begins. (refl, by_answers c 798 hello bare _ (λ low. (803, refl, leads)) tt)
asks_hello c leads text rules.Object = (tt, tt)
asks_hello c leads text rules.Attribute = tt
asks_hello c leads text rules.Property = tt
asks_hello c leads text rules.Divisor = tt
asks_hello c leads text rules.Write = (tt, tt)
asks_hello c leads text rules.Read = (tt, tt)
asks_hello c leads text rules.Text = (text, tt, tt)
asks_hello c leads text rules.Called = by_answers c 798 hello bare _ tt tt
asks_hello c leads text rules.Returned = by_answers c 798 hello bare _ tt tt
asks_hello c leads text rules.Buffers = tt
asks_hello c leads text rules.Known = tt
asks_hello c leads text rules.Stored = by_answers c 798 hello bare _ (tt, tt, tt) tt
asks_hello c leads text rules.High = by_answers c 798 hello bare _ (omega arith) tt
asks_hello c leads text rules.Status = tt

-- of `new_line`, which prints no text
asks_line : (c : Claims Interval) → Leads interval_operations c 0 (globals_at c 803) bare 804 → (rule : Rule) → Asks interval_operations c story 803 bare_entry line rule
unfolding line bare bare_entry operation_of demands_of outcome_of
asks_line c leads rules.Decodes = tt
asks_line c leads rules.Height = λ known. (omega arith, tt)
asks_line c leads rules.Local = λ known. (tt, tt, tt)
asks_line c leads rules.Successor = λ divides reads knows begins. (refl, by_answers c 803 line bare _ (λ low. (804, refl, leads)) tt)
asks_line c leads rules.Object = (tt, tt)
asks_line c leads rules.Attribute = tt
asks_line c leads rules.Property = tt
asks_line c leads rules.Divisor = tt
asks_line c leads rules.Write = (tt, tt)
asks_line c leads rules.Read = (tt, tt)
asks_line c leads rules.Text = (tt, tt, tt)
asks_line c leads rules.Called = by_answers c 803 line bare _ tt tt
asks_line c leads rules.Returned = by_answers c 803 line bare _ tt tt
asks_line c leads rules.Buffers = tt
asks_line c leads rules.Known = tt
asks_line c leads rules.Stored = by_answers c 803 line bare _ (tt, tt, tt) tt
asks_line c leads rules.High = by_answers c 803 line bare _ (omega arith) tt
asks_line c leads rules.Status = tt

-- and of `quit`, of which nothing comes
asks_stop : (c : Claims Interval) (rule : Rule) → Asks interval_operations c story 804 bare_entry stop rule
unfolding stop bare bare_entry operation_of demands_of outcome_of
asks_stop c rules.Decodes = tt
asks_stop c rules.Height = λ known. (omega arith, tt)
asks_stop c rules.Local = λ known. (tt, tt, tt)
asks_stop c rules.Successor = λ divides reads knows begins. (refl, by_answers c 804 stop bare _ tt tt)
asks_stop c rules.Object = (tt, tt)
asks_stop c rules.Attribute = tt
asks_stop c rules.Property = tt
asks_stop c rules.Divisor = tt
asks_stop c rules.Write = (tt, tt)
asks_stop c rules.Read = (tt, tt)
asks_stop c rules.Text = (tt, tt, tt)
asks_stop c rules.Called = by_answers c 804 stop bare _ tt tt
asks_stop c rules.Returned = by_answers c 804 stop bare _ tt tt
asks_stop c rules.Buffers = tt
asks_stop c rules.Known = tt
asks_stop c rules.Stored = by_answers c 804 stop bare _ tt tt
asks_stop c rules.High = by_answers c 804 stop bare _ tt tt
asks_stop c rules.Status = tt

-- an instruction stands at a place of static memory
there_at : (p : ℕ) (i : Instruction) → 606 ≤ p → instruction_at (drop p memory) ≡ Ok i → IsThere story p i
unfolding story
there_at p i above reads = record { static = let at = places.3 in omega (arith, at, above); decodes = reads }

-- the text behind the first opcode byte
hello_stays : HasFixedText story (λ p. false) 799
unfolding story memory
hello_stays = record { text = 0x35 ∷ 0x51 ∷ 0xC6 ∷ 0x85 ∷ []; found = refl; fixed = λ p within. fixed p (omega (arith, within.0)) }

leads_on : Leads interval_operations claims 0 claims.globals bare 803 × Leads interval_operations claims 0 claims.globals bare 804
unfolding claims claims_at certificate_at at_bare bare_entry bare
leads_on =
    let bare_here : Entry Interval = record { routine = 0; shape = record { locals = []; slots = [] } } in
    (record { entry = bare_here; listed = refl; same = refl; covered = record { locals = tt; slots = tt }; implied = tt }, record { entry = bare_here; listed = refl; same = refl; covered = record { locals = tt; slots = tt }; implied = tt })

pub first_keeps : (rule : Rule) → Keeps interval_operations claims story 798 bare_entry rule
unfolding claims claims_at certificate_at
first_keeps rule = (asks_keeps interval_operations claims story 798 bare_entry hello (there_at 798 hello (omega arith) reads.0) rule).0 (asks_hello claims leads_on.0 hello_stays rule)

-- where what follows isn't listed, that is the lowest rule that is broken
pub alone : IsLowestBroken interval_operations (claims_at (798 ∷ [])) story 798 bare_entry rules.Successor
unfolding claims_at certificate_at at_bare bare_entry bare hello operation_of demands_of outcome_of claims
alone = record {
  broken = λ keeps.
      let asks : Asks interval_operations (claims_at (798 ∷ [])) story 798 bare_entry hello rules.Successor = keeps hello (there_at 798 hello (omega arith) reads.0) in
      let edge : GoesOn interval_operations (claims_at (798 ∷ [])) 0 0 (claims_at (798 ∷ [])).globals bare 803 (Ahead (pos 0)) = (asks tt (tt, tt) tt (by_answers (claims_at (798 ∷ [])) 798 hello bare _ tt tt)).1 goes_on (true, refl) (omega arith) in
      unlisted edge;
  before = before;
}
  where
    unlisted : GoesOn interval_operations (claims_at (798 ∷ [])) 0 0 (claims_at (798 ∷ [])).globals bare 803 (Ahead (pos 0)) → ⊥
    unlisted (to, same, leads) = let at : to ≡ 803 = cc in let listed = subst (λ (q : ℕ). (claims_at (798 ∷ [])).entry q ≡ Some leads.entry) at leads.listed in cc

    before : (other : Rule) → number_of other < 4 → Keeps interval_operations (claims_at (798 ∷ [])) story 798 bare_entry other
    before rules.Decodes less = first_keeps rules.Decodes
    before rules.Height less = first_keeps rules.Height
    before rules.Local less = first_keeps rules.Local
    before rules.Successor less = absurd (omega (arith, less))
    before rules.Object less = absurd (omega (arith, less))
    before rules.Attribute less = absurd (omega (arith, less))
    before rules.Property less = absurd (omega (arith, less))
    before rules.Divisor less = absurd (omega (arith, less))
    before rules.Write less = absurd (omega (arith, less))
    before rules.Read less = absurd (omega (arith, less))
    before rules.Text less = absurd (omega (arith, less))
    before rules.Called less = absurd (omega (arith, less))
    before rules.Returned less = absurd (omega (arith, less))
    before rules.Buffers less = absurd (omega (arith, less))
    before rules.Known less = absurd (omega (arith, less))
    before rules.Stored less = absurd (omega (arith, less))
    before rules.High less = absurd (omega (arith, less))
    before rules.Status less = absurd (omega (arith, less))

pub rest_keep : ((rule : Rule) → Keeps interval_operations claims story 803 bare_entry rule) × ((rule : Rule) → Keeps interval_operations claims story 804 bare_entry rule)
unfolding claims claims_at certificate_at
rest_keep = (
  λ rule. (asks_keeps interval_operations claims story 803 bare_entry line (there_at 803 line (omega arith) reads.1) rule).0 (asks_line claims leads_on.1 rule),
  λ rule. (asks_keeps interval_operations claims story 804 bare_entry stop (there_at 804 stop (omega arith) reads.2) rule).0 (asks_stop claims rule),
)

-- no stack is high
low : (p : ℕ) (e : Entry Interval) → claims.entry p ≡ Some e → length e.shape.slots ≤ 64
unfolding claims bare_entry bare
low = each_listed (λ p e. length e.shape.slots ≤ 64) (798 ∷ 803 ∷ 804 ∷ []) (omega arith, (omega arith, (omega arith, tt)))

-- so the claims hold
pub supports : Supports interval_operations claims story
unfolding claims claims_at certificate_at story
supports = record {
  first = first_place;
  heads = record { even = λ p k begins. absurd cc; static = λ p k begins. absurd cc; there = λ p k begins. absurd cc };
  values = values;
  low = low;
  few = omega arith;
  properties = record {
    tables = λ object first last. absurd (omega (arith, first, last));
    frames_still = λ p frame changing. absurd (let first = frame.first in let last = frame.last in omega (arith, first, last));
    data_still = λ p inside changing. absurd (let first = inside.first in let last = inside.last in omega (arith, first, last));
    data_open = λ p inside closed. absurd (let first = inside.first in let last = inside.last in omega (arith, first, last));
  };
  tree = record { small = λ link object least most. absurd (omega (arith, least, most)) };
  abbreviations = record { plain = plain; unchanging = abbreviations_stay };
  tables = tables;
  each = λ p e listed unmarked. each_listed (λ p e. (rule : Rule) → Keeps interval_operations claims story p e rule) (798 ∷ 803 ∷ 804 ∷ []) (first_keeps, (rest_keep.0, (rest_keep.1, tt))) p e listed;
}

-- the story could be loaded: its dictionary has no entry, and there is no room for an object
pub loaded : IsLoadedStory story
unfolding story memory
loaded = record {
  sound = record {
    bytes = bytes_tested story.memory refl;
    least_length = omega arith;
    greatest_length = omega arith;
    version = refl;
    static_base_above = omega arith;
    static_base_within = omega arith;
    globals_above = omega arith;
    globals_within = omega arith;
    defaults_above = omega arith;
    defaults_within = omega arith;
    dictionary_above = omega arith;
    dictionary_within = omega arith;
    entries_long = omega arith;
    entries_ordered = λ entry more. absurd (omega (arith, more));
    first_instruction_above = omega arith;
    first_instruction_within = omega arith;
  };
  counted = record {
    within = omega arith;
    entries = λ object some few. absurd (omega (arith, some, few));
    greatest = greatest;
  };
}
  where
    greatest : (other : ℕ) → other ≤ 255 → HasEntries memory other → other ≤ 0
    greatest zero small entries = omega arith
    greatest (suc k) small entries = let fits : 615 ≤ 606 = (entries 1 (omega arith) (omega arith)).dynamic in absurd (omega (arith, fits))

-- and describe the state in which the story opens
pub opens : (limit : ℕ) → Described interval_operations claims limit story (opening story)
opens limit = opening_described interval_operations claims story limit loaded supports

-- ---- shapes

-- a set that says more covers one that says less, and not the other way round; heights are equal
wide : Shape Interval
wide = record { locals = all_words ∷ []; slots = point 7 ∷ [] }

narrow : Shape Interval
narrow = record { locals = point 4 ∷ []; slots = point 7 ∷ [] }

covered : Covers interval_operations narrow wide
unfolding narrow wide
covered = record { locals = (λ x inside. interval_sound.any x inside.word, tt); slots = (λ x inside. inside, tt) }

not_covered : (Covers interval_operations wide narrow → ⊥) × (Covers interval_operations (below 1 narrow) narrow → ⊥) × (Covers interval_operations narrow (below 1 wide) → ⊥)
unfolding narrow wide
not_covered = (λ covers. (covers.locals.0 5 (interval_sound.any 5 (omega arith))).member.1.le, λ covers. covers.slots, λ covers. covers.slots)

-- ---- callers

-- routine 1 gives 5, which its caller takes at 900 as its only slot
calling : Claims Interval
calling = record { ranges = []; globals = []; entry = λ p. if p == 900 then Some (record { routine = 0; shape = record { locals = []; slots = point 5 ∷ [] } }) else None; facts = λ p. []; result = λ r. point 5; routine_at = λ p. None }

caller : Frame
caller = record { return_place = 0; result = 0; supplied = 0; locals = []; stack = [] }

called : Callers interval_operations calling 1 900 0 (caller ∷ [])
unfolding calling caller
called = (omega arith, record { routine = 0; shape = record { locals = []; slots = point 5 ∷ [] } }, refl, λ x inside. record { in_locals = tt; in_slots = (inside, tt) }, tt, refl)

-- not by the main code, nor where nothing is listed, nor where what is given goes elsewhere; and only the main code has no caller
not_called : (Callers interval_operations calling 0 900 0 (caller ∷ []) → ⊥) × (Callers interval_operations calling 1 901 0 (caller ∷ []) → ⊥) × (Callers interval_operations calling 1 900 1 (caller ∷ []) → ⊥) × (Callers interval_operations calling 1 0 0 [] → ⊥)
unfolding calling caller
not_called = (λ c. omega (arith, c.0), λ c. let listed = c.2 in cc, λ c. omega (arith, (c.3 5 (interval_sound.single 5 (omega arith))).0), λ c. omega (arith, c))

-- ---- texts of which some are whole

-- a text of two words, of one, and one that goes on to the end of memory
reaches : (read_length (0x01 ∷ 0x02 ∷ 0x83 ∷ 0x04 ∷ 0x05 ∷ []) 0 ≡ 4) × (read_length (0x81 ∷ 0x02 ∷ 0x03 ∷ 0x04 ∷ []) 0 ≡ 2) × (read_length (0x01 ∷ 0x02 ∷ 0x03 ∷ 0x04 ∷ 0x05 ∷ []) 1 ≡ 4)
reaches = (refl, refl, refl)

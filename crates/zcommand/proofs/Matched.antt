-- What is read of the matches of a command.
use Rattle.std.proofs.Common.{◌≡◌, ◌∙◌, ◌&&◌, ◌≤◌, ℕ, Bool, true, false, true≢false, not, refl, sym, ap, ap₂, subst, List, [], ◌∷◌, length, IfSome, IsSomeAnd, Option, Some, None, Result, Ok, Err, lt-ltb, ltb-true, leb-true, nat_le, nat_lt, ◌<◌, ◌^◌, arith, if◌then◌else◌, option_and_then}
use Rattle.std.specs.Prelude.{Box, codes, is_some, option_map, unwrap_or, map}
use Rattle.std.specs.Box.{box_value}
use Rattle.std.specs.Option.{UnwrapsOrElse, option_map_or}
use Rattle.std.specs.declared.alloc.Global.{Global}
use Rattle.clap.specs.declared.parser.matches.Found.{Found}
use Rattle.clap.specs.declared.parser.matches.SubCommand.{SubCommand}
use Rattle.std.specs.List.{list_all}
use Rattle.std.specs.Borrow.{Bor}
use Rattle.std.specs.Char.{digit_value}
use Rattle.std.specs.Str.{bytes_eq}
use Rattle.std.specs.Str.Parse.{AllDigits, ParsesBool, ParsesUnsigned, digits_value, without_leading_plus}
use Rattle.std.proofs.lemmas.Slice.Eq.{bytes_eq-Decides}
use Rattle.clap.proofs.WalkLemmas.{both, first_value-rows, one_text-rows, raw_values-rows}
use Rattle.clap.specs.Words.{ReadsOne, Row, Text, first_of, first_value, matched_of, one_of, one_text, raw_values, rows_of, subcommand_name_of, subcommand_rows_of}
use Rattle.clap.specs.declared.parser.matches.ArgMatches.{ArgMatches}
use Rattle.clap.specs.declared.parser.matches.ArgMatches.TheViews.{out-ArgMatches, out-SubCommand}
use Rattle.clap.specs.Simple.{subcommand_rows}
use Rattle.zcommand.specs.CommandLine.{Front, IsLow, IsReadFrom, address_of, certificate_of, code_of, debug_asked, files_of, fitting, fitting_in, frames_of, front_named, front_of, is_asked, is_commands_asked, is_limit, is_no_save_asked, is_plain_asked, is_width, number_in, number_of, out_of, output_of, packed_of, pair_of, save_of, story_of, target_of, width_of}
use Rattle.zcommand.specs.declared.words.Command.{Command}
use Rattle.zcommand.specs.declared.words.Command.TheVariants as commands
use Rattle.zcommand.specs.declared.words.Front.{Front as NamedFront}

digits_pass : (ds : List ℕ) → AllDigits 10 ds → list_all (λ d. nat_lt (digit_value d) 10) ds ≡ true
digits_pass [] h = refl
digits_pass (d ∷ ds) h = rw (lt-ltb (digit_value d) 10 h.0) (digits_pass ds h.1)

digits_from : (ds : List ℕ) → list_all (λ d. nat_lt (digit_value d) 10) ds ≡ true → AllDigits 10 ds
digits_from [] e = tt
digits_from (d ∷ ds) e =
    let parts = both _ _ e in
    (ltb-true _ _ parts.0, digits_from ds parts.1)

abbrev is_number : ℕ → List ℕ → Bool
is_number bits ds = nat_lt 0 (length ds) && list_all (λ d. nat_lt (digit_value d) 10) ds && nat_lt (digits_value 10 ds) (2 ^ bits)

-- what parsing a text makes of it is the number in it
number_read : {E : Type 0} (bits : ℕ) (text : Text) (r : Result ℕ E) → ParsesUnsigned bits 10 text r → (n : ℕ) → r ≡ Ok n → n ≡ number_in bits text
number_read bits text (Ok m) h n e =
    let ds = without_leading_plus text in
    let value : m ≡ number_in bits text = rw (lt-ltb 0 (length ds) h.0.0.0, digits_pass ds h.0.0.1, lt-ltb (digits_value 10 ds) (2 ^ bits) h.0.1) h.1 in
    cc
number_read bits text (Err x) h n e = cc

no_number : {E : Type 0} (bits : ℕ) (text : Text) (e : E) → ParsesUnsigned bits 10 text (Err e) → 0 ≡ number_in bits text
no_number bits text e h = go (is_number bits (without_leading_plus text)) refl
  where
    go : (b : Bool) → is_number bits (without_leading_plus text) ≡ b → 0 ≡ number_in bits text
    go false t = rw t refl
    go true t =
        let outer = both _ _ t in
        let inner = both _ _ outer.0 in
        absurd (h ((ltb-true _ _ inner.0, digits_from (without_leading_plus text) inner.1), ltb-true _ _ outer.1))

-- what the getter of texts gives, or else the empty text
text_read : (name : Text) (found : Found) (o : Option (Bor Text)) (d r : Bor Text) → option_map (λ s. s.now) o ≡ first_value found name → d.now ≡ [] → r ≡ unwrap_or o d
    → r.now ≡ unwrap_or (first_of name (rows_of found)) []
text_read name found o d r given empty is =
    ap (λ (s : Bor Text). s.now) is ∙ default o d empty ∙ ap (λ (x : Option Text). unwrap_or x []) (given ∙ first_value-rows found name)
  where
    default : (o : Option (Bor Text)) (d : Bor Text) → d.now ≡ [] → (unwrap_or o d).now ≡ unwrap_or (option_map (λ s. s.now) o) []
    default None d e = e
    default (Some s) d e = refl

pub story_read : (found : Found) (o : Option (Bor Text)) (d r : Bor Text) → option_map (λ s. s.now) o ≡ first_value found (codes "STORY") → d.now ≡ [] → r ≡ unwrap_or o d → r.now ≡ story_of (rows_of found)
story_read = text_read (codes "STORY")

-- and of the files of a save and of what is made of it
pub packed_read : (found : Found) (o : Option (Bor Text)) (d r : Bor Text) → option_map (λ s. s.now) o ≡ first_value found (codes "SAVE") → d.now ≡ [] → r ≡ unwrap_or o d → r.now ≡ packed_of (rows_of found)
packed_read = text_read (codes "SAVE")

pub out_read : (found : Found) (o : Option (Bor Text)) (d r : Bor Text) → option_map (λ s. s.now) o ≡ first_value found (codes "OUT") → d.now ≡ [] → r ≡ unwrap_or o d → r.now ≡ out_of (rows_of found)
out_read = text_read (codes "OUT")

-- what the getter of several texts gives, or else none
pub files_read : (found : Found) (o : Option (Bor (List (Bor Text)))) (r : Bor (List (Bor Text))) → option_map (λ s. map (λ v. v.now) s.now) o ≡ option_map raw_values (matched_of found (codes "FILE")) → UnwrapsOrElse o (λ x. x.now ≡ []) r
    → map (λ v. v.now) r.now ≡ files_of (rows_of found)
files_read found o r given is = default o r is ∙ ap (λ (x : Option (List Text)). unwrap_or x []) (given ∙ raw_values-rows found (codes "FILE"))
  where
    default : (o : Option (Bor (List (Bor Text)))) (r : Bor (List (Bor Text))) → UnwrapsOrElse o (λ x. x.now ≡ []) r → map (λ v. v.now) r.now ≡ unwrap_or (option_map (λ s. map (λ v. v.now) s.now) o) []
    default None r e = ap (map (λ (v : Bor Text). v.now)) e
    default (Some s) r e = ap (λ (s : Bor (List (Bor Text))). map (λ (v : Bor Text). v.now) s.now) e

-- what names the files of a pair
abbrev pub names_of : Option (Bor Text × Bor Text) → Option (Text × Text)
names_of o = option_map (λ pair. (pair.0.now, pair.1.now)) o

-- a story and its certificate's file among the files, or none
pub pair_read : (read files : List Text) (o : Option (Bor Text × Bor Text)) → names_of o ≡ pair_of read → read ≡ files → names_of o ≡ pair_of files
pair_read read files o given same = given ∙ ap pair_of same

-- and so among the files and what `-o` names
pub target_read : (read files : List Text) (named output : Option Text) (o : Option (Bor Text × Bor Text)) → names_of o ≡ target_of read named → read ≡ files → named ≡ output → names_of o ≡ target_of files output
target_read read files named output o given same also = given ∙ ap₂ target_of same also

-- where there is no target
pub no_target : (o : Option (Bor Text × Bor Text)) (is_none : Bool) → is_some o ≡ not is_none → is_none ≡ true → names_of o ≡ None
no_target None is_none is so = refl
no_target (Some target) true is so = absurd (true≢false is)
no_target (Some target) false is so = absurd (true≢false (sym so))

-- where an `-o` is there, and where there is none
pub output_there : (o : Option (Bor Text)) (output : Option Text) (there : Bool) → there ≡ is_some o → there ≡ true → option_map (λ s. s.now) o ≡ output → is_some output ≡ true
output_there None output there is so same = absurd (true≢false (sym so ∙ is))
output_there (Some name) output there is so same = ap is_some (sym same)

pub no_output : (o : Option (Bor Text)) (output : Option Text) (there : Bool) → there ≡ is_some o → there ≡ false → option_map (λ s. s.now) o ≡ output → output ≡ None
no_output None output there is so same = sym same
no_output (Some name) output there is so same = absurd (true≢false (sym is ∙ so))

-- there is no target, and it is said that there is one
pub no_target_there : (o : Option (Bor Text × Bor Text)) (is_none : Bool) → is_some o ≡ not is_none → is_none ≡ false → o ≡ None → ⊥
no_target_there o is_none is so none = true≢false (sym (ap not so) ∙ sym is ∙ ap is_some none)

-- what the getter of texts gives of a certificate, and else the empty text
pub certificate_given : (found : Found) (o : Option (Bor Text)) → option_map (λ s. s.now) o ≡ first_value found (codes "CERT") → option_map (λ s. s.now) o ≡ certificate_of (rows_of found)
certificate_given found o given = given ∙ first_value-rows found (codes "CERT")

-- of an address
pub address_given : (found : Found) (o : Option (Bor Text)) → option_map (λ s. s.now) o ≡ first_value found (codes "ADDRESS") → option_map (λ s. s.now) o ≡ address_of (rows_of found)
address_given found o given = given ∙ first_value-rows found (codes "ADDRESS")

-- of a code
pub code_given : (found : Found) (o : Option (Bor Text)) → option_map (λ s. s.now) o ≡ first_value found (codes "CODE") → option_map (λ s. s.now) o ≡ code_of (rows_of found)
code_given found o given = given ∙ first_value-rows found (codes "CODE")

-- of the file that `-o` names
pub output_given : (found : Found) (o : Option (Bor Text)) → option_map (λ s. s.now) o ≡ first_value found (codes "output") → option_map (λ s. s.now) o ≡ output_of (rows_of found)
output_given found o given = given ∙ first_value-rows found (codes "output")

-- and of a file for saves
pub save_given : (found : Found) (o : Option (Bor Text)) → option_map (λ s. s.now) o ≡ first_value found (codes "save") → option_map (λ s. s.now) o ≡ save_of (rows_of found)
save_given found o given = given ∙ first_value-rows found (codes "save")

-- of the file of debug information, which the matches of a subcommand have, whose rows are these
pub debug_given : (found : Found) (named : Option (Text × List Row)) (o : Option (Bor Text)) → option_map (λ s. s.now) o ≡ first_value found (codes "debug")
    → Some (rows_of found) ≡ option_map (λ p. p.1) named → option_map (λ s. s.now) o ≡ debug_asked named
debug_given found (Some (name, rows)) o given at =
    given ∙ first_value-rows found (codes "debug") ∙ ap (λ (x : Option (List Row)). first_of (codes "debug") (unwrap_or x [])) at
debug_given found None o given at = absurd cc

pub certificate_read : (found : Found) (o : Option (Bor Text)) (d r : Bor Text) → option_map (λ s. s.now) o ≡ first_value found (codes "CERT") → d.now ≡ [] → r ≡ unwrap_or o d → r.now ≡ unwrap_or (certificate_of (rows_of found)) []
certificate_read = text_read (codes "CERT")

-- what the getter of numbers gives, or else 0
pub number_given : {E : Type 0} (bits : ℕ) (name : Text) (G : List ℕ → Result ℕ E → Type 0) (found : Found) (o : Option ℕ) (r : ℕ)
    → (one_text found name ≡ None → o ≡ None) → ((t : Text) → one_text found name ≡ Some t → ReadsOne G t o)
    → ((t : Text) (x : Result ℕ E) → G t x → ParsesUnsigned bits 10 t x)
    → r ≡ unwrap_or o 0 → r ≡ number_of bits name (rows_of found)
number_given {E} bits name G found o r none given parses is =
    is ∙ go (one_text found name) refl o none given ∙ ap (λ (x : Option Text). option_map_or (number_in bits) x 0) (one_text-rows found name)
  where
    read : (t : Text) (o : Option ℕ) → ReadsOne G t o → unwrap_or o 0 ≡ number_in bits t
    read t (Some n) h = number_read {E = E} bits t (Ok n) (parses t (Ok n) h) n refl
    read t None h = no_number bits t h.0 (parses t (Err h.0) h.1)

    go : (x : Option Text) → one_text found name ≡ x → (o : Option ℕ)
        → (one_text found name ≡ None → o ≡ None) → ((t : Text) → one_text found name ≡ Some t → ReadsOne G t o)
        → unwrap_or o 0 ≡ option_map_or (number_in bits) x 0
    go None e o none given = ap (λ (y : Option ℕ). unwrap_or y 0) (none e)
    go (Some t) e o none given = read t o (given t e)

-- numbers that fit are below 2 to the 16th
module _ (fits : ℕ → Bool) (small : (n : ℕ) → fits n ≡ true → n < 65536) where
  abbrev are_fitting : List ℕ → Bool
  are_fitting ds = nat_lt 0 (length ds) && list_all (λ d. nat_lt (digit_value d) 10) ds && fits (digits_value 10 ds)

  -- what parsing a text makes of it is the number in it, where it fits
  fitting_read : {E : Type 0} (text : Text) (r : Result ℕ E) → ParsesUnsigned 16 10 text r → (n : ℕ) → r ≡ Ok n → fitting fits n ≡ fitting_in fits text
  fitting_read text (Ok m) h n e =
      let ds = without_leading_plus text in
      let value : fitting fits (digits_value 10 ds) ≡ fitting_in fits text = rw (lt-ltb 0 (length ds) h.0.0.0, digits_pass ds h.0.0.1) refl in
      let said : m ≡ digits_value 10 ds = h.1 in
      let same : n ≡ digits_value 10 ds = cc in
      ap (fitting fits) same ∙ value
  fitting_read text (Err x) h n e = cc

  none_fitting : {E : Type 0} (text : Text) (e : E) → ParsesUnsigned 16 10 text (Err e) → None ≡ fitting_in fits text
  none_fitting text e h = go (are_fitting (without_leading_plus text)) refl
    where
      go : (b : Bool) → are_fitting (without_leading_plus text) ≡ b → None ≡ fitting_in fits text
      go false t = rw t refl
      go true t =
          let ds = without_leading_plus text in
          let outer = both (nat_lt 0 (length ds) && list_all (λ d. nat_lt (digit_value d) 10) ds) (fits (digits_value 10 ds)) t in
          let inner = both (nat_lt 0 (length ds)) (list_all (λ d. nat_lt (digit_value d) 10) ds) outer.0 in
          absurd (h ((ltb-true _ _ inner.0, digits_from ds inner.1), small (digits_value 10 ds) outer.1))

  -- what the getter of numbers gives, where it fits
  pub fitting_given : {E : Type 0} (name : Text) (G : List ℕ → Result ℕ E → Type 0) (found : Found) (o r : Option ℕ)
      → (one_text found name ≡ None → o ≡ None) → ((t : Text) → one_text found name ≡ Some t → ReadsOne G t o)
      → ((t : Text) (x : Result ℕ E) → G t x → ParsesUnsigned 16 10 t x)
      → r ≡ option_and_then (fitting fits) o → r ≡ option_map_or (fitting_in fits) (one_of name (rows_of found)) None
  fitting_given {E} name G found o r none given parses is =
      is ∙ go (one_text found name) refl o none given ∙ ap (λ (x : Option Text). option_map_or (fitting_in fits) x None) (one_text-rows found name)
    where
      read : (t : Text) (o : Option ℕ) → ReadsOne G t o → option_and_then (fitting fits) o ≡ fitting_in fits t
      read t (Some n) h = fitting_read {E = E} t (Ok n) (parses t (Ok n) h) n refl
      read t None h = none_fitting t h.0 (parses t (Err h.0) h.1)

      go : (x : Option Text) → one_text found name ≡ x → (o : Option ℕ)
          → (one_text found name ≡ None → o ≡ None) → ((t : Text) → one_text found name ≡ Some t → ReadsOne G t o)
          → option_and_then (fitting fits) o ≡ option_map_or (fitting_in fits) x None
      go None e o none given = ap (λ (y : Option ℕ). option_and_then (fitting fits) y) (none e)
      go (Some t) e o none given = read t o (given t e)

  -- a number that is among the matches fits
  fitting_among : (P : ℕ → Type 0) → ((n : ℕ) → fits n ≡ true → P n) → (x : Option Text) → IfSome (option_map_or (fitting_in fits) x None) P
  fitting_among P holds None = tt
  fitting_among P holds (Some text) = go (are_fitting (without_leading_plus text)) refl
    where
      go : (b : Bool) → are_fitting (without_leading_plus text) ≡ b → IfSome (if b then Some (digits_value 10 (without_leading_plus text)) else None) P
      go true t = holds _ (both _ _ t).1
      go false t = tt

-- a limit is at most 4096, and a width from 1 to 1000
limit_fits : (n : ℕ) → is_limit n ≡ true → n ≤ 4096
limit_fits n e = leb-true n 4096 e

width_fits : (n : ℕ) → is_width n ≡ true → (0 < n) × (n ≤ 1000)
width_fits n e =
    let parts = both (nat_lt 0 n) (nat_le n 1000) e in
    (ltb-true 0 n parts.0, leb-true n 1000 parts.1)

pub small_limit : (n : ℕ) → is_limit n ≡ true → n < 65536
small_limit n e =
    let most : n ≤ 4096 = limit_fits n e in
    omega (arith, most)

pub small_width : (n : ℕ) → is_width n ≡ true → n < 65536
small_width n e =
    let most : n ≤ 1000 = (width_fits n e).1 in
    omega (arith, most)

frames_are_low : (rows : List Row) → IfSome (frames_of rows) (λ n. n ≤ 4096)
frames_are_low rows = fitting_among is_limit small_limit (λ n. n ≤ 4096) limit_fits (one_of (codes "frames") rows)

-- what is read of matches asks for no limit above the greatest
low_among : (matches : Text × List Row) (command : Command) → IsReadFrom matches command → IsLow command
low_among matches (commands.List story certificate json) h = tt
low_among matches (commands.Find story certificate frames strict places force json) (named, target, (is, strictly, told, forced, asked)) = subst (λ (o : Option ℕ). IfSome o (λ n. n ≤ 4096)) (sym is) (frames_are_low matches.1)
low_among matches (commands.FindEach stories frames strict places force json) (named, target, beside, all, (is, strictly, told, forced, asked)) = subst (λ (o : Option ℕ). IfSome o (λ n. n ≤ 4096)) (sym is) (frames_are_low matches.1)
low_among matches commands.OneForMany h = tt
low_among matches (commands.Check story certificate json) h = tt
low_among matches (commands.CheckEach stories json) h = tt
low_among matches (commands.Show story certificate address) h = tt
low_among matches (commands.Play story certificate seed budget status save tell force lenient) h = tt
low_among matches (commands.Info story json) h = tt
low_among matches (commands.Explain code json) h = tt
low_among matches (commands.Unpack story save out force) h = tt

pub low_if_read : (found : Option (Text × List Row)) (command : Command) → IsSomeAnd found (λ matches. IsReadFrom matches command) → IsLow command
low_if_read (Some matches) command h = low_among matches command h
low_if_read None command h = absurd h

-- what the getter of flags gives, or else false
pub flag_read : (name : Text) (E : Type 0) (found : Found) (o : Option Bool) (r : Bool)
    → (one_text found name ≡ None → o ≡ None) → ((t : Text) → one_text found name ≡ Some t → ReadsOne (ParsesBool {E = E}) t o)
    → r ≡ unwrap_or o false → r ≡ is_asked name (rows_of found)
flag_read name E found o r none given is =
    is ∙ go (one_text found name) refl o none given ∙ ap (λ (x : Option Text). option_map_or (λ t. bytes_eq t (codes "true")) x false) (one_text-rows found name)
  where
    unread : (t : Text) (b : Bool) → bytes_eq t (codes "true") ≡ b → (t ≡ codes "true" → ⊥) → false ≡ b
    unread t true e other = absurd (other ((bytes_eq-Decides t (codes "true")).0 e))
    unread t false e other = refl

    read : (t : Text) (o : Option Bool) → ReadsOne (ParsesBool {E = E}) t o → unwrap_or o false ≡ bytes_eq t (codes "true")
    read t (Some true) h = sym ((bytes_eq-Decides t (codes "true")).1 h)
    read t (Some false) h = sym (ap (λ (x : Text). bytes_eq x (codes "true")) h)
    read t None h = unread t (bytes_eq t (codes "true")) refl h.1.0

    go : (x : Option Text) → one_text found name ≡ x → (o : Option Bool)
        → (one_text found name ≡ None → o ≡ None) → ((t : Text) → one_text found name ≡ Some t → ReadsOne (ParsesBool {E = E}) t o)
        → unwrap_or o false ≡ option_map_or (λ t. bytes_eq t (codes "true")) x false
    go None e o none given = ap (λ (y : Option Bool). unwrap_or y false) (none e)
    go (Some t) e o none given = read t o (given t e)

-- the name of a subcommand is the first of the pair that is its matches
pub name_first : (m : ArgMatches) → option_map (λ p. p.0) (subcommand_rows_of m) ≡ subcommand_name_of m
name_first m = go (out-ArgMatches m).subcommand
  where
    go : (o : Option (Box SubCommand Global)) → option_map (λ p. p.0) (subcommand_rows o) ≡ option_map (λ b. (out-SubCommand (box_value b)).name.now) o
    go None = refl
    go (Some b) = refl

-- the matches of a subcommand of this name
pub rows_named : (m : ArgMatches) (name : Text) (rows : List Row) → subcommand_name_of m ≡ Some name → option_map (λ p. p.1) (subcommand_rows_of m) ≡ Some rows → subcommand_rows_of m ≡ Some (name, rows)
rows_named m name rows named given = pair (subcommand_rows_of m) (name_first m ∙ named) given
  where
    pair : (o : Option (Text × List Row)) → option_map (λ p. p.0) o ≡ Some name → option_map (λ p. p.1) o ≡ Some rows → o ≡ Some (name, rows)
    pair None e f = cc
    pair (Some (n, rs)) e f = cc

-- what is read of how a play shows its text, and of its files of lines
pub front_read : (found : Found) (front : NamedFront) → front.width ≡ width_of (rows_of found) → front.plain ≡ is_plain_asked (rows_of found)
    → option_map (λ s. s.now) front.transcript ≡ first_value found (codes "transcript")
    → option_map (λ s. s.now) front.record ≡ first_value found (codes "record") → option_map (λ s. s.now) front.replay ≡ first_value found (codes "replay")
    → front.no_save ≡ is_no_save_asked (rows_of found) → front.commands ≡ is_commands_asked (rows_of found) → front_named front ≡ front_of (rows_of found)
front_read found front width plain told kept before unkept own =
    seven _ _ _ _ _ _ _ _ _ _ _ _ _ _ width plain (told ∙ first_value-rows found (codes "transcript")) (kept ∙ first_value-rows found (codes "record"))
    (before ∙ first_value-rows found (codes "replay")) unkept own
  where
    front_with : Option ℕ → Bool → Option Text → Option Text → Option Text → Bool → Bool → Front
    front_with width plain told kept before unkept own =
        record { width = width; plain = plain; transcript = told; typed_to = kept; typed_before = before; no_save = unkept; commands = own }

    seven : (w v : Option ℕ) (p q : Bool) (t u k l b c : Option Text) (n m o r : Bool) → w ≡ v → p ≡ q → t ≡ u → k ≡ l → b ≡ c → n ≡ m → o ≡ r
        → front_with w p t k b n o ≡ front_with v q u l c m r
    seven w v p q t u k l b c n m o r width plain told kept before unkept own = cc

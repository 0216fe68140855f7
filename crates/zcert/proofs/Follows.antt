-- How far a file has come by the bytes that were fed: each step further is a step of reading, wherever the file is cut.
use Rattle.std.proofs.Common.{◌≡◌, ◌≢◌, ℕ, ◌<◌, Bool, true, false, List, [], ◌∷◌, ◌++◌, length, Result, Ok, Err, Option, Some, None, refl, sym, ap, subst, ◌∙◌, append_assoc, length-append, arith, ◌⊎◌, inl, inr}
use Rattle.std.specs.Prelude.{IfOk, IfErr, ◌==◌, ◌&&◌}
use Rattle.std.specs.List.{flat_map}
use Rattle.std.proofs.lemmas.Bool.{cases_lt}
use Rattle.std.proofs.lemmas.List.{append-nil}
use Rattle.byteorder.specs.Endian.{big_number}
use Rattle.zcert.specs.declared.edition.Edition.{Edition}
use Rattle.zcert.specs.declared.error.CertError.{CertError}
use Rattle.zcert.specs.declared.error.CertError.TheVariants as errors
use Rattle.zcert.specs.declared.field.Field.{Field}
use Rattle.zcert.specs.declared.field.Turn.{Turn}
use Rattle.zcert.specs.declared.field.Turn.TheVariants as turns
use Rattle.zcert.specs.declared.stage.Stage.{Stage}
use Rattle.zcert.specs.declared.stage.Stage.TheVariants as stages
use Rattle.zcert.specs.declared.limits.TheConstants.{MAGIC, LIMIT_VERSION, MARK_VERSION, FACT_VERSION}
use Rattle.zcert.specs.Numbers.{number}
use Rattle.zcert.specs.Numbers as numbers
use Rattle.zcert.specs.Certificate.{Certificate}
use Rattle.zcert.specs.Steps.{◌>>=◌, need, sized_at}
use Rattle.zcert.specs.Format.{Format}
use Rattle.zcert.specs.Spelling.{heading, spelling, HasSpelling}
use Rattle.zcert.specs.Reading.{magic_at, edition_where, version_at, heading_at, reading}
use Rattle.zcert.specs.Building.{Progress, opening, taken}
use Rattle.zcert.specs.Fields.{field_bytes, field_at, next_at, NextAdds}
use Rattle.zcert.specs.Streaming.{Stream, FieldIsCut, IsCut, FieldsLead, Leads, IsFinal, IsRefusal, IsUnread, HasCome, IsFed, IsOpen}
use Rattle.zcert.specs.View.{Refuses, Answers}
use Rattle.zcert.specs.FormatLaw.Widths.{sized_short, sized_exact, sized_width}
use Rattle.zcert.specs.FormatLaw.{IsBytes, IsFormat}
use Rattle.zcert.proofs.Found.{found, magic_takes}
use Rattle.zcert.proofs.Only.{magic_again, only}
use Rattle.zcert.proofs.Rest.{rest_of, HasMore, reads_on, completes, opens}
use Rattle.zcert.proofs.FieldBytes.{fields_again}
use Rattle.zcert.proofs.Fixed.{field_stays}
use Rattle.zcert.proofs.Uncut.{uncut_need}
use Rattle.zcert.proofs.Makes.{after_heading}
use Rattle.zcert.proofs.Room.{plain_magic, plain_version, version_leads, read_next, leads_to_part}

-- with an error of both steps the rest ends in it
ends_too : {A B P C : Type 0} (first : Result A CertError) (second : A → Result P CertError) (pair : A → P → B) (k : A → P → Result C CertError) (e : CertError) → (first >>= λ x. second x >>= λ p. Ok (pair x p)) ≡ Err e → (first >>= λ x. second x >>= λ p. k x p) ≡ Err e
ends_too (Err d) second pair k e h = let same : d ≡ e = cc in ap (λ (x : CertError). Err x) same
ends_too (Ok x) second pair k e h = ends_then (second x) (pair x) (k x) e h
  where
    ends_then : {P B C : Type 0} (read : Result P CertError) (pair : P → B) (k : P → Result C CertError) (e : CertError) → (read >>= λ p. Ok (pair p)) ≡ Err e → (read >>= k) ≡ Err e
    ends_then (Err d) pair k e h = let same : d ≡ e = cc in ap (λ (x : CertError). Err x) same
    ends_then (Ok p) pair k e h = absurd cc

more_unless : {V : Type 0} (format : Format V) (t : Turn) (bytes : List ℕ) → 0 < length bytes → HasMore format t bytes
more_unless format turns.Complete [] h = absurd (omega (arith, h))
more_unless format turns.Complete (b ∷ bytes) h = tt
more_unless format _ bytes h = tt

-- ---- the magic and the version: a number of so many bytes, with a test

abbrev tested : {A B C : Type 0} → (B → List ℕ → C) → (A → Result B CertError) → Result (A × List ℕ) CertError → Result C CertError
tested pair test read = read >>= λ x. test x.0 >>= λ b. Ok (pair b x.1)

test_ends : {B C : Type 0} (u : Result B CertError) (f g : B → C) (e : CertError) → (u >>= λ b. Ok (f b)) ≡ Err e → (u >>= λ b. Ok (g b)) ≡ Err e
test_ends (Ok t) f g e h = absurd cc
test_ends (Err d) f g e h = let same : d ≡ e = cc in ap (λ (x : CertError). Err x) same

test_uncut : {B C : Type 0} (u : Result B CertError) (f : B → C) → u ≢ Err errors.Truncated → (u >>= λ b. Ok (f b)) ≢ Err errors.Truncated
test_uncut (Ok t) f uncut e = absurd cc
test_uncut (Err d) f uncut e = uncut (let same : d ≡ errors.Truncated = cc in ap (λ (x : CertError). Err x) same)

module _ {B C : Type 0} (n : ℕ) (pair : B → List ℕ → C) (test : ℕ → Result B CertError) where
  -- of exactly as many bytes it isn't cut off
  tested_whole : ((m : ℕ) → test m ≢ Err errors.Truncated) → (bytes : List ℕ) → length bytes ≡ n → tested pair test (sized_at n bytes) ≢ Err errors.Truncated
  tested_whole uncut bytes same e = test_uncut (test (big_number n bytes)) (λ b. pair b []) (uncut (big_number n bytes)) (sym (ap (tested pair test) (sized_exact n bytes same)) ∙ e)

  tested_short : (bytes : List ℕ) → length bytes < n → tested pair test (sized_at n bytes) ≡ Err errors.Truncated
  tested_short bytes lt = rw (sized_short n bytes lt) refl

  final_read : (r : Result (ℕ × List ℕ) CertError) (more : List ℕ) (e : CertError) → tested pair test r ≡ Err e → tested pair test (r >>= λ x. Ok (x.0, x.1 ++ more)) ≡ Err e
  final_read (Ok x) more e h = test_ends (test x.0) (λ b. pair b x.1) (λ b. pair b (x.1 ++ more)) e h
  final_read (Err d) more e h = let same : d ≡ e = cc in ap (λ (x : CertError). Err x) same

  tested_final : (bytes more : List ℕ) (e : CertError) → e ≢ errors.Truncated → tested pair test (sized_at n bytes) ≡ Err e → tested pair test (sized_at n (bytes ++ more)) ≡ Err e
  tested_final bytes more e whole h =
      elim (cases_lt (length bytes) n) [
        | inl lt ↦ absurd (whole (let both = sym (tested_short bytes lt) ∙ h in let same : e ≡ errors.Truncated = cc in same))
        | inr le ↦ ap (tested pair test) ((sized_width n).stays bytes more le) ∙ final_read (sized_at n bytes) more e h
      ]

uncut_magic : (m : ℕ) → need (m == MAGIC) errors.Magic ≢ Err errors.Truncated
uncut_magic m = uncut_need (m == MAGIC) errors.Magic (λ e. absurd cc)

uncut_edition : (plain limit mark fact : Bool) → edition_where plain limit mark fact ≢ Err errors.Truncated
uncut_edition true limit mark fact e = absurd cc
uncut_edition false true mark fact e = absurd cc
uncut_edition false false true fact e = absurd cc
uncut_edition false false false true e = absurd cc
uncut_edition false false false false e = absurd cc

abbrev rest_alone : Unit {0} → List ℕ → List ℕ
rest_alone u bytes = bytes

abbrev both_parts : Edition → List ℕ → Edition × List ℕ
both_parts edition bytes = (edition, bytes)

abbrev named_by : {V : Type 0} → Format V → ℕ → Result Edition CertError
named_by format m = edition_where (m == format.version) (format.limited && (m == LIMIT_VERSION)) (format.limited && (m == MARK_VERSION)) (format.limited && (m == FACT_VERSION))

pub magic_whole : (bytes : List ℕ) → length bytes ≡ 4 → magic_at bytes ≢ Err errors.Truncated
unfolding magic_at
magic_whole bytes same = tested_whole 4 rest_alone (λ m. need (m == MAGIC) errors.Magic) uncut_magic bytes same

pub magic_short : (bytes : List ℕ) → length bytes < 4 → magic_at bytes ≡ Err errors.Truncated
unfolding magic_at
magic_short bytes lt = tested_short 4 rest_alone (λ m. need (m == MAGIC) errors.Magic) bytes lt

magic_final : (bytes more : List ℕ) (e : CertError) → e ≢ errors.Truncated → magic_at bytes ≡ Err e → magic_at (bytes ++ more) ≡ Err e
unfolding magic_at
magic_final bytes more e whole h = tested_final 4 rest_alone (λ m. need (m == MAGIC) errors.Magic) bytes more e whole h

pub version_whole : {V : Type 0} (format : Format V) (bytes : List ℕ) → length bytes ≡ 1 → version_at format bytes ≢ Err errors.Truncated
unfolding version_at
version_whole format bytes same = tested_whole 1 both_parts (named_by format) (λ m. uncut_edition _ _ _ _) bytes same

pub version_short : {V : Type 0} (format : Format V) (bytes : List ℕ) → length bytes < 1 → version_at format bytes ≡ Err errors.Truncated
unfolding version_at
version_short format bytes lt = tested_short 1 both_parts (named_by format) bytes lt

version_final : {V : Type 0} (format : Format V) (bytes more : List ℕ) (e : CertError) → e ≢ errors.Truncated → version_at format bytes ≡ Err e → version_at format (bytes ++ more) ≡ Err e
unfolding version_at
version_final format bytes more e whole h = tested_final 1 both_parts (named_by format) bytes more e whole h

-- a refusal that is final, and isn't for want of bytes or memory
refusal_of : {V : Type 0} (format : Format V) (bytes : List ℕ) (e : CertError) → e ≢ errors.OutOfMemory → e ≢ errors.Truncated → IsFinal format bytes e → IsRefusal format bytes e
refusal_of format bytes errors.OutOfMemory plain whole final = absurd (plain refl)
refusal_of format bytes errors.Truncated plain whole final = absurd (whole refl)
refusal_of format bytes _ plain whole final = final

-- more bytes don't mend it
pub refusal_stays : {V : Type 0} (format : Format V) (bytes more : List ℕ) (e : CertError) → IsRefusal format bytes e → IsRefusal format (bytes ++ more) e
refusal_stays format bytes more errors.OutOfMemory r =
    record {
      edition = r.edition;
      allowed = r.allowed;
      fields = r.fields;
      last = r.last;
      rest = r.rest ++ more;
      each = r.each;
      before = r.before;
      reached = r.reached;
      led = r.led;
      adds = r.adds;
      spelled = ap (λ (l : List ℕ). l ++ more) r.spelled ∙ append_assoc (heading format r.edition) (flat_map (field_bytes format) (r.fields ++ r.last ∷ []) ++ r.rest) more ∙ ap (λ (l : List ℕ). heading format r.edition ++ l) (append_assoc (flat_map (field_bytes format) (r.fields ++ r.last ∷ [])) r.rest more);
    }
refusal_stays format bytes more errors.Truncated r = absurd r
refusal_stays format bytes more _ r = λ after. ap (reading format) (append_assoc bytes more after) ∙ r (more ++ after)

pub refusal_unread : {V : Type 0} (format : Format V) (bytes : List ℕ) (e : CertError) → IsRefusal format bytes e → IsUnread format bytes e
refusal_unread format bytes errors.OutOfMemory r = r
refusal_unread format bytes errors.Truncated r = absurd r
refusal_unread format bytes _ r = ap (reading format) (sym (append-nil bytes)) ∙ r []

-- a stream that refused its bytes
pub stream_refused : {V : Type 0} (format : Format V) (s : Stream V) (e : CertError) (fed : List ℕ) → s.refused ≡ Some e → IsFed format s fed → IsRefusal format fed e
stream_refused format s e fed same come = subst (λ (o : Option CertError). HasCome format o s fed) same come

-- one that didn't
pub stream_came : {V : Type 0} (format : Format V) (s : Stream V) (fed : List ℕ) → s.refused ≡ None → IsFed format s fed → Leads format s.stage s.progress fed s.kept × IsCut format s.stage s.progress.turn s.kept
stream_came format s fed same come = subst (λ (o : Option CertError). HasCome format o s fed) same come

-- what it says of the bytes
pub refusal_is : {V : Type 0} (format : Format V) (bytes : List ℕ) (e : CertError) → IsRefusal format bytes e → Refuses e (reading format bytes)
refusal_is format bytes errors.OutOfMemory r = tt
refusal_is format bytes errors.Truncated r = absurd r
refusal_is format bytes _ r = ap (reading format) (sym (append-nil bytes)) ∙ r []

module _ {V : Type 0} (format : Format V) where
  -- what leads here leads here with more bytes
  pub leads_more : (stage : Stage) (p : Progress V) (fed rest more : List ℕ) → Leads format stage p fed rest → Leads format stage p (fed ++ more) (rest ++ more)
  leads_more stages.Magic p fed rest more led = (ap (λ (l : List ℕ). l ++ more) led.0, led.1)
  leads_more stages.Version p fed rest more led = (ap (λ (l : List ℕ). l ++ more) led.0 ∙ append_assoc (number numbers.Magic MAGIC) rest more, led.1)
  leads_more stages.Field p fed rest more led =
      record {
        edition = led.edition;
        allowed = led.allowed;
        fields = led.fields;
        each = led.each;
        led = led.led;
        spelled = ap (λ (l : List ℕ). l ++ more) led.spelled ∙ append_assoc (heading format led.edition) (flat_map (field_bytes format) led.fields ++ rest) more ∙ ap (λ (l : List ℕ). heading format led.edition ++ l) (append_assoc (flat_map (field_bytes format) led.fields) rest more);
      }

  -- one step further
  pub magic_leads : (p : Progress V) (fed bytes rest : List ℕ) → IsBytes bytes → magic_at bytes ≡ Ok rest → Leads format stages.Magic p fed bytes → Leads format stages.Version p fed rest
  magic_leads p fed bytes rest fits e led = (led.0 ∙ (magic_takes bytes rest fits e).parts, led.1)

  -- ---- refusals

  magic_ends : (bytes : List ℕ) (e : CertError) → magic_at bytes ≡ Err e → reading format bytes ≡ Err e
  unfolding heading_at
  magic_ends bytes e h = opens format bytes ∙ rw h refl

  pub magic_refused : (p : Progress V) (fed bytes : List ℕ) (e : CertError) → e ≢ errors.Truncated → magic_at bytes ≡ Err e → Leads format stages.Magic p fed bytes → IsRefusal format fed e
  magic_refused p fed bytes e whole h led =
      refusal_of format fed e (λ m. plain_magic bytes (h ∙ ap (λ (x : CertError). Err x) m)) whole (λ more. ap (λ (l : List ℕ). reading format (l ++ more)) led.0 ∙ magic_ends (bytes ++ more) e (magic_final bytes more e whole h))

module _ {V : Type 0} (format : Format V) (law : IsFormat format) where
  pub version_step : (p q : Progress V) (fed bytes rest : List ℕ) (edition : Edition) → IsBytes bytes → version_at format bytes ≡ Ok (edition, rest) → q ≡ opening edition → Leads format stages.Version p fed bytes → Leads format stages.Field q fed rest
  version_step p q fed bytes rest edition fits e is led = subst (λ (q : Progress V). FieldsLead format q fed rest) (sym is) (version_leads format law fed bytes (edition, rest) fits led.0 e)

  version_ends : (bytes : List ℕ) (e : CertError) → version_at format bytes ≡ Err e → reading format (number numbers.Magic MAGIC ++ bytes) ≡ Err e
  unfolding heading_at
  version_ends bytes e h = opens format (number numbers.Magic MAGIC ++ bytes) ∙ rw (magic_again bytes, h) refl

  pub version_refused : (p : Progress V) (fed bytes : List ℕ) (e : CertError) → e ≢ errors.Truncated → version_at format bytes ≡ Err e → Leads format stages.Version p fed bytes → IsRefusal format fed e
  version_refused p fed bytes e whole h led =
      refusal_of format fed e (λ m. plain_version format bytes (h ∙ ap (λ (x : CertError). Err x) m)) whole (λ more.
      ap (λ (l : List ℕ). reading format (l ++ more)) led.0
      ∙ ap (reading format) (append_assoc (number numbers.Magic MAGIC) bytes more)
      ∙ version_ends (bytes ++ more) e (version_final format bytes more e whole h))

  -- what was led here is read as its rest is
  led_is_read : (p : Progress V) (fed rest : List ℕ) → FieldsLead format p fed rest → reading format fed ≡ rest_of format p rest
  led_is_read p fed rest led = ap (reading format) led.spelled ∙ after_heading format law led.edition (flat_map (field_bytes format) led.fields ++ rest) led.allowed ∙ fields_again format law led.fields (opening led.edition) p rest led.each led.led

  -- the field that was read is taken, and the rest follows
  abbrev taken_from : Progress V → Result (Field V × List ℕ) CertError → Result (Progress V × List ℕ) CertError
  taken_from p read = read >>= λ f. taken p f.0 >>= λ q. Ok (q, f.1)

  abbrev with_more : List ℕ → Result (Field V × List ℕ) CertError → Result (Field V × List ℕ) CertError
  with_more more read = read >>= λ f. Ok (f.0, f.1 ++ more)

  abbrev done_with : Progress V → List ℕ → Result (Progress V × List ℕ) CertError
  done_with q rest = Ok (q, rest)

  taken_ends : (u : Result (Progress V) CertError) (x y : List ℕ) (e : CertError) → (u >>= λ q. done_with q x) ≡ Err e → (u >>= λ q. done_with q y) ≡ Err e
  taken_ends (Ok q) x y e h = absurd cc
  taken_ends (Err d) x y e h = let same : d ≡ e = cc in ap (λ (x : CertError). Err x) same

  cut_ends : (p : Progress V) (e : CertError) (r : Result (Field V × List ℕ) CertError) → r ≡ Err errors.Truncated → taken_from p r ≡ Err e → e ≡ errors.Truncated
  cut_ends p e (Ok f) cut h = absurd cc
  cut_ends p e (Err d) cut h = cc

  final_next : (p : Progress V) (e : CertError) (more : List ℕ) (r : Result (Field V × List ℕ) CertError) → taken_from p r ≡ Err e → taken_from p (with_more more r) ≡ Err e
  final_next p e more (Ok f) h = taken_ends (taken p f.0) f.1 (f.1 ++ more) e h
  final_next p e more (Err d) h = let same : d ≡ e = cc in ap (λ (x : CertError). Err x) same

  next_final : (p : Progress V) (bytes more : List ℕ) (e : CertError) → e ≢ errors.Truncated → next_at format p bytes ≡ Err e → next_at format p (bytes ++ more) ≡ Err e
  next_final p bytes more e whole h =
      ap (taken_from p) (field_stays format law p.turn bytes more (λ cut. whole (cut_ends p e (field_at format p.turn bytes) cut h)))
      ∙ final_next p e more (field_at format p.turn bytes) h

  field_ends : (p : Progress V) (bytes : List ℕ) (e : CertError) → 0 < length bytes → next_at format p bytes ≡ Err e → rest_of format p bytes ≡ Err e
  field_ends p bytes e some h = reads_on format p bytes (more_unless format p.turn bytes some) ∙ ends_too (field_at format p.turn bytes) (λ f. taken p f.0) (λ f q. (q, f.1)) (λ f q. rest_of format q f.1) e h

  field_final : (p : Progress V) (fed bytes : List ℕ) (e : CertError) → 0 < length bytes → e ≢ errors.Truncated → next_at format p bytes ≡ Err e → FieldsLead format p fed bytes → IsFinal format fed e
  field_final p fed bytes e some whole h led =
      λ more. led_is_read p (fed ++ more) (bytes ++ more) (leads_more format stages.Field p fed bytes more led) ∙ field_ends p (bytes ++ more) e (omega (arith, some, length-append bytes more)) (next_final p bytes more e whole h)

  pub field_refused : (p : Progress V) (fed bytes : List ℕ) (e : CertError) → IsBytes bytes → 0 < length bytes → e ≢ errors.Truncated → Refuses e (next_at format p bytes) → (e ≡ errors.OutOfMemory → NextAdds format p bytes) → FieldsLead format p fed bytes → IsRefusal format fed e
  field_refused p fed bytes errors.OutOfMemory fits some whole h adds led = leads_to_part format law fed p bytes fits led (adds refl)
  field_refused p fed bytes errors.Truncated fits some whole h adds led = absurd (whole refl)
  field_refused p fed bytes _ fits some whole h adds led = field_final p fed bytes _ some whole h led

  pub field_leads : (p q : Progress V) (fed bytes rest : List ℕ) → IsBytes bytes → next_at format p bytes ≡ Ok (q, rest) → FieldsLead format p fed bytes → FieldsLead format q fed rest
  field_leads p q fed bytes rest fits e led = read_next format law fed p q bytes rest fits led e

  -- ---- the end

  -- a stream that keeps what came of the next field was fed a certificate, or what is cut off
  pub record Ends (stage : Stage) (p : Progress V) (fed : List ℕ) : Type 0 where
    pub whole : stage ≡ stages.Field → p.turn ≡ turns.Complete → reading format fed ≡ Ok p.content
    pub cut : (stage ≡ stages.Field → p.turn ≢ turns.Complete) → reading format fed ≡ Err errors.Truncated

  field_cuts : (p : Progress V) (kept : List ℕ) → p.turn ≢ turns.Complete → FieldIsCut format p.turn kept → rest_of format p kept ≡ Err errors.Truncated
  field_cuts p kept due cut = reads_on format p kept (due_has_more p.turn kept due) ∙ rw (due_is_cut p.turn kept due cut) refl
    where
      due_has_more : (t : Turn) (bytes : List ℕ) → t ≢ turns.Complete → HasMore format t bytes
      due_has_more turns.Complete bytes due = absurd (due refl)
      due_has_more _ bytes due = tt

      due_is_cut : (t : Turn) (bytes : List ℕ) → t ≢ turns.Complete → FieldIsCut format t bytes → field_at format t bytes ≡ Err errors.Truncated
      due_is_cut turns.Complete bytes due cut = absurd (due refl)
      due_is_cut _ bytes due cut = cut

  complete_ends : (p : Progress V) (kept : List ℕ) → p.turn ≡ turns.Complete → FieldIsCut format p.turn kept → rest_of format p kept ≡ Ok p.content
  complete_ends p kept same cut =
      let none : kept ≡ [] = subst (λ (t : Turn). FieldIsCut format t kept) same cut in
      ap (rest_of format p) none ∙ completes format p same

  pub come_ends : (stage : Stage) (p : Progress V) (fed kept : List ℕ) → Leads format stage p fed kept → IsCut format stage p.turn kept → Ends stage p fed
  come_ends stages.Magic p fed kept led short = record {
    whole = λ e. absurd cc;
    cut = λ _. ap (reading format) led.0 ∙ magic_ends format kept errors.Truncated (magic_short kept short);
  }
  come_ends stages.Version p fed kept led short = record {
    whole = λ e. absurd cc;
    cut = λ _. ap (reading format) led.0 ∙ version_ends kept errors.Truncated (version_short format kept short);
  }
  come_ends stages.Field p fed kept led short = record {
    whole = λ _ same. led_is_read p fed kept led ∙ complete_ends p kept same short;
    cut = λ due. led_is_read p fed kept led ∙ field_cuts p kept (due refl) short;
  }

  is_open : (due : Result (Certificate V) CertError) (stage : Stage) (p : Progress V) → (stage ≡ stages.Field → p.turn ≡ turns.Complete → due ≡ Ok p.content) → ((stage ≡ stages.Field → p.turn ≢ turns.Complete) → due ≡ Err errors.Truncated) → IsOpen due
  is_open (Ok c) stage p whole cut = tt
  is_open (Err d) stages.Field p whole cut = elim (complete_or p.turn) [ inl same ↦ absurd (let is = whole refl same in cc) | inr due ↦ let is = cut (λ _. due) in cc ]
    where
      complete_or : (t : Turn) → (t ≡ turns.Complete) ⊎ (t ≢ turns.Complete)
      complete_or turns.Complete = inl refl
      complete_or _ = inr (λ e. absurd cc)
  is_open (Err d) stages.Magic p whole cut = let is = cut (λ e. absurd cc) in cc
  is_open (Err d) stages.Version p whole cut = let is = cut (λ e. absurd cc) in cc

  pub come_is_open : (stage : Stage) (p : Progress V) (fed kept : List ℕ) → Leads format stage p fed kept → IsCut format stage p.turn kept → IsOpen (reading format fed)
  come_is_open stage p fed kept led short = let ends = come_ends stage p fed kept led short in is_open (reading format fed) stage p ends.whole ends.cut

  -- what a stream answers at its end
  pub finished : (r : Result (Certificate V) CertError) (stage : Stage) (p : Progress V) (fed kept : List ℕ) → IfOk r (λ c. (stage ≡ stages.Field) × (p.turn ≡ turns.Complete) × (c ≡ p.content)) → IfErr r (λ e. (e ≡ errors.Truncated) × (stage ≡ stages.Field → p.turn ≢ turns.Complete)) → Leads format stage p fed kept → IsCut format stage p.turn kept → r ≡ reading format fed
  finished (Ok c) stage p fed kept whole cut led short = sym ((come_ends stage p fed kept led short).whole whole.0 whole.1 ∙ ap (λ (x : Certificate V). Ok x) (sym whole.2))
  finished (Err d) stage p fed kept whole cut led short = sym ((come_ends stage p fed kept led short).cut cut.1 ∙ ap (λ (x : CertError). Err x) (sym cut.0))

  -- ---- what is answered is found, and is the only answer

  pub is_found : (bytes : List ℕ) (r : Result (Certificate V) CertError) → IsBytes bytes → Answers r (reading format bytes) → IfOk r (λ c. (bytes ≡ spelling format c) × HasSpelling format c)
  is_found bytes (Ok c) fits e = found format law bytes c fits e
  is_found bytes (Err d) fits e = tt

  pub is_only : (bytes : List ℕ) (r : Result (Certificate V) CertError) → Answers r (reading format bytes) → (c : Certificate V) → HasSpelling format c → bytes ≡ spelling format c → Answers r (Ok c)
  is_only bytes r answer c has e = subst (λ (due : Result (Certificate V) CertError). Answers r due) (ap (reading format) e ∙ only format law c has) answer

  pub stream_reads : (s : Stream V) (r : Result (Certificate V) CertError) → s.refused ≡ None → IfOk r (λ c. (s.stage ≡ stages.Field) × (s.progress.turn ≡ turns.Complete) × (c ≡ s.progress.content)) → IfErr r (λ e. (e ≡ errors.Truncated) × (s.stage ≡ stages.Field → s.progress.turn ≢ turns.Complete)) → IfOk r (λ c. (fed : List ℕ) → IsFed format s fed → reading format fed ≡ Ok c)
  stream_reads s (Ok c) none whole cut = λ fed come. let came = stream_came format s fed none come in sym (finished (Ok c) s.stage s.progress fed s.kept whole cut came.0 came.1)
  stream_reads s (Err d) none whole cut = tt

  pub stream_cut : (s : Stream V) (r : Result (Certificate V) CertError) → s.refused ≡ None → IfOk r (λ c. (s.stage ≡ stages.Field) × (s.progress.turn ≡ turns.Complete) × (c ≡ s.progress.content)) → IfErr r (λ e. (e ≡ errors.Truncated) × (s.stage ≡ stages.Field → s.progress.turn ≢ turns.Complete)) → IfErr r (λ e. (fed : List ℕ) → IsFed format s fed → IsUnread format fed e)
  stream_cut s (Ok c) none whole cut = tt
  stream_cut s (Err d) none whole cut = λ fed come.
      let came = stream_came format s fed none come in
      let is : reading format fed ≡ Err errors.Truncated = sym (finished (Err d) s.stage s.progress fed s.kept whole cut came.0 came.1) ∙ ap (λ (x : CertError). Err x) cut.0 in
      subst (λ (x : CertError). IsUnread format fed x) (sym cut.0) is

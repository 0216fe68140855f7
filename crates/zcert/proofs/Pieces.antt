-- What each call on a file in pieces answers, by what comes next.
use Rattle.std.proofs.Common.{◌≡◌, ◌≢◌, ℕ, ◌<◌, List, [], ◌++◌, length, take, drop, Result, Ok, Err, Option, None, inl, inr, refl, sym, ap, subst, ◌∙◌, append_assoc, arith, length-append}
use Rattle.std.specs.Prelude.{IfOk, IfErr, OnOk}
use Rattle.std.specs.List.{flat_map}
use Rattle.std.specs.Result.{result_err}
use Rattle.std.proofs.lemmas.List.{take-append-drop}
use Rattle.zcert.specs.declared.edition.Edition.{Edition}
use Rattle.zcert.specs.declared.error.CertError.{CertError}
use Rattle.zcert.specs.declared.error.CertError.TheVariants as errors
use Rattle.zcert.specs.declared.field.Turn.{Turn}
use Rattle.zcert.specs.declared.limits.TheConstants.{MAGIC}
use Rattle.zcert.specs.declared.stage.Stage.{Stage}
use Rattle.zcert.specs.declared.stage.Stage.TheVariants as stages
use Rattle.zcert.specs.Numbers.{number}
use Rattle.zcert.specs.Numbers as numbers
use Rattle.zcert.specs.Format.{Format}
use Rattle.zcert.specs.Reading.{magic_at, version_at, reading}
use Rattle.zcert.specs.Building.{Progress, opening}
use Rattle.zcert.specs.Certificate.{Certificate}
use Rattle.zcert.specs.Fields.{field_bytes, next_at, NextAdds, LeadsToPart}
use Rattle.zcert.specs.Spelling.{heading}
use Rattle.zcert.specs.Streaming.{Stream, IsCut, GoesOn, FieldsLead, Leads, IsRefusal, IsUnread, IsFed, IsOpen}
use Rattle.zcert.specs.Turns.{Turns, AreTurns, IsOfSet, IsSetNext, IsPartOf, IsAwaiting, next_width}
use Rattle.zcert.specs.View.{Refuses, Answers}
use Rattle.zcert.specs.FormatLaw.{IsBytes, IsFormat}
use Rattle.zcert.specs.FormatLaw.Stepping.{IsBytes-append}
use Rattle.zcert.proofs.Fixed.{awaiting_is_cut}
use Rattle.zcert.proofs.Follows.{magic_whole, magic_leads, magic_refused, version_whole, version_step, version_refused, field_leads, field_refused, leads_more, refusal_stays, come_is_open, stream_came}

-- another reason for an answer
pub for_ok : {X : Type 0} (P Q : X → Type 0) (r : Result X CertError) → ((x : X) → P x → Q x) → IfOk r P → IfOk r Q
for_ok P Q (Ok x) follows h = follows x h
for_ok P Q (Err e) follows h = tt

pub for_err : {X : Type 0} (P Q : CertError → Type 0) (r : Result X CertError) → ((e : CertError) → P e → Q e) → IfErr r P → IfErr r Q
for_err P Q (Ok x) follows h = tt
for_err P Q (Err e) follows h = follows e h

pub on_ok : {X : Type 0} (P Q : Type 0) (r : Result X CertError) → (P → Q) → OnOk r P → OnOk r Q
on_ok P Q (Ok x) follows h = follows h
on_ok P Q (Err e) follows h = tt

-- what holds where no error is kept
pub awaits_unless : {U A : Type 0} (r : Result U CertError) → OnOk r A → result_err r ≡ None → A
awaits_unless (Ok u) h e = h
awaits_unless (Err d) h e = absurd cc

-- nothing of a set has come where the magic or the version comes next
module _ {P : Type 0} (sets : Turns P) where
  at_magic : (stage : Stage) (turn : Turn) (part : P) → stage ≡ stages.Magic → IsPartOf sets stage turn part → sets.came part ≡ []
  at_magic stage turn part is none = none (subst (λ (s : Stage). IsSetNext s turn → ⊥) (sym is) (λ x. x))

  at_version : (stage : Stage) (turn : Turn) (part : P) → stage ≡ stages.Version → IsPartOf sets stage turn part → sets.came part ≡ []
  at_version stage turn part is none = none (subst (λ (s : Stage). IsSetNext s turn → ⊥) (sym is) (λ x. x))

  -- where the field's turn is, nothing has come unless that is a set
  pub at_field : (stage : Stage) (turn : Turn) (part : P) → stage ≡ stages.Field → IsPartOf sets stage turn part → (IsOfSet turn → ⊥) → sets.came part ≡ []
  at_field stage turn part is none other = none (subst (λ (s : Stage). IsSetNext s turn → ⊥) (sym is) other)

module _ {V P : Type 0} (format : Format V) (sets : Turns P) where
  pub magic_leads_at : (stage : Stage) (p : Progress V) (part : P) (fed number : List ℕ) → IsBytes number → stage ≡ stages.Magic → IsPartOf sets stage p.turn part → magic_at number ≡ Ok [] → Leads format stage p fed (sets.came part ++ number) → Leads format stages.Version p fed (sets.came part)
  magic_leads_at stage p part fed number fits is none h =
      rw (at_magic sets stage p.turn part is none) (λ led. magic_leads format p fed number [] fits h (subst (λ (s : Stage). Leads format s p fed number) is led))

  pub magic_refused_at : (stage : Stage) (p : Progress V) (part : P) (fed number : List ℕ) (e : CertError) → length number ≡ next_width sets stage p.turn part → stage ≡ stages.Magic → IsPartOf sets stage p.turn part → magic_at number ≡ Err e → Leads format stage p fed (sets.came part ++ number) → IsRefusal format fed e
  magic_refused_at stage p part fed number e long is none h =
      let four : length number ≡ 4 = subst (λ (s : Stage). length number ≡ next_width sets s p.turn part) is long in
      rw (at_magic sets stage p.turn part is none) (λ led. magic_refused format p fed number e (λ cut. magic_whole number four (h ∙ ap (λ (x : CertError). Err x) cut)) h (subst (λ (s : Stage). Leads format s p fed number) is led))

module _ {V P : Type 0} (format : Format V) (law : IsFormat format) (sets : Turns P) where
  pub version_leads_at : (stage : Stage) (p q : Progress V) (part : P) (fed number : List ℕ) (edition : Edition) → IsBytes number → stage ≡ stages.Version → IsPartOf sets stage p.turn part → version_at format number ≡ Ok (edition, []) → q ≡ opening edition → Leads format stage p fed (sets.came part ++ number) → Leads format stages.Field q fed (sets.came part)
  version_leads_at stage p q part fed number edition fits is none h opens =
      rw (at_version sets stage p.turn part is none) (λ led. version_step format law p q fed number [] edition fits h opens (subst (λ (s : Stage). Leads format s p fed number) is led))

  pub version_refused_at : (stage : Stage) (p : Progress V) (part : P) (fed number : List ℕ) (e : CertError) → length number ≡ next_width sets stage p.turn part → stage ≡ stages.Version → IsPartOf sets stage p.turn part → version_at format number ≡ Err e → Leads format stage p fed (sets.came part ++ number) → IsRefusal format fed e
  version_refused_at stage p part fed number e long is none h =
      let one : length number ≡ 1 = subst (λ (s : Stage). length number ≡ next_width sets s p.turn part) is long in
      rw (at_version sets stage p.turn part is none) (λ led. version_refused format law p fed number e (λ cut. version_whole format number one (h ∙ ap (λ (x : CertError). Err x) cut)) h (subst (λ (s : Stage). Leads format s p fed number) is led))

module _ {V P : Type 0} (format : Format V) (law : IsFormat format) (sets : Turns P) (are : AreTurns format sets) where
  IsBytes-so_far : (part : P) (number : List ℕ) → IsBytes number → IsBytes (sets.came part ++ number)
  IsBytes-so_far part number fits = IsBytes-append (sets.came part) number (are.bytes part) fits

  goes_leads : (p q : Progress V) (part next : P) (fed number : List ℕ) → IsBytes number → GoesOn format sets p part number q next → FieldsLead format p fed (sets.came part ++ number) → FieldsLead format q fed (sets.came next)
  goes_leads p q part next fed number fits (inl (e, none)) led = subst (λ (l : List ℕ). FieldsLead format q fed l) (sym none) (field_leads format law p q fed (sets.came part ++ number) [] (IsBytes-so_far part number fits) e led)
  goes_leads p q part next fed number fits (inr (same, of, more)) led = subst (λ (x : Progress V). FieldsLead format x fed (sets.came next)) (sym same) (subst (λ (l : List ℕ). FieldsLead format p fed l) (sym more) led)

  -- with the next number of a field
  pub field_leads_at : {U : Type 0} (r : Result U CertError) (stage : Stage) (p q : Progress V) (part next : P) (number : List ℕ) → IsBytes number → stage ≡ stages.Field → OnOk r (GoesOn format sets p part number q next) → OnOk r ((fed : List ℕ) → Leads format stage p fed (sets.came part ++ number) → Leads format stage q fed (sets.came next))
  field_leads_at r stage p q part next number fits is =
      on_ok _ _ r (λ on fed led. subst (λ (s : Stage). Leads format s q fed (sets.came next)) (sym is) (goes_leads p q part next fed number fits on (subst (λ (s : Stage). Leads format s p fed (sets.came part ++ number)) is led)))

  goes_part : (stage : Stage) (p q : Progress V) (part next : P) (number : List ℕ) → stage ≡ stages.Field → GoesOn format sets p part number q next → IsPartOf sets stage q.turn next
  goes_part stage p q part next number is (inl (e, none)) = λ out. none
  goes_part stage p q part next number is (inr (same, of, more)) = λ out. absurd (out (subst (λ (s : Stage). IsSetNext s q.turn) (sym is) (subst (λ (x : Progress V). IsOfSet x.turn) (sym same) of)))

  pub field_part_at : {U : Type 0} (r : Result U CertError) (stage : Stage) (p q : Progress V) (part next : P) (number : List ℕ) → stage ≡ stages.Field → OnOk r (GoesOn format sets p part number q next) → OnOk r (IsPartOf sets stage q.turn next)
  field_part_at r stage p q part next number is = on_ok _ _ r (goes_part stage p q part next number is)

  pub field_refused_at : {X : Type 0} (stage : Stage) (p : Progress V) (part : P) (number : List ℕ) (r : Result X CertError) → IsBytes number → 0 < length number → stage ≡ stages.Field → IfErr r (λ e. Refuses e (next_at format p (sets.came part ++ number)) × (e ≢ errors.Truncated)) → (r ≡ Err errors.OutOfMemory → NextAdds format p (sets.came part ++ number)) → IfErr r (λ e. (fed : List ℕ) → Leads format stage p fed (sets.came part ++ number) → IsRefusal format fed e)
  field_refused_at stage p part number (Ok x) fits some is h adds = tt
  field_refused_at stage p part number (Err e) fits some is h adds = λ fed led.
      let so_far = sets.came part ++ number in
      field_refused format law p fed so_far e (IsBytes-so_far part number fits) (omega (arith, some, length-append (sets.came part) number)) h.1 h.0 (λ same. adds (ap (λ (x : CertError). Err x) same)) (subst (λ (s : Stage). Leads format s p fed so_far) is led)

module _ {V : Type 0} (format : Format V) where
  -- what leads here with more bytes led here without them
  leads_less : (stage : Stage) (p : Progress V) (fed front back : List ℕ) → Leads format stage p fed (front ++ back) → (before : List ℕ) × (fed ≡ before ++ back) × Leads format stage p before front
  leads_less stages.Magic p fed front back led = (front, led.0, (refl, led.1))
  leads_less stages.Version p fed front back led = (number numbers.Magic MAGIC ++ front, led.0 ∙ sym (append_assoc (number numbers.Magic MAGIC) front back), (refl, led.1))
  leads_less stages.Field p fed front back led =
      let fields = flat_map (field_bytes format) led.fields in (
        heading format led.edition ++ (fields ++ front),
        led.spelled ∙ ap (λ (l : List ℕ). heading format led.edition ++ l) (sym (append_assoc fields front back)) ∙ sym (append_assoc (heading format led.edition) (fields ++ front) back),
        record { edition = led.edition; allowed = led.allowed; fields = led.fields; each = led.each; led = led.led; spelled = refl },
      )

  -- the bytes in two, behind what came
  in_two_behind : (came bytes number rest : List ℕ) (n : ℕ) → number ≡ take n bytes → rest ≡ drop n bytes → came ++ bytes ≡ (came ++ number) ++ rest
  in_two_behind came bytes number rest n f b = sym (append_assoc came number rest ∙ ap (λ (l : List ℕ). came ++ l) (rw (f, b) (take-append-drop n bytes)))

  -- what holds with the next number holds with what follows it
  pub number_leads : (stage next : Stage) (p q : Progress V) (came bytes number rest after : List ℕ) (n : ℕ) → number ≡ take n bytes → rest ≡ drop n bytes → ((fed : List ℕ) → Leads format stage p fed (came ++ number) → Leads format next q fed after) → (fed : List ℕ) → Leads format stage p fed (came ++ bytes) → Leads format next q fed (after ++ rest)
  number_leads stage next p q came bytes number rest after n f b h fed led =
      let less = leads_less stage p fed (came ++ number) rest (subst (λ (l : List ℕ). Leads format stage p fed l) (in_two_behind came bytes number rest n f b) led) in
      subst (λ (l : List ℕ). Leads format next q l (after ++ rest)) (sym less.1) (leads_more format next q less.0 after rest (h less.0 less.2))

  pub number_refused : (stage : Stage) (p : Progress V) (came bytes number rest : List ℕ) (e : CertError) (n : ℕ) → number ≡ take n bytes → rest ≡ drop n bytes → ((fed : List ℕ) → Leads format stage p fed (came ++ number) → IsRefusal format fed e) → (fed : List ℕ) → Leads format stage p fed (came ++ bytes) → IsRefusal format fed e
  number_refused stage p came bytes number rest e n f b h fed led =
      let less = leads_less stage p fed (came ++ number) rest (subst (λ (l : List ℕ). Leads format stage p fed l) (in_two_behind came bytes number rest n f b) led) in
      subst (λ (l : List ℕ). IsRefusal format l e) (sym less.1) (refusal_stays format less.0 rest e (h less.0 less.2))

  -- the bytes that lacked come, behind those that are kept
  pub more_kept : (stage : Stage) (p : Progress V) (fed came kept front whole : List ℕ) → whole ≡ kept ++ front → Leads format stage p fed (came ++ kept) → Leads format stage p (fed ++ front) (came ++ whole)
  more_kept stage p fed came kept front whole is led =
      subst (λ (l : List ℕ). Leads format stage p (fed ++ front) l) (append_assoc came kept front ∙ ap (λ (l : List ℕ). came ++ l) (sym is)) (leads_more format stage p fed (came ++ kept) front led)

  -- or where none are kept
  pub from_none : (stage : Stage) (p : Progress V) (fed came kept piece : List ℕ) → kept ≡ [] → Leads format stage p fed (came ++ kept) → Leads format stage p (fed ++ piece) (came ++ piece)
  from_none stage p fed came kept piece none led = more_kept stage p fed came kept piece piece (ap (λ (l : List ℕ). l ++ piece) (sym none)) led

-- what a stream answers that was fed all bytes at once
module _ {V : Type 0} (format : Format V) where
  unread_answers : (bytes : List ℕ) (e : CertError) → IsUnread format bytes e → Refuses e (reading format bytes)
  unread_answers bytes errors.OutOfMemory h = tt
  unread_answers bytes _ h = h

  pub finish_answers : (s : Stream V) (bytes : List ℕ) (r : Result (Certificate V) CertError) → IfOk r (λ c. (fed : List ℕ) → IsFed format s fed → reading format fed ≡ Ok c) → IfErr r (λ e. (fed : List ℕ) → IsFed format s fed → IsUnread format fed e) → IsFed format s bytes → Answers r (reading format bytes)
  finish_answers s bytes (Ok c) read unread come = read bytes come
  finish_answers s bytes (Err e) read unread come = unread_answers bytes e (unread bytes come)

  pub finish_memory : (s : Stream V) (bytes : List ℕ) (r : Result (Certificate V) CertError) → IfErr r (λ e. (fed : List ℕ) → IsFed format s fed → IsUnread format fed e) → IsFed format s bytes → r ≡ Err errors.OutOfMemory → LeadsToPart format bytes
  finish_memory s bytes (Ok c) unread come h = absurd cc
  finish_memory s bytes (Err e) unread come h = let same : e ≡ errors.OutOfMemory = cc in subst (λ (x : CertError). IsUnread format bytes x) same (unread bytes come)

  pub refusal_memory : (bytes : List ℕ) (e : CertError) → IsRefusal format bytes e → e ≡ errors.OutOfMemory → LeadsToPart format bytes
  refusal_memory bytes e h same = subst (λ (x : CertError). IsRefusal format bytes x) same h

-- a piece in two
pub in_two : (fed piece front back : List ℕ) (n : ℕ) → front ≡ take n piece → back ≡ drop n piece → (fed ++ front) ++ back ≡ fed ++ piece
in_two fed piece front back n f b = append_assoc fed front back ∙ ap (λ (l : List ℕ). fed ++ l) (rw (f, b) (take-append-drop n piece))

module _ {V : Type 0} (format : Format V) (law : IsFormat format) where
  abbrev at : Stage → Progress V → List ℕ → Option CertError → Stream V
  at stage p kept refused = record { stage = stage; progress = p; kept = kept; refused = refused }

  -- a piece was taken or refused
  pub piece_came : {U : Type 0} (r : Result U CertError) (stage next : Stage) (p q : Progress V) (fed kept after piece : List ℕ) → OnOk r ((fed : List ℕ) → Leads format stage p fed kept → Leads format next q (fed ++ piece) after) → OnOk r (IsCut format next q.turn after) → IfErr r (λ e. (fed : List ℕ) → Leads format stage p fed kept → IsRefusal format (fed ++ piece) e) → Leads format stage p fed kept → IsFed format (at next q after (result_err r)) (fed ++ piece)
  piece_came (Ok u) stage next p q fed kept after piece led cut refused came = (led fed came, cut)
  piece_came (Err e) stage next p q fed kept after piece led cut refused came = refused fed came

  pub piece_open : {U : Type 0} (r : Result U CertError) (s : Stream V) (next : Stage) (q : Progress V) (after piece : List ℕ) → s.refused ≡ None → OnOk r ((fed : List ℕ) → Leads format s.stage s.progress fed s.kept → Leads format next q (fed ++ piece) after) → OnOk r (IsCut format next q.turn after) → OnOk r ((fed : List ℕ) → IsFed format s fed → IsOpen (reading format (fed ++ piece)))
  piece_open (Ok u) s next q after piece none led cut = λ fed come. let came = stream_came format s fed none come in come_is_open format law next q (fed ++ piece) after (led fed came.0) cut
  piece_open (Err e) s next q after piece none led cut = tt

  -- what a reader keeps is cut off, so that its stream is in its place
  pub awaiting_cut : {P U : Type 0} (sets : Turns P) (are : AreTurns format sets) (r : Result U CertError) (stage : Stage) (turn : Turn) (part : P) (kept : List ℕ) → OnOk r (IsAwaiting sets stage turn part kept) → OnOk r (IsCut format stage turn (sets.came part ++ kept))
  awaiting_cut sets are r stage turn part kept = on_ok _ _ r (awaiting_is_cut format sets are stage turn part kept)

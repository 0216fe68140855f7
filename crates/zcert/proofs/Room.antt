-- Memory is wanted only for a part that the bytes have.
use Rattle.std.proofs.Common.{◌≡◌, ◌≢◌, ℕ, Bool, true, false, List, [], ◌∷◌, ◌++◌, Result, Ok, Err, refl, sym, ap, subst, ◌∙◌, append_assoc}
use Rattle.std.specs.Prelude.{IsOk, ◌==◌, ◌&&◌}
use Rattle.std.specs.List.{flat_map}
use Rattle.std.proofs.lemmas.List.{append-nil}
use Rattle.zcert.specs.declared.edition.Edition.{Edition}
use Rattle.zcert.specs.declared.edition.Edition.TheVariants as editions
use Rattle.zcert.specs.declared.error.CertError.{CertError}
use Rattle.zcert.specs.declared.error.CertError.TheVariants as errors
use Rattle.zcert.specs.declared.field.Field.{Field}
use Rattle.zcert.specs.declared.field.Field.TheVariants as fields
use Rattle.zcert.specs.declared.field.Turn.{Turn}
use Rattle.zcert.specs.declared.field.Turn.TheVariants as turns
use Rattle.zcert.specs.declared.limits.TheConstants.{MAGIC, LIMIT_VERSION, MARK_VERSION, FACT_VERSION}
use Rattle.zcert.specs.Numbers as numbers
use Rattle.zcert.specs.Steps.{◌>>=◌, need, number_at}
use Rattle.zcert.specs.Format.{Format, version_of}
use Rattle.zcert.specs.Spelling.{heading}
use Rattle.zcert.specs.Numbers.{number}
use Rattle.zcert.specs.Reading.{magic_at, edition_where, version_at}
use Rattle.zcert.specs.Building.{Progress, opening, taken, all_taken, Adds}
use Rattle.zcert.specs.Fields.{field_bytes, as_field, field_at, next_at, NextAdds, LeadsToPart}
use Rattle.zcert.specs.View.{RefusesField}
use Rattle.zcert.specs.FormatLaw.Stepping.{bind_ok, ok_is, plain_then, plain_ok, plain_need, plain_sized, plain_serial}
use Rattle.zcert.specs.FormatLaw.{IsBytes, IsPlain, IsFormat}
use Rattle.zcert.specs.Streaming.{FieldsLead}
use Rattle.zcert.proofs.Found.{version_takes}
use Rattle.zcert.proofs.Calls.{one_more, each_more}
use Rattle.zcert.proofs.FieldBytes.{field_takes}

-- ---- no step of reading wants memory

pub plain_magic : (bytes : List ℕ) → IsPlain (magic_at bytes)
unfolding magic_at
plain_magic bytes = plain_then (number_at numbers.Magic bytes) _ (plain_sized 4 bytes) (λ x. plain_then (need (x.0 == MAGIC) errors.Magic) _ (plain_need (x.0 == MAGIC) errors.Magic (λ e. absurd cc)) (λ u. plain_ok x.1))

plain_edition : (plain limit mark fact : Bool) → IsPlain (edition_where plain limit mark fact)
plain_edition true limit mark fact = plain_ok editions.Plain
plain_edition false true mark fact = plain_ok editions.Limited
plain_edition false false true fact = plain_ok editions.Marking
plain_edition false false false true = plain_ok editions.Stating
plain_edition false false false false = λ e. absurd cc

pub plain_version : {V : Type 0} (format : Format V) (bytes : List ℕ) → IsPlain (version_at format bytes)
unfolding version_at
plain_version format bytes = plain_then (number_at numbers.Version bytes) _ (plain_sized 1 bytes) (λ x. plain_then (edition_where (x.0 == format.version) (format.limited && (x.0 == LIMIT_VERSION)) (format.limited && (x.0 == MARK_VERSION)) (format.limited && (x.0 == FACT_VERSION))) _ (plain_edition _ _ _ _) (λ edition. plain_ok (edition, x.1)))

module _ {V : Type 0} (format : Format V) (law : IsFormat format) where
  plain_field : {X : Type 0} (make : X → Field V) (read : Result (X × List ℕ) CertError) → IsPlain read → IsPlain (as_field format make read)
  plain_field make read p = plain_then read _ p (λ x. plain_ok (make x.0, x.1))

  plain_field_at : (t : Turn) (bytes : List ℕ) → IsPlain (field_at format t bytes)
  plain_field_at turns.Release bytes = plain_field fields.Release _ (plain_sized 2 bytes)
  plain_field_at turns.Serial bytes = plain_field fields.Serial _ (plain_serial bytes)
  plain_field_at turns.Checksum bytes = plain_field fields.Checksum _ (plain_sized 2 bytes)
  plain_field_at turns.LoadedLength bytes = plain_field fields.LoadedLength _ (plain_sized 4 bytes)
  plain_field_at turns.FrameLimit bytes = plain_field fields.FrameLimit _ (plain_sized 2 bytes)
  plain_field_at turns.RangeCount bytes = plain_field fields.RangeCount _ (plain_sized 2 bytes)
  plain_field_at (turns.RangeFirst more) bytes = plain_field fields.RangeFirst _ (plain_sized 2 bytes)
  plain_field_at (turns.RangeLast more first) bytes = plain_field fields.RangeLast _ (plain_sized 2 bytes)
  plain_field_at (turns.Global more) bytes = plain_field fields.Global _ (law.plain bytes)
  plain_field_at turns.RoutineCount bytes = plain_field fields.RoutineCount _ (plain_sized 2 bytes)
  plain_field_at (turns.RoutineAddress more) bytes = plain_field fields.RoutineAddress _ (plain_sized 4 bytes)
  plain_field_at (turns.LocalCount more address) bytes = plain_field fields.LocalCount _ (plain_sized 1 bytes)
  plain_field_at (turns.RoutineResult more address locals) bytes = plain_field fields.RoutineResult _ (law.plain bytes)
  plain_field_at turns.InstructionCount bytes = plain_field fields.InstructionCount _ (plain_sized 4 bytes)
  plain_field_at (turns.InstructionAddress more) bytes = plain_field fields.InstructionAddress _ (plain_sized 4 bytes)
  plain_field_at (turns.RoutineNumber more address) bytes = plain_field fields.RoutineNumber _ (plain_sized 2 bytes)
  plain_field_at (turns.Height more address routine) bytes = plain_field fields.Height _ (plain_sized 1 bytes)
  plain_field_at (turns.Value more h left) bytes = plain_field fields.Value _ (law.plain bytes)
  plain_field_at turns.FactCount bytes = plain_field fields.FactCount _ (plain_sized 4 bytes)
  plain_field_at (turns.FactAddress more least) bytes = plain_field fields.FactAddress _ (plain_sized 4 bytes)
  plain_field_at (turns.FactGlobal more address least) bytes = plain_field fields.FactGlobal _ (plain_sized 1 bytes)
  plain_field_at (turns.FactValues more address global) bytes = plain_field fields.FactValues _ (law.plain bytes)
  plain_field_at turns.Complete bytes = λ e. absurd cc

  -- a field that is refused wants no memory
  pub field_wants_none : (t : Turn) (bytes : List ℕ) (e : CertError) → field_at format t bytes ≡ Err e → e ≢ errors.OutOfMemory
  field_wants_none t bytes e h d = plain_field_at t bytes (h ∙ ap (λ (x : CertError). Err x) d)

-- ---- what has been read

pub one_text_more : {A : Type 0} (f : A → List ℕ) (xs : List A) (x : A) (rest : List ℕ) → flat_map f (xs ++ x ∷ []) ++ rest ≡ flat_map f xs ++ (f x ++ rest)
one_text_more f [] x rest = ap (λ t. t ++ rest) (append-nil (f x))
one_text_more f (y ∷ xs) x rest = append_assoc (f y) (flat_map f (xs ++ x ∷ [])) rest ∙ ap (λ t. f y ++ t) (one_text_more f xs x rest) ∙ sym (append_assoc (f y) (flat_map f xs) (f x ++ rest))

module _ {V : Type 0} (format : Format V) (law : IsFormat format) where
  pub version_leads : (bytes rest : List ℕ) (x : Edition × List ℕ) → IsBytes rest → bytes ≡ number numbers.Magic MAGIC ++ rest → version_at format rest ≡ Ok x → FieldsLead format (opening x.0) bytes x.1
  version_leads bytes rest x fits e v =
      let t = version_takes format rest x fits v in
      record { edition = x.0; allowed = t.1; fields = []; each = tt; led = refl; spelled = e ∙ ap (λ (r : List ℕ). number numbers.Magic MAGIC ++ r) t.0.parts ∙ sym (append_assoc (number numbers.Magic MAGIC) (number numbers.Version (version_of format x.0)) x.1) }

  one_spelled : (edition : Edition) (f : Field V) (fs : List (Field V)) (bytes rest after : List ℕ) → bytes ≡ heading format edition ++ (flat_map (field_bytes format) fs ++ rest) → rest ≡ field_bytes format f ++ after → bytes ≡ heading format edition ++ (flat_map (field_bytes format) (fs ++ f ∷ []) ++ after)
  one_spelled edition f fs bytes rest after e d =
      e ∙ ap (λ (t : List ℕ). heading format edition ++ (flat_map (field_bytes format) fs ++ t)) d ∙ ap (λ (t : List ℕ). heading format edition ++ t) (sym (one_text_more (field_bytes format) fs f after))

  pub read_next : (bytes : List ℕ) (p q : Progress V) (rest after : List ℕ) → IsBytes rest → FieldsLead format p bytes rest → next_at format p rest ≡ Ok (q, after) → FieldsLead format q bytes after
  read_next bytes p q rest after fits r e =
      let a = bind_ok (field_at format p.turn rest) (λ f. taken p f.0 >>= λ x. Ok (x, f.1)) (q, after) e in
      let b = bind_ok (taken p a.0.0) (λ x. Ok (x, a.0.1)) (q, after) a.2 in
      let t = field_takes format law p.turn rest a.0.0 a.0.1 fits a.1 in
      let made : Progress V × List ℕ = (b.0, a.0.1) in
      let same = ok_is made (q, after) b.2 in
      let led : taken p a.0.0 ≡ Ok q = b.1 ∙ ap (λ (x : Progress V × List ℕ). Ok x.0) same in
      let left : a.0.1 ≡ after = ap (λ (x : Progress V × List ℕ). x.1) same in
      record {
        edition = r.edition;
        allowed = r.allowed;
        fields = r.fields ++ a.0.0 ∷ [];
        each = each_more format r.fields a.0.0 r.each t.is;
        led = one_more r.fields a.0.0 (opening r.edition) p q r.led led;
        spelled = one_spelled r.edition a.0.0 r.fields bytes rest after r.spelled (t.takes.parts ∙ ap (λ (l : List ℕ). field_bytes format a.0.0 ++ l) left);
      }

  taken_too : (edition : Edition) (fs : List (Field V)) (f : Field V) (p : Progress V) (r : Result (Progress V) CertError) → all_taken (opening edition) fs ≡ Ok p → taken p f ≡ r → IsOk r → IsOk (all_taken (opening edition) (fs ++ f ∷ []))
  taken_too edition fs f p (Ok q) led e ok = rw (one_more fs f (opening edition) p q led e) refl
  taken_too edition fs f p (Err d) led e ok = absurd cc

  pub leads_to_part : (bytes : List ℕ) (p : Progress V) (rest : List ℕ) → IsBytes rest → FieldsLead format p bytes rest → NextAdds format p rest → LeadsToPart format bytes
  leads_to_part bytes p rest fits r n =
      let t = field_takes format law p.turn rest n.field n.rest fits n.read in
      record {
        edition = r.edition;
        allowed = r.allowed;
        fields = r.fields;
        last = n.field;
        rest = n.rest;
        each = each_more format r.fields n.field r.each t.is;
        before = p;
        reached = r.led;
        led = taken_too r.edition r.fields n.field p (taken p n.field) r.led refl n.due;
        adds = n.adds;
        spelled = one_spelled r.edition n.field r.fields bytes rest n.rest r.spelled t.takes.parts;
      }

-- a field that memory was wanting for
pub next_adds : {V : Type 0} (format : Format V) (p : Progress V) (bytes : List ℕ) (e : CertError) (f : Field V) (rest : List ℕ) → field_at format p.turn bytes ≡ Ok (f, rest) → RefusesField e (taken p f) → Adds p f → e ≡ errors.OutOfMemory → NextAdds format p bytes
next_adds format p bytes e f rest read refused adds same =
    record { field = f; rest = rest; read = read; due = subst (λ (x : CertError). RefusesField x (taken p f)) same refused; adds = adds }

-- What a builder refuses is refused of the bytes.
use Rattle.std.proofs.Common.{◌≡◌, ◌≢◌, List, [], ◌∷◌, ◌++◌, Err, inl, inr, refl, sym, ap, ◌∙◌}
use Rattle.std.specs.List.{flat_map, AllByRecursion}
use Rattle.std.proofs.lemmas.List.{append-nil}
use Rattle.zcert.specs.declared.error.CertError.TheVariants as errors
use Rattle.zcert.specs.declared.field.Field.{Field}
use Rattle.zcert.specs.declared.field.Turn.{Turn}
use Rattle.zcert.specs.declared.field.Turn.TheVariants as turns
use Rattle.zcert.specs.Format.{Format}
use Rattle.zcert.specs.Building.{opening}
use Rattle.zcert.specs.Fields.{field_bytes, IsField, field_at}
use Rattle.zcert.specs.Refusal.{RefuseInTurn, RefuseAtEnd, RefuseOutOfTurn}
use Rattle.zcert.specs.FormatLaw.{IsFormat}
use Rattle.zcert.proofs.Rest.{rest_of, HasMore, reads_on}
use Rattle.zcert.proofs.FieldBytes.{in_turn_or, again_at, has_more, fields_again}
use Rattle.zcert.proofs.Makes.{after_heading}
use Rattle.zcert.proofs.Room.{one_text_more}

pub out_of_turn : {V : Type 0} → RefuseOutOfTurn V
out_of_turn p f out = elim (in_turn_or f p) [ inl due ↦ absurd (out due) | inr order ↦ order ]

module _ {V : Type 0} (format : Format V) (law : IsFormat format) where
  before_last : (fs : List (Field V)) (f : Field V) → AllByRecursion (IsField format) (fs ++ f ∷ []) → AllByRecursion (IsField format) fs × IsField format f
  before_last [] f each = (tt, each.0)
  before_last (g ∷ fs) f each = let b = before_last fs f each.1 in ((each.0, b.0), b.1)

  pub in_turn : RefuseInTurn format
  in_turn edition before f rest p e may each led due refused =
      let is = before_last before f each in
      let bytes = field_bytes format f ++ rest in
      let again = again_at format law p.turn f rest is.1 due in
      after_heading format law edition (flat_map (field_bytes format) (before ++ f ∷ []) ++ rest) may
      ∙ ap (rest_of format (opening edition)) (one_text_more (field_bytes format) before f rest)
      ∙ fields_again format law before (opening edition) p bytes is.0 led
      ∙ reads_on format p bytes (has_more format law p.turn bytes (f, rest) again)
      ∙ rw (again, refused) refl

  -- where a field is due and no byte is left
  more_due : (t : Turn) → t ≢ turns.Complete → HasMore format t []
  more_due turns.Complete due = due refl
  more_due _ due = tt

  no_set : format.value_at [] ≡ Err errors.Truncated
  no_set = law.none

  cut_at : (t : Turn) → t ≢ turns.Complete → field_at format t [] ≡ Err errors.Truncated
  cut_at (turns.Global more) due = rw no_set refl
  cut_at (turns.RoutineResult more address locals) due = rw no_set refl
  cut_at (turns.Value more h left) due = rw no_set refl
  cut_at (turns.FactValues more address global) due = rw no_set refl
  cut_at turns.Complete due = absurd (due refl)
  cut_at _ due = refl

  pub at_end : RefuseAtEnd format
  at_end edition fs p may each led due =
      let bytes = flat_map (field_bytes format) fs in
      after_heading format law edition bytes may
      ∙ ap (rest_of format (opening edition)) (sym (append-nil bytes))
      ∙ fields_again format law fs (opening edition) p [] each led
      ∙ reads_on format p [] (more_due p.turn due)
      ∙ rw (cut_at p.turn due) refl

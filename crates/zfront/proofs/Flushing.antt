-- What calls of a sink come to, one after the other.
use Rattle.std.proofs.Common.{◌≡◌, ℕ, ◌+◌, List, [], ◌∷◌, ◌++◌, length, refl, sym, ap, ◌∙◌, subst, append_assoc, append-nil, add-zero}
use Rattle.std.specs.Prelude.{Option}
use Rattle.std.specs.Io.KnownBytes.{Appends}
use Rattle.std.proofs.KnownBytes.{Appends-trans}
use Rattle.zfront.specs.Wrapping.{Wrapping, coming, settled, wrapped}
use Rattle.zfront.specs.Owed.{Owed, bytes_owed, nothing_owed, owed_then, GivesSome, Passes, Finishes}

module _ (a b c : Option (List ℕ)) (x y z : Owed) where
  -- a write failed, and the next one took a piece
  pub failed_then_passes : (piece : List ℕ) → GivesSome a b x y → Passes b c y z piece → Passes a c x z piece
  failed_then_passes piece first second = record {
    given = first.given ++ second.given;
    grown = Appends-trans a b c first.given second.given first.grown second.grown;
    width = second.width ∙ ap (λ (w : Wrapping). w.width) first.kept;
    whole = behind piece ∙ ap (λ (bytes : List ℕ). first.given ++ bytes) second.whole ∙ sym (append_assoc first.given second.given (bytes_owed z));
    later = λ text. behind (piece ++ text) ∙ ap (λ (bytes : List ℕ). first.given ++ bytes) (second.later text) ∙ sym (append_assoc first.given second.given (owed_then z text));
  }
    where
      behind : (text : List ℕ) → owed_then x text ≡ first.given ++ owed_then y text
      behind text =
          ap (λ (bytes : List ℕ). bytes ++ coming x.wrapping text) first.whole ∙ append_assoc first.given y.decided (coming x.wrapping text) ∙ ap (λ (w : Wrapping). first.given ++ (y.decided ++ coming w text)) (sym first.kept)

  -- a write failed: what was owed is what it gave out, and what is owed
  pub failed_owed : (first : GivesSome a b x y) → bytes_owed x ≡ first.given ++ bytes_owed y
  failed_owed first =
      ap (λ (bytes : List ℕ). bytes ++ x.wrapping.held) first.whole ∙ append_assoc first.given y.decided x.wrapping.held ∙ ap (λ (w : Wrapping). first.given ++ (y.decided ++ w.held)) (sym first.kept)

  pub failed_then_finishes : GivesSome a b x y → Finishes b c y z → Finishes a c x z
  failed_then_finishes first second = record {
    given = first.given ++ second.given;
    grown = Appends-trans a b c first.given second.given first.grown second.grown;
    whole = failed_owed first ∙ ap (λ (bytes : List ℕ). first.given ++ bytes) second.whole ∙ sym (append_assoc first.given second.given z.decided);
    finished = second.finished ∙ ap settled first.kept;
  }

  -- a flush failed: it decided on all that was owed
  pub finished_owed : (first : Finishes a b x y) → bytes_owed x ≡ first.given ++ bytes_owed y
  finished_owed first =
      first.whole ∙ ap (λ (bytes : List ℕ). first.given ++ bytes) (sym (append-nil y.decided) ∙ ap (λ (w : Wrapping). y.decided ++ w.held) (sym first.finished))

  pub finishes_again : Finishes a b x y → Finishes b c y z → Finishes a c x z
  finishes_again first second = record {
    given = first.given ++ second.given;
    grown = Appends-trans a b c first.given second.given first.grown second.grown;
    whole = finished_owed first ∙ ap (λ (bytes : List ℕ). first.given ++ bytes) second.whole ∙ sym (append_assoc first.given second.given z.decided);
    finished =
        second.finished ∙ ap settled first.finished
        ∙ ap (λ (column : ℕ). record { width = x.wrapping.width; column = column; held = [] }) (add-zero (x.wrapping.column + length x.wrapping.held));
  }

-- where nothing is owed nothing is decided
pub nothing_decided : (decided held : List ℕ) → decided ++ held ≡ [] → decided ≡ []
nothing_decided [] held none = refl
nothing_decided (byte ∷ rest) held none = absurd cc

-- a text was taken at the beginning of a line, and given out
pub flushed_wrapped : (a b c : Option (List ℕ)) (width : ℕ) (y z : Owed) (text : List ℕ) → Passes a b (nothing_owed width) y text → Finishes b c y z → bytes_owed z ≡ [] → Appends a c (wrapped width 0 text)
flushed_wrapped a b c width y z text first second none = subst (Appends a c) (sym all) (Appends-trans a b c first.given second.given first.grown second.grown)
  where
    all : wrapped width 0 text ≡ first.given ++ second.given
    all =
        first.whole ∙ ap (λ (bytes : List ℕ). first.given ++ bytes)
        (second.whole ∙ ap (λ (left : List ℕ). second.given ++ left) (nothing_decided z.decided z.wrapping.held none) ∙ append-nil second.given)

-- What a turn comes to once it has ended.
use Rattle.std.proofs.Common.{◌≡◌, ℕ, List, [], sym, ap, ◌∙◌, subst}
use Rattle.std.specs.Prelude.{Option}
use Rattle.std.specs.Io.KnownBytes.{Appends}
use Rattle.std.proofs.KnownBytes.{Appends-trans}
use Rattle.zfront.specs.Wrapping.{Wrapping, wrapped}
use Rattle.zfront.specs.Owed.{Finishes, GivesSome, Owed, Passes, nothing_owed}
use Rattle.zfront.proofs.Flushing.{failed_owed, finished_owed}
use Rattle.zfront.specs.Turns.{EndsTurn}

module _ (a b c : Option (List ℕ)) where
  pub turn_wrapped : (width : ℕ) (y z : Owed) (text : List ℕ) → Passes a b (nothing_owed width) y text → EndsTurn b c y z → Appends a c (wrapped width 0 text)
  turn_wrapped width y z text first ended = subst (Appends a c) (sym first.whole) (Appends-trans a b c first.given _ first.grown ended.grown)

  pub turn_begins : (width : ℕ) (y z : Owed) (text : List ℕ) → Passes a b (nothing_owed width) y text → EndsTurn b c y z → z ≡ nothing_owed width
  turn_begins width y z text first ended =
      ap (λ (decided : List ℕ). record { decided = decided; wrapping = z.wrapping }) ended.none ∙ ap (λ (w : Wrapping). record { decided = []; wrapping = w }) ended.wrapping
      ∙ ap (λ (n : ℕ). nothing_owed n) first.width

  pub failed_write_ends : (x y z : Owed) → GivesSome a b x y → EndsTurn b c y z → EndsTurn a c x z
  failed_write_ends x y z failed ended = record {
    grown = subst (Appends a c) (sym (failed_owed a b c x y z failed)) (Appends-trans a b c failed.given _ failed.grown ended.grown);
    none = ended.none;
    wrapping = ended.wrapping ∙ ap (λ (w : Wrapping). record { width = w.width; column = 0; held = [] }) failed.kept;
  }

  pub failed_flush_ends : (x y z : Owed) → Finishes a b x y → EndsTurn b c y z → EndsTurn a c x z
  failed_flush_ends x y z failed ended = record {
    grown = subst (Appends a c) (sym (finished_owed a b c x y z failed)) (Appends-trans a b c failed.given _ failed.grown ended.grown);
    none = ended.none;
    wrapping = ended.wrapping ∙ ap (λ (w : Wrapping). record { width = w.width; column = 0; held = [] }) failed.finished;
  }

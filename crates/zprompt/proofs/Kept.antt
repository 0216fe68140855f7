-- States that are kept.
use Rattle.std.proofs.Common.{◌≡◌, ◌++◌, Bool, true, false, List, [], ◌∷◌, All, if◌then◌else◌, length, subst, sym}
use Rattle.std.specs.Prelude.{drop, nat_lt}
use Rattle.std.proofs.lemmas.List.Elements.{All-drop, All-push}
use Rattle.zstate.specs.State.{State}
use Rattle.zprompt.specs.declared.turns.TheConstants.{MOST_TURNS}
use Rattle.zprompt.specs.Turns.{room_of}

pub room_kept : (Is : State → Type 0) (turns : List State) → All Is turns → All Is (room_of turns)
room_kept Is turns all = by (nat_lt (length turns) MOST_TURNS)
  where
    by : (b : Bool) → All Is (if b then turns else drop 1 turns)
    by true = all
    by false = All-drop Is 1 turns all

-- one more is kept
pub push_kept : (Is : State → Type 0) (turns room more : List State) (state : State) → All Is turns → room ≡ room_of turns → more ≡ room ++ state ∷ [] → Is state → All Is more
push_kept Is turns room more state all is pushed one =
    subst (All Is) (sym pushed) (All-push Is room state (subst (All Is) (sym is) (room_kept Is turns all)) one)

-- The rows to which the frames of a save return are found one by one, while others may be written anew.
use Rattle.std.proofs.Common.{◌≡◌, ◌⊎◌, inl, inr, ℕ, ◌+◌, ◌<◌, ◌≤◌, List, [], ◌∷◌, ◌++◌, length, Some, sym, ap, subst, ◌∙◌, append_assoc, arith, refl}
use Rattle.std.specs.Prelude.{ℤ, pos, slice_get}
use Rattle.std.proofs.lemmas.List.{append-nil, length-append}
use Rattle.zquetzal.specs.Saved.{Frame as SavedFrame}
use Rattle.zstory.specs.LoadedStory.{LoadedStory}
use Rattle.zengine.specs.declared.row.Row.{Row}
use Rattle.zengine.specs.declared.row.Slot.{Slot}
use Rattle.zengine.specs.declared.row.Spot.{Spot}
use Rattle.zengine.specs.Frames.{landing}
use Rattle.zengine.specs.Play.{Game}
use Rattle.zengine.specs.Resuming.{AreBacks, HaveRows, IsBack, height_after}
use Rattle.zengine.specs.Rows.{Leads, result_slot}
use Rattle.zmachine.specs.Resuming.{IsBackRow}
use Rattle.zmachine.specs.Rows.{IsRowOf}

-- rows stay that of a number, but for one
abbrev pub StayBut : Game → Game → List Row → List Row → ℕ → Type 0
StayBut g h rows more number = (k : ℕ) (spot : Spot) (came : Slot) → (k ≡ number → ⊥) → IsRowOf g rows spot came k → IsRowOf h more spot came k

-- an index is no number from one on of those that may be written anew
abbrev pub IsKept : ℕ → ℕ → ℕ → Type 0
IsKept limit from k = (k < from) ⊎ (limit < k)

-- so rows stay whose indices are none
pub record Stays (limit from : ℕ) (g h : Game) (rows more : List Row) : Type 0 where
  pub stay : (k : ℕ) (spot : Spot) (came : Slot) → IsKept limit from k → IsRowOf g rows spot came k → IsRowOf h more spot came k

pub stays_all : (limit from : ℕ) (g : Game) (rows : List Row) → Stays limit from g g rows rows
stays_all limit from g rows = record { stay = λ k spot came kept is. is }

-- a row that was found for a number is kept from the next on
pub found_kept : (limit number k : ℕ) (other : ℕ) → other ≡ limit → (k ≡ number) ⊎ (other < k) → IsKept limit (number + 1) k
found_kept limit number k other same (inl here) = inl (omega (arith, here))
found_kept limit number k other same (inr high) = inr (omega (arith, high, same))

unlike : (limit number k : ℕ) → number ≤ limit → IsKept limit number k → k ≡ number → ⊥
unlike limit number k low (inl below) same = omega (arith, below, same)
unlike limit number k low (inr above) same = omega (arith, low, above, same)

kept_next : (limit number k : ℕ) → IsKept limit number k → IsKept limit (number + 1) k
kept_next limit number k (inl below) = inl (omega (arith, below))
kept_next limit number k (inr above) = inr above

-- once a row was found for a number, those of the numbers before stay, and so they do while the later ones are found
stays_on : (limit number : ℕ) (a b c : Game) (x y z : List Row) → number ≤ limit → StayBut a b x y number → Stays limit (number + 1) b c y z → Stays limit number a c x z
stays_on limit number a b c x y z low but later = record {
  stay = λ k spot came kept is. later.stay k spot came (kept_next limit number k kept) (but k spot came (unlike limit number k low kept) is);
}

-- the row of a frame is the one to which it returns
to_back : (story : LoadedStory) (g : Game) (rows : List Row) (count height : ℕ) (f : SavedFrame) (k : ℕ) → IsBackRow story g rows count height f k → IsBack story g.spots rows count height f k
to_back story g rows count height f k back = record {
  leads = back.row.spot_is;
  lands = back.lands ∙ ap (λ (slot : Slot). landing slot (height_after f.result height)) (sym back.row.came_is);
}

back_stays : (story : LoadedStory) (limit from : ℕ) (g h : Game) (rows more : List Row) (count height : ℕ) (f : SavedFrame) (k : ℕ) → IsKept limit from k → Stays limit from g h rows more → IsBackRow story g rows count height f k → IsBackRow story h more count height f k
back_stays story limit from g h rows more count height f k kept stays back = record { came = back.came; row = stays.stay k _ back.came kept back.row; lands = back.lands }

pub back_found : (story : LoadedStory) (g : Game) (rows : List Row) (count height after : ℕ) (f : SavedFrame) (spot : Spot) (came : Slot) (k : ℕ) → spot ≡ record { place = pos f.return_place; count = count; height = after } → after ≡ height_after f.result height → result_slot story count f.result height ≡ landing came after → IsRowOf g rows spot came k → IsBackRow story g rows count height f k
back_found story g rows count height after f spot came k spot_is after_is lands found =
    let at : spot ≡ record { place = pos f.return_place; count = count; height = height_after f.result height } = spot_is ∙ ap (λ (n : ℕ). record { place = pos f.return_place; count = count; height = n }) after_is in
    record {
      came = came;
      row = subst (λ (s : Spot). IsRowOf g rows s came k) at found;
      lands = lands ∙ ap (λ (n : ℕ). landing came n) after_is;
    }

-- as many are found as are no longer left
pub count_next : (ks js : List ℕ) (k : ℕ) (f : SavedFrame) (left more : List SavedFrame) (n : ℕ) → js ≡ ks ++ k ∷ [] → left ≡ f ∷ more → length ks + length left + 1 ≡ n → length js + length more + 1 ≡ n
count_next ks js k f left more n js_is left_is was =
    let longer : length js ≡ length ks + 1 = ap length js_is ∙ length-append ks (k ∷ []) in
    let fewer = ap length left_is in
    omega (arith, longer, fewer, was)

-- Frames of a save have their rows so far, above one with so many locals and words on its stack: whatever is written anew of a number from
-- one on, once the rest have theirs, above one with so many others, all have them.
pub record Found (story : LoadedStory) (limit from : ℕ) (g : Game) (rows : List Row) (count height : ℕ) (all : List SavedFrame) (locals words : ℕ) (rest : List SavedFrame) (ks : List ℕ) : Type 0 where
  pub then_all : (h : Game) (more : List Row) → Stays limit from g h rows more → (at : ℕ) (place : ℤ) (later : List ℕ) → AreBacks story h.spots more at place locals words rest later → AreBacks story h.spots more at place count height all (ks ++ later)

pub found_none : (story : LoadedStory) (limit from : ℕ) (g : Game) (rows : List Row) (count height : ℕ) (all : List SavedFrame) → Found story limit from g rows count height all count height all []
found_none story limit from g rows count height all = record { then_all = λ h more stays at place later backs. backs }

module _ (story : LoadedStory) (limit number : ℕ) (g : Game) (rows : List Row) (count height : ℕ) (all : List SavedFrame) (locals words : ℕ) (ks : List ℕ) where
  found_more : (f : SavedFrame) (rest : List SavedFrame) (h : Game) (more : List Row) (k : ℕ) → number ≤ limit → StayBut g h rows more number → IsKept limit (number + 1) k → IsBackRow story h more locals words f k → Found story limit number g rows count height all locals words (f ∷ rest) ks → Found story limit (number + 1) h more count height all (length f.locals) (length f.stack) rest (ks ++ k ∷ [])
  unfolding AreBacks
  found_more f rest h more k low but kept back found = record {
    then_all = λ last most s at place later backs.
        let here : IsBack story last.spots most locals words f k = to_back story last most locals words f k (back_stays story limit (number + 1) h last more most locals words f k kept s back) in
        subst (λ (xs : List ℕ). AreBacks story last.spots most at place count height all xs) (sym (append_assoc ks (k ∷ []) later)) (found.then_all last most (stays_on limit number g h last rows more most low but s) at place (k ∷ later) (here, backs));
  }

  -- the same, as it is counted
  pub found_next : (f : SavedFrame) (rest : List SavedFrame) (h : Game) (more : List Row) (k m n next : ℕ) (js : List ℕ) → number ≤ limit → StayBut g h rows more number → IsKept limit (number + 1) k → IsBackRow story h more locals words f k → m ≡ length f.locals → n ≡ length f.stack → next ≡ number + 1 → js ≡ ks ++ k ∷ [] → Found story limit number g rows count height all locals words (f ∷ rest) ks → Found story limit next h more count height all m n rest js
  found_next f rest h more k m n next js low but kept back m_is n_is next_is js_is found =
      subst (λ (xs : List ℕ). Found story limit next h more count height all m n rest xs) (sym js_is)
      (subst (λ (x : ℕ). Found story limit x h more count height all m n rest (ks ++ k ∷ [])) (sym next_is)
      (subst (λ (x : ℕ). Found story limit (number + 1) h more count height all m x rest (ks ++ k ∷ [])) (sym n_is)
      (subst (λ (x : ℕ). Found story limit (number + 1) h more count height all x (length f.stack) rest (ks ++ k ∷ [])) (sym m_is)
      (found_more f rest h more k low but kept back found))))

  found_all : (h : Game) (more : List Row) (at : ℕ) (place : ℤ) → number ≤ limit → StayBut g h rows more number → Leads h.spots at place locals words → Found story limit number g rows count height all locals words [] ks → AreBacks story h.spots more at place count height all ks
  unfolding AreBacks
  found_all h more at place low but leads found = subst (λ (xs : List ℕ). AreBacks story h.spots more at place count height all xs) (append-nil ks) (found.then_all h more (stays_on limit number g h h rows more more low but (stays_all limit (number + 1) h more)) at place [] leads)

  pub have_rows : (h : Game) (more : List Row) (frames : List SavedFrame) (first : SavedFrame) (left : List SavedFrame) (place : ℤ) (spot : Spot) (came : Slot) (k : ℕ) → number ≤ limit → frames ≡ first ∷ all → count ≡ length first.locals → height ≡ length first.stack → left ≡ [] → StayBut g h rows more number → Found story limit number g rows count height all locals words left ks → spot ≡ record { place = place; count = locals; height = words } → IsRowOf h more spot came k → HaveRows story h.spots more k place frames ks
  have_rows h more frames first left place spot came k low frames_are count_is height_is none but found spot_is row =
      let last : Found story limit number g rows count height all locals words [] ks = subst (λ (xs : List SavedFrame). Found story limit number g rows count height all locals words xs ks) none found in
      let leads : Leads h.spots k place locals words = row.spot_is ∙ ap (λ (s : Spot). Some s) spot_is in
      let backs : AreBacks story h.spots more k place count height all ks = found_all h more k place low but leads last in
      subst (λ (xs : List SavedFrame). HaveRows story h.spots more k place xs ks) (sym frames_are)
      (subst (λ (x : ℕ). AreBacks story h.spots more k place (length first.locals) x all ks) height_is
      (subst (λ (x : ℕ). AreBacks story h.spots more k place x height all ks) count_is backs))

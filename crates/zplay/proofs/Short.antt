-- The frames of described states are short, and so are those of saves that are accepted: there are words enough for them.
use Rattle.std.proofs.Common.{◌≡◌, ℕ, ◌+◌, ◌*◌, ◌-◌, ◌<◌, ◌≤◌, Bool, true, false, List, [], ◌∷◌, length, Some, arith, nat_lt, slice_set}
use Rattle.std.specs.Prelude.{MatchOption, slice_get, ◌==◌}
use Rattle.std.specs.Bool.{MatchBool}
use Rattle.std.specs.List.{AllByRecursion}
use Rattle.zdomain.specs.Domain.{SetOperations, In}
use Rattle.zquetzal.specs.Saved.{Frame as SavedFrame, IsFrame as IsSavedFrame, AreFrames as AreSavedFrames}
use Rattle.zstate.specs.State.{AreFrames, Frame, IsFrame}
use Rattle.zrule.specs.Claims.{Entry, Claims}
use Rattle.zrule.specs.Described.{Callers, Fits, FitsWith}
use Rattle.zrule.proofs.Sets.{zip_length}
use Rattle.zengine.specs.Frames.{base_of}
use Rattle.zengine.specs.Resuming.{length_laid}
use Rattle.zplay.specs.Session.{words_kept}

-- ---- callers

-- a frame has few locals, and few words on its stack
pub record IsShort (f : Frame) : Type 0 where
  pub locals : length f.locals ≤ 15
  pub stack : length f.stack ≤ 64

a_frame : (f : Frame) (gs : List Frame) → AreFrames f gs → IsFrame f
a_frame f [] are = are.0
a_frame f (g ∷ gs) are = are.0

module _ {V : Type 0} (o : SetOperations V) (claims : Claims V) where
  fits_short : (v x : ℕ) (e : Entry V) (g : Frame) → length e.shape.slots ≤ 64 → FitsWith o claims v x e.shape g → length g.stack ≤ 64
  fits_short v x e g few h = by (v == 0) (nat_lt v 16) h
    where
      by : (b c : Bool) → MatchBool b (Fits o claims e.shape g.locals (x ∷ g.stack)) (MatchBool c ((v ≤ length g.locals) × Fits o claims e.shape (slice_set g.locals (v - 1) x) g.stack) ((v < 256) × MatchOption (slice_get claims.globals (v - 16)) ⊥ (λ values. In o values x) × Fits o claims e.shape g.locals g.stack)) → length g.stack ≤ 64
      by true c fits = let same = zip_length (In o) e.shape.slots (x ∷ g.stack) fits.in_slots in omega (arith, same, few)
      by false true h = let same = zip_length (In o) e.shape.slots g.stack h.1.in_slots in omega (arith, same, few)
      by false false h = let same = zip_length (In o) e.shape.slots g.stack h.2.in_slots in omega (arith, same, few)

  -- each caller takes what the routine above it gives, which is some word
  pub callers_short : ((p : ℕ) (e : Entry V) → claims.entry p ≡ Some e → length e.shape.slots ≤ 64) → ((routine : ℕ) → (x : ℕ) × In o (claims.result routine) x) → (f : Frame) (gs : List Frame) (routine place result : ℕ) → AreFrames f gs → Callers o claims routine place result gs → AllByRecursion IsShort gs
  callers_short low gives f [] routine place result are callers = tt
  callers_short low gives f (g ∷ gs) routine place result are (some, e, listed, fits, implied, rest) =
      let x = gives routine in (
        record { locals = (a_frame g gs are.1).locals; stack = fits_short result x.0 e g (low place e listed) (fits x.0 x.1) },
        callers_short low gives g gs e.routine g.return_place g.result are.1 rest,
      )

pub short_base : (gs : List Frame) → AllByRecursion IsShort gs → base_of gs ≤ 5 + 84 * length gs
short_base [] short = omega arith
short_base (g ∷ gs) short =
    let rest = short_base gs short.1 in let locals = short.0.locals in let stack = short.0.stack in
    omega (arith, rest, locals, stack)

-- so there is room for one more
pub room_kept : (limit : ℕ) (gs : List Frame) (words : ℕ) → AllByRecursion IsShort gs → length gs ≤ limit → words_kept limit ≤ words → words < base_of gs + 131106 → ⊥
room_kept limit gs words short few kept less = let base = short_base gs short in absurd (omega (arith, base, few, kept, less))

-- ---- the frames of a save

short_laid : (fs : List SavedFrame) → AllByRecursion (λ f. length f.stack ≤ 64) fs → AllByRecursion IsSavedFrame fs → length_laid fs ≤ 84 * length fs
short_laid [] low are = omega arith
short_laid (f ∷ fs) low are =
    let rest = short_laid fs low.1 are.1 in let locals = are.0.locals in let stack = low.0 in
    omega (arith, rest, locals, stack)

pub laid_kept : (limit : ℕ) (fs : List SavedFrame) (words : ℕ) → AllByRecursion (λ f. length f.stack ≤ 64) fs → AreSavedFrames fs → length fs ≤ limit + 1 → words_kept limit ≤ words → words < length_laid fs + 65551 → ⊥
laid_kept limit [] words low are few kept less = absurd are
laid_kept limit (f ∷ fs) words low are few kept less =
    let laid = short_laid (f ∷ fs) low are.1 in
    absurd (omega (arith, laid, few, kept, less))

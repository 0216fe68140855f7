-- A value that goes to a variable: what is known of the frame with it, and of the state after.
use Rattle.std.proofs.Common.{◌≡◌, ℕ, ◌-◌, ◌<◌, ◌≤◌, Bool, true, false, List, [], ◌∷◌, length, Option, Some, None, refl, sym, subst, arith, nat_lt, nat_le, slice_set, if◌then◌else◌}
use Rattle.std.specs.Prelude.{MatchOption, slice_get, ◌==◌, ◌||◌}
use Rattle.std.specs.Bool.{MatchBool}
use Rattle.std.specs.List.{AllZip}
use Rattle.std.proofs.lemmas.Bool.{ltb-false, le-leb}
use Rattle.std.proofs.lemmas.List.{length-set}
use Rattle.zstory.specs.LoadedStory.{LoadedStory}
use Rattle.zdomain.specs.Domain.{SetOperations, In, Within}
use Rattle.zstate.specs.State.{Frame, State, with_stack, with_locals, with_memory, write_word, global, put, put_named, exists}
use Rattle.zstate.specs.Step.{stored}
use Rattle.zflow.specs.Transfer.{Shape, with_result, locals_with}
use Rattle.zrule.specs.Claims.{Claims, frozen_in}
use Rattle.zrule.specs.Rules.{HasDisjointTables, Covers, IsVariable, Takes}
use Rattle.zrule.specs.Described.{Callers, DescribedMemory, Fits, FitsWith, IsLoadedStory}
use Rattle.zrule.proofs.Sets.{zip_set}
use Rattle.zrule.proofs.Memory.{global_put}

zip_within : {V : Type 0} (o : SetOperations V) (ps bs : List V) (xs : List ℕ) → AllZip (Within o) ps bs → AllZip (In o) ps xs → AllZip (In o) bs xs
zip_within o [] [] xs w z = z
zip_within o [] (b ∷ bs) xs w z = absurd w
zip_within o (a ∷ rest) [] xs w z = absurd w
zip_within o (a ∷ rest) (b ∷ bs) [] w z = absurd z
zip_within o (a ∷ rest) (b ∷ bs) (x ∷ xs) w z = (w.0 x z.0, zip_within o rest bs xs w.1 z.1)

-- ---- where a value can go

-- a variable that a frame with these locals has
abbrev pub IsIn : ℕ → List ℕ → Type 0
IsIn v locals = MatchBool (v == 0) (Unit {0}) (MatchBool (nat_lt v 16) (v ≤ length locals) (v < 256))

or_true : (b : Bool) → (b || true) ≡ true
or_true true = refl
or_true false = refl

pub exists_in : (v : ℕ) (g : Frame) → IsIn v g.locals → exists v g ≡ true
exists_in v g is = by_kind (v == 0) (nat_lt v 16) refl refl is
  where
    by_kind : (b c : Bool) → (v == 0) ≡ b → nat_lt v 16 ≡ c → MatchBool b (Unit {0}) (MatchBool c (v ≤ length g.locals) (v < 256)) → exists v g ≡ true
    by_kind true c e f is = rw e refl
    by_kind false true e f is = let r = le-leb v (length g.locals) is in rw (e, r) refl
    by_kind false false e f is = let r = le-leb 16 v (ltb-false v 16 f) in rw (e, r) (or_true (nat_le v (length g.locals)))

module _ {V : Type 0} (o : SetOperations V) (claims : Claims V) where
  -- a variable that is named
  pub named_in : (v : ℕ) (e : Shape V) (locals : List ℕ) → IsVariable o claims e v → length e.locals ≡ length locals → IsIn v locals
  named_in v e locals named same = by_kind (v == 0) (nat_lt v 16) named
    where
      by_kind : (b c : Bool) → MatchBool b (Unit {0}) (MatchBool c (v ≤ length e.locals) ((v < 256) × (v - 16 < length claims.globals))) → MatchBool b (Unit {0}) (MatchBool c (v ≤ length locals) (v < 256))
      by_kind true c named = tt
      by_kind false true named = omega (arith, same, named)
      by_kind false false named = named.0

  pub length_with : (a : Option V) (v : ℕ) (locals : List V) → length (locals_with a v locals) ≡ length locals
  length_with None v locals = refl
  length_with (Some a) v locals = by_kind (v == 0) (nat_lt v 16)
    where
      by_kind : (b c : Bool) → length (if b then locals else (if c then slice_set locals (v - 1) a else locals)) ≡ length locals
      by_kind true c = refl
      by_kind false true = length-set locals (v - 1) a
      by_kind false false = refl

  within_in : (a : V) (x : ℕ) (option : Option V) → In o a x → MatchOption option ⊥ (Within o a) → MatchOption option ⊥ (λ values. In o values x)
  within_in a x None member h = h
  within_in a x (Some c) member h = h x member

  -- a value of a set in a variable that is there, by the rules
  pub given_fits : (v x : ℕ) (a : V) (e : Shape V) (g : Frame) → In o a x → IsIn v g.locals → Takes o claims (Some a) v → Fits o claims e g.locals g.stack → FitsWith o claims v x (with_result (Some a) v e) g
  given_fits v x a e g member is takes fits = by_kind (v == 0) (nat_lt v 16) is takes
    where
      by_kind : (b c : Bool) → MatchBool b (Unit {0}) (MatchBool c (v ≤ length g.locals) (v < 256)) → MatchBool c (Unit {0}) (MatchOption (slice_get claims.globals (v - 16)) ⊥ (Within o a))
          → MatchBool b (Fits o claims (record { locals = if b then e.locals else (if c then slice_set e.locals (v - 1) a else e.locals); slots = if b then a ∷ e.slots else e.slots }) g.locals (x ∷ g.stack))
          (MatchBool c ((v ≤ length g.locals) × Fits o claims (record { locals = if b then e.locals else (if c then slice_set e.locals (v - 1) a else e.locals); slots = if b then a ∷ e.slots else e.slots }) (slice_set g.locals (v - 1) x) g.stack)
          ((v < 256) × MatchOption (slice_get claims.globals (v - 16)) ⊥ (λ values. In o values x) × Fits o claims (record { locals = if b then e.locals else (if c then slice_set e.locals (v - 1) a else e.locals); slots = if b then a ∷ e.slots else e.slots }) g.locals g.stack))
      by_kind true c is takes = record { in_locals = fits.in_locals; in_slots = (member, fits.in_slots) }
      by_kind false true is takes = (is, record { in_locals = zip_set (In o) e.locals g.locals fits.in_locals (v - 1) a x member; in_slots = fits.in_slots })
      by_kind false false is takes = (is, within_in a x (slice_get claims.globals (v - 16)) member takes, record { in_locals = fits.in_locals; in_slots = fits.in_slots })

  pub covered : (e f : Shape V) (locals stack : List ℕ) → Covers o e f → Fits o claims e locals stack → Fits o claims f locals stack
  covered e f locals stack covers fits = record { in_locals = zip_within o e.locals f.locals locals covers.locals fits.in_locals; in_slots = zip_within o e.slots f.slots stack covers.slots fits.in_slots }

  -- and where more is allowed
  pub covered_with : (v x : ℕ) (e f : Shape V) (g : Frame) → Covers o e f → FitsWith o claims v x e g → FitsWith o claims v x f g
  covered_with v x e f g covers h = by_kind (v == 0) (nat_lt v 16) h
    where
      by_kind : (b c : Bool) → MatchBool b (Fits o claims e g.locals (x ∷ g.stack)) (MatchBool c ((v ≤ length g.locals) × Fits o claims e (slice_set g.locals (v - 1) x) g.stack) ((v < 256) × MatchOption (slice_get claims.globals (v - 16)) ⊥ (λ values. In o values x) × Fits o claims e g.locals g.stack))
          → MatchBool b (Fits o claims f g.locals (x ∷ g.stack)) (MatchBool c ((v ≤ length g.locals) × Fits o claims f (slice_set g.locals (v - 1) x) g.stack) ((v < 256) × MatchOption (slice_get claims.globals (v - 16)) ⊥ (λ values. In o values x) × Fits o claims f g.locals g.stack))
      by_kind true c h = covered e f g.locals (x ∷ g.stack) covers h
      by_kind false true h = (h.0, covered e f (slice_set g.locals (v - 1) x) g.stack covers h.1)
      by_kind false false h = (h.0, h.1, covered e f g.locals g.stack covers h.2)

  pub fits_there : (v x : ℕ) (e : Shape V) (g : Frame) → FitsWith o claims v x e g → IsIn v g.locals
  fits_there v x e g h = by_kind (v == 0) (nat_lt v 16) h
    where
      by_kind : (b c : Bool) → MatchBool b (Fits o claims e g.locals (x ∷ g.stack)) (MatchBool c ((v ≤ length g.locals) × Fits o claims e (slice_set g.locals (v - 1) x) g.stack) ((v < 256) × MatchOption (slice_get claims.globals (v - 16)) ⊥ (λ values. In o values x) × Fits o claims e g.locals g.stack))
          → MatchBool b (Unit {0}) (MatchBool c (v ≤ length g.locals) (v < 256))
      by_kind true c h = tt
      by_kind false true h = h.0
      by_kind false false h = h.0

  module _ (story : LoadedStory) (loaded : IsLoadedStory story) (tables : HasDisjointTables story (frozen_in claims)) where
    -- a state in mid-instruction, of which this is known
    pub record Mid (routine : ℕ) (e : Shape V) (u : State) : Type 0 where
      pub memory : DescribedMemory o claims story u.memory
      pub fits : Fits o claims e u.frame.locals u.frame.stack
      pub callers : Callers o claims routine u.frame.return_place u.frame.result u.callers

    -- a global that is written with a value of its set
    global_given : (v x : ℕ) (memory : List ℕ) → DescribedMemory o claims story memory → 16 ≤ v → v < 256 → (option : Option V) → slice_get claims.globals (v - 16) ≡ option → MatchOption option ⊥ (λ values. In o values x) → DescribedMemory o claims story (write_word memory (global story v) x)
    global_given v x memory described above below_end None e found = absurd found
    global_given v x memory described above below_end (Some values) e found =
        global_put o claims story loaded tables v x values memory described.long above below_end found (subst (λ (c : Option V). MatchOption c ⊥ (Within o values)) (sym e) (λ y h. h)) described

    -- a value in a variable: what is known of the frame with it is known of the state after
    pub put_mid : (routine v x : ℕ) (e : Shape V) (u : State) → FitsWith o claims v x e u.frame → DescribedMemory o claims story u.memory → Callers o claims routine u.frame.return_place u.frame.result u.callers → Mid routine e (put story v x u)
    unfolding put put_named
    put_mid routine v x e u h memory callers = by_kind (v == 0) (nat_lt v 16) refl h
      where
        by_kind : (b c : Bool) → nat_lt v 16 ≡ c → MatchBool b (Fits o claims e u.frame.locals (x ∷ u.frame.stack)) (MatchBool c ((v ≤ length u.frame.locals) × Fits o claims e (slice_set u.frame.locals (v - 1) x) u.frame.stack) ((v < 256) × MatchOption (slice_get claims.globals (v - 16)) ⊥ (λ values. In o values x) × Fits o claims e u.frame.locals u.frame.stack))
            → Mid routine e (if b then with_stack (x ∷ u.frame.stack) u else (if c then with_locals (slice_set u.frame.locals (v - 1) x) u else with_memory (write_word u.memory (global story v) x) u))
        by_kind true c is h = record { memory = memory; fits = h; callers = callers }
        by_kind false true is h = record { memory = memory; fits = h.1; callers = callers }
        by_kind false false is h = record { memory = global_given v x u.memory memory (ltb-false v 16 is) h.0 (slice_get claims.globals (v - 16)) refl h.1; fits = h.2; callers = callers }

    abbrev pub GivenIn : Option V → Option ℕ → Type 0
    GivenIn None None = Unit {0}
    GivenIn None (Some x) = ⊥
    GivenIn (Some a) None = ⊥
    GivenIn (Some a) (Some x) = In o a x

    -- what is given goes to the result variable
    pub stored_mid : (routine v : ℕ) (given : Option V) (gives : Option ℕ) (e : Shape V) (u : State) → GivenIn given gives → IsIn v u.frame.locals → Takes o claims given v → Mid routine e u → Mid routine (with_result given v e) (stored story gives v u)
    stored_mid routine v None None e u is there takes known = known
    stored_mid routine v None (Some x) e u is there takes known = absurd is
    stored_mid routine v (Some a) None e u is there takes known = absurd is
    stored_mid routine v (Some a) (Some x) e u is there takes known = put_mid routine v x (with_result (Some a) v e) u (given_fits v x a e u.frame is there takes known.fits) known.memory known.callers

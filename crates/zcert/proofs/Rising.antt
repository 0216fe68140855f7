-- What the order of a certificate's parts says of any two of them.
use Rattle.std.proofs.Common.{◌≡◌, ℕ, zero, suc, ◌+◌, ◌<◌, ◌≤◌, List, [], ◌∷◌, length, Some, subst, arith}
use Rattle.std.specs.Prelude.{slice_get, map}
use Rattle.std.specs.List.{AllByRecursion}
use Rattle.std.specs.List.Sorted.{IsStrictlyIncreasing}
use Rattle.zcert.specs.declared.parts.Range.{Range}
use Rattle.zcert.specs.declared.parts.Routine.{Routine}
use Rattle.zcert.specs.Certificate.{Instruction, Certificate}
use Rattle.zcert.specs.Format.{Format}
use Rattle.zcert.specs.Spelling.{IsRange, AreApart, Rise, HasSpelling}

pub some_is : {A : Type 0} (x y : A) → Some x ≡ Some y → x ≡ y
some_is x y e = cc

pub none_there : {A P : Type 0} (k : ℕ) (x : A) → slice_get {X = A} [] k ≡ Some x → P
none_there k x e = absurd cc

-- each is at the floor or above
pub above : {A : Type 0} (address : A → ℕ) (floor : ℕ) (xs : List A) (k : ℕ) (x : A) → Rise address floor xs → slice_get xs k ≡ Some x → floor ≤ address x
above address floor [] k x rise e = none_there k x e
above {A} address floor (first ∷ xs) zero x rise e = let same : first ≡ x = some_is first x e in let h = rise.0 in subst (λ (y : A). floor ≤ address y) same h
above address floor (first ∷ xs) (suc k) x rise e = let h = above address (address first + 1) xs k x rise.1 e in let l = rise.0 in omega arith

-- a later one is higher
pub higher : {A : Type 0} (address : A → ℕ) (floor : ℕ) (xs : List A) (i j : ℕ) (x y : A) → Rise address floor xs → i < j → slice_get xs i ≡ Some x → slice_get xs j ≡ Some y → address x < address y
higher address floor [] i j x y rise lt e f = none_there i x e
higher address floor (first ∷ xs) i zero x y rise lt e f = absurd (omega arith)
higher {A} address floor (first ∷ xs) zero (suc j) x y rise lt e f =
    let same : first ≡ x = some_is first x e in
    let h = above address (address first + 1) xs j y rise.1 f in
    subst (λ (z : A). address z < address y) same (omega arith)
higher address floor (first ∷ xs) (suc i) (suc j) x y rise lt e f = higher address (address first + 1) xs i j x y rise.1 (omega arith) e f

-- so their addresses are a rising list
pub increasing : {A : Type 0} (address : A → ℕ) (floor : ℕ) (xs : List A) → Rise address floor xs → IsStrictlyIncreasing (map address xs)
increasing address floor [] rise k l = absurd (omega arith)
increasing address floor (x ∷ []) rise k l = absurd (omega arith)
increasing address floor (x ∷ y ∷ xs) rise zero l = let h = rise.1.0 in omega arith
increasing address floor (x ∷ y ∷ xs) rise (suc k) l =
    let next : suc k + 1 ≡ suc (k + 1) = omega arith in
    rw next (increasing address (address x + 1) (y ∷ xs) rise.1 k (omega arith))

range_above : (floor : ℕ) (rs : List Range) (k : ℕ) (r : Range) → AllByRecursion IsRange rs → AreApart floor rs → slice_get rs k ≡ Some r → floor ≤ r.first
range_above floor [] k r all parted e = none_there k r e
range_above floor (first ∷ rs) zero r all parted e = let same : first ≡ r = some_is first r e in let h = parted.0 in subst (λ (y : Range). floor ≤ y.first) same h
range_above floor (first ∷ rs) (suc k) r all parted e =
    let h = range_above (first.last + 2) rs k r all.1 parted.1 e in
    let l = parted.0 in
    let o = all.0.ordered in
    omega arith

-- a later range begins above the byte after the last
pub range_higher : (floor : ℕ) (rs : List Range) (i j : ℕ) (r s : Range) → AllByRecursion IsRange rs → AreApart floor rs → i < j → slice_get rs i ≡ Some r → slice_get rs j ≡ Some s → r.last + 1 < s.first
range_higher floor [] i j r s all parted lt e f = none_there i r e
range_higher floor (first ∷ rs) i zero r s all parted lt e f = absurd (omega arith)
range_higher floor (first ∷ rs) zero (suc j) r s all parted lt e f =
    let same : first ≡ r = some_is first r e in
    let h = range_above (first.last + 2) rs j s all.1 parted.1 f in
    subst (λ (z : Range). z.last + 1 < s.first) same (omega arith)
range_higher floor (first ∷ rs) (suc i) (suc j) r s all parted lt e f = range_higher (first.last + 2) rs i j r s all.1 parted.1 (omega arith) e f

-- Of a certificate:
module _ {V : Type 0} (format : Format V) (c : Certificate V) (has : HasSpelling format c) where
  -- the addresses of instructions are a rising list
  pub instructions_increase : IsStrictlyIncreasing (map (λ (i : Instruction V). i.address) c.instructions)
  instructions_increase = increasing (λ (i : Instruction V). i.address) 0 c.instructions has.instructions_rise

  -- and those of routines
  pub routines_increase : IsStrictlyIncreasing (map (λ (r : Routine V). r.address) c.routines)
  routines_increase = increasing (λ (r : Routine V). r.address) 0 c.routines has.routines_rise

  -- a later instruction has a higher address
  pub instructions_rise : (i j : ℕ) (x y : Instruction V) → i < j → slice_get c.instructions i ≡ Some x → slice_get c.instructions j ≡ Some y → x.address < y.address
  instructions_rise i j x y lt e f = higher (λ (z : Instruction V). z.address) 0 c.instructions i j x y has.instructions_rise lt e f

  -- and a later routine
  pub routines_rise : (i j : ℕ) (x y : Routine V) → i < j → slice_get c.routines i ≡ Some x → slice_get c.routines j ≡ Some y → x.address < y.address
  routines_rise i j x y lt e f = higher (λ (z : Routine V). z.address) 0 c.routines i j x y has.routines_rise lt e f

  -- ranges don't touch
  pub ranges_apart : (i j : ℕ) (r s : Range) → i < j → slice_get c.ranges i ≡ Some r → slice_get c.ranges j ≡ Some s → r.last + 1 < s.first
  ranges_apart i j r s lt e f = range_higher 0 c.ranges i j r s has.ranges has.ranges_apart lt e f

  -- there are 240 globals
  pub globals_are_240 : length c.globals ≡ 240
  globals_are_240 = has.globals

-- What a step is made of, for the proof that it is safe.
use Rattle.std.proofs.Common.{◌≡◌, ℕ, zero, suc, ◌-◌, ◌<◌, ◌≤◌, Bool, true, false, List, [], ◌∷◌, length, take, Option, Some, None, Result, Ok, refl, subst, arith, nat_lt, nat_le, slice_set, if◌then◌else◌}
use Rattle.std.specs.Prelude.{IfSome, MatchOption, slice_get, slice_index, ◌==◌, ◌&&◌, ◌||◌}
use Rattle.std.specs.Bool.{OnTrue}
use Rattle.std.specs.List.{AllByRecursion}
use Rattle.std.proofs.lemmas.Bool.{le-leb, ltb-true, lt-ltb, ne_eqb}
use Rattle.std.proofs.lemmas.Int.{ints}
use Rattle.std.proofs.lemmas.List.{get_or-set_same, length-set}
use Rattle.zword.specs.declared.binary.BinaryOp.{BinaryOp}
use Rattle.zword.specs.declared.binary.BinaryOp.TheVariants.{Add, Sub, Mul, Div, Mod, Or, And}
use Rattle.zword.specs.Binary.{is_defined}
use Rattle.zword.specs.declared.question.Question.{Question}
use Rattle.zword.specs.Question.{holds}
use Rattle.zstory.specs.LoadedStory.{LoadedStory}
use Rattle.zcode.specs.declared.instr.Operand.{Operand}
use Rattle.zcode.specs.declared.operation.Operation.TheVariants.{Binary}
use Rattle.zdomain.specs.Domain.{SetOperations, AreSound, In}
use Rattle.zstate.specs.declared.halt.Halt.{Halt}
use Rattle.zstate.specs.State.{State, exists, put_named, put_in_place}
use Rattle.zstate.specs.Step.{Done, arg, asked_of}
use Rattle.zflow.specs.declared.parts.Pairs.{Pairs}
use Rattle.zflow.specs.Transfer.{Shape, pops, local_kept, demands_of, slots_with, with_assigned}
use Rattle.zrule.specs.Claims.{Claims}
use Rattle.zrule.specs.Rules.{IsNamed, gives_by_property}
use Rattle.zrule.proofs.Sets.{pops_cons}
use Rattle.zrule.proofs.Parts.{HoldsOne}

pub not_both : (b : Bool) → b ≡ true → b ≡ false → ⊥
not_both true e f = cc
not_both false e f = cc

-- among words without a sign, signed readings are in the same order
pub between_small : {V : Type 0} (o : SetOperations V) → AreSound o → (lo hi x : ℕ) → lo ≤ x → x ≤ hi → hi < 32768 → In o (o.between lo hi) x
between_small o lawful lo hi x least most few = lawful.between lo hi x (omega (arith, ints, least, most, few)) (omega (arith, ints, least, most, few)) (omega (arith, most, few))

pub on_true : (b : Bool) (A B : Type 0) → OnTrue b (A → B) → A → OnTrue b B
on_true true A B f a = f a
on_true false A B f a = tt

-- what holds anyway holds where something is asked of a property
pub known_wherever : {V : Type 0} (p : Option (Pairs V)) (P : Type 0) → P → IfSome p (λ q. OnTrue (gives_by_property q.asked) P)
known_wherever None P holds = tt
known_wherever (Some q) P holds = on (gives_by_property q.asked)
  where
    on : (b : Bool) → OnTrue b P
    on true = holds
    on false = tt

pub first_there : {V : Type 0} (o : SetOperations V) (claims : Claims V) (xs : List Operand) (e : Shape V) → pops xs ≤ length e.slots → AllByRecursion (IsNamed o claims e) xs → (pops (take 1 xs) ≤ length e.slots) × IfSome (slice_get xs 0) (IsNamed o claims e)
first_there o claims [] e few named = (few, tt)
first_there o claims (x ∷ xs) e few named = (let count = pops_cons x xs in omega (arith, count, few), named.0)

-- a local that was given a value
pub assigned_local : (story : LoadedStory) (v x : ℕ) (u : State) → 1 ≤ v → v < 16 → v ≤ length u.frame.locals → slice_index (put_in_place story v x u).frame.locals (v - 1) ≡ x
unfolding put_in_place put_named
assigned_local story v x u least few exists = let n = ne_eqb v 0 (λ e. omega (arith, e, least)) in let e = lt-ltb v 16 few in rw (n, e) (get_or-set_same u.frame.locals (v - 1) x 0 (omega (arith, least, exists)))

pub at_least_one : (v : ℕ) → nat_le 1 v ≡ true → 1 ≤ v
at_least_one zero e = absurd cc
at_least_one (suc v) e = omega arith

pub length_assigned : {V : Type 0} (a : Option (ℕ × V)) (e : Shape V) → length (with_assigned a e).locals ≡ length e.locals
length_assigned None e = refl
length_assigned (Some p) e = by_kind (p.0 == 0) (nat_lt p.0 16)
  where
    by_kind : (b c : Bool) → length (if b then e.locals else (if c then slice_set e.locals (p.0 - 1) p.1 else e.locals)) ≡ length e.locals
    by_kind true c = refl
    by_kind false true = length-set e.locals (p.0 - 1) p.1
    by_kind false false = refl

pub edge_of : {A : Type 0} (r : Option A) (Q : A → Type 0) → MatchOption r ⊥ Q → (f : A) × (r ≡ Some f) × Q f
edge_of None Q h = absurd h
edge_of (Some f) Q h = (f, refl, h)

-- what divides by a value that isn't 0 is defined
pub defined_where : {V : Type 0} (o : SetOperations V) (op : BinaryOp) (a : V) (y : ℕ) → IfSome (demands_of o (Binary op) (λ k. a)).divisor (λ a. In o a 0 → ⊥) → In o a y → is_defined op y ≡ true
unfolding demands_of
defined_where o Add a y h member = refl
defined_where o Sub a y h member = refl
defined_where o Mul a y h member = refl
defined_where o Or a y h member = refl
defined_where o And a y h member = refl
defined_where o Div a y h member = let n = ne_eqb y 0 (λ e. h (subst (λ (n : ℕ). In o a n) e member)) in rw n refl
defined_where o Mod a y h member = let n = ne_eqb y 0 (λ e. h (subst (λ (n : ℕ). In o a n) e member)) in rw n refl

-- two operands that are compared, or more
pub two_asked : (q : Question) (values : List ℕ) → length values ≡ 2 → asked_of q values ≡ holds q (arg values 0) (arg values 1)
two_asked q [] e = absurd cc
two_asked q (x ∷ []) e = absurd cc
two_asked q (x ∷ y ∷ []) e = or_false (holds q x y)
  where
    or_false : (b : Bool) → (b || false) ≡ b
    or_false true = refl
    or_false false = refl
two_asked q (x ∷ y ∷ z ∷ values) e = absurd (omega (arith, e))

pub not_below_one : (n : ℕ) → (n == 0) ≡ false → 1 ≤ n
not_below_one zero e = absurd cc
not_below_one (suc n) e = omega arith

-- where there is an object there are some
pub not_none : (objects x : ℕ) → 1 ≤ x → x ≤ objects → (objects == 0) ≡ false
not_none objects x first most = ne_eqb objects 0 (λ e. omega (arith, e, first, most))

-- an object's number is known for one
pub object_known : (objects x : ℕ) → (1 ≤ x) × (x ≤ objects) → (nat_le 1 x && nat_le x objects) ≡ true
object_known objects x h = let a = le-leb 1 x h.0 in let b = le-leb x objects h.1 in rw (a, b) refl

pub not_zero : (x : ℕ) → (x == 0) ≡ false → x ≡ 0 → ⊥
not_zero zero e is = absurd cc
not_zero (suc x) e is = absurd cc

pub same_read : (x y : List ℕ × State) → ◌≡◌ {A = Result (List ℕ × State) Halt} (Ok x) (Ok y) → x ≡ y
same_read x y e = cc

pub same_done : (x y : Done) → ◌≡◌ {A = Result Done Halt} (Ok x) (Ok y) → x ≡ y
same_done x y e = cc

module _ {V : Type 0} (o : SetOperations V) (lawful : AreSound o) where
  pub kept_holds : (v : ℕ) (a : V) (locals : List ℕ) → (1 ≤ v → v < 16 → In o a (slice_index locals (v - 1))) → HoldsOne o lawful (local_kept v a) locals
  kept_holds v a locals has = by_test (nat_le 1 v) (nat_lt v 16) refl refl
    where
      by_test : (b c : Bool) → nat_le 1 v ≡ b → nat_lt v 16 ≡ c → HoldsOne o lawful (if b && c then Some (v, a) else None) locals
      by_test true true e f = has (at_least_one v e) (ltb-true v 16 f)
      by_test true false e f = tt
      by_test false c e f = tt

-- a value that comes makes a stack no lower
pub no_lower : {V : Type 0} (x : Option V) (v : ℕ) (slots : List V) → length slots ≤ length (slots_with x v slots)
no_lower None v slots = omega arith
no_lower (Some a) v slots = by (v == 0)
  where
    by : (b : Bool) → length slots ≤ length (if b then a ∷ slots else slots)
    by true = omega arith
    by false = omega arith

-- What is known of values, as sets that have them.
use Rattle.std.proofs.Common.{◌≡◌, ℕ, zero, suc, ◌+◌, ◌-◌, ◌<◌, ◌≤◌, Bool, true, false, List, [], ◌∷◌, length, drop, take, Some, Ok, refl, sym, ap, subst, ◌∙◌, arith}
use Rattle.std.specs.Prelude.{slice_get, slice_set, slice_index, slice_index_or, nat_lt, ◌==◌}
use Rattle.std.specs.Bool.{MatchBool}
use Rattle.std.specs.List.{AllZip, AllByRecursion}
use Rattle.std.proofs.lemmas.Bool.{lt-ltb, ltb-true, eqb-true}
use Rattle.std.proofs.lemmas.Option.{get_or_from_slice_get, same_Some}
use Rattle.zstory.specs.LoadedStory.{LoadedStory}
use Rattle.zstory.specs.Bytes.{word_at}
use Rattle.zcode.specs.declared.instr.Operand.{Operand}
use Rattle.zcode.specs.declared.instr.Operand.TheVariants.{Constant, Variable}
use Rattle.zdomain.specs.Domain.{SetOperations, AreSound, In}
use Rattle.zstate.specs.InTurn.{in_turn}
use Rattle.zstate.specs.State.{State, global, popped, with_stack, read_named, read_variable, read_operand, read_operands}
use Rattle.zstate.specs.Step.{arg}
use Rattle.zflow.specs.Transfer.{Shape, takes_slot, pops, below, values_of, values_if, operand_set}
use Rattle.zrule.specs.Claims.{Claims}
use Rattle.zrule.specs.Rules.{LieIn, global_in, IsNamed}
use Rattle.zrule.specs.Described.{Fits}

-- ---- lists side by side

pub zip_length : {A B : Type 0} (R : A → B → Type 0) (xs : List A) (ys : List B) → AllZip R xs ys → length xs ≡ length ys
zip_length R [] [] z = refl
zip_length R [] (y ∷ ys) z = absurd z
zip_length R (x ∷ xs) [] z = absurd z
zip_length R (x ∷ xs) (y ∷ ys) z = ap (λ (n : ℕ). suc n) (zip_length R xs ys z.1)

pub zip_get : {A B : Type 0} (R : A → B → Type 0) (xs : List A) (ys : List B) → AllZip R xs ys → (i : ℕ) → i < length xs → (x : A) × (y : B) × (slice_get xs i ≡ Some x) × (slice_get ys i ≡ Some y) × R x y
zip_get R [] [] z i h = absurd (omega (arith, h))
zip_get R [] (y ∷ ys) z i h = absurd z
zip_get R (x ∷ xs) [] z i h = absurd z
zip_get R (x ∷ xs) (y ∷ ys) z zero h = (x, y, refl, refl, z.0)
zip_get R (x ∷ xs) (y ∷ ys) z (suc i) h = zip_get R xs ys z.1 i (omega (arith, h))

pub zip_set : {A B : Type 0} (R : A → B → Type 0) (xs : List A) (ys : List B) → AllZip R xs ys → (i : ℕ) (x : A) (y : B) → R x y → AllZip R (slice_set xs i x) (slice_set ys i y)
zip_set R [] [] z i x y r = z
zip_set R [] (b ∷ ys) z i x y r = absurd z
zip_set R (a ∷ xs) [] z i x y r = absurd z
zip_set R (a ∷ xs) (b ∷ ys) z zero x y r = (r, z.1)
zip_set R (a ∷ xs) (b ∷ ys) z (suc i) x y r = (z.0, zip_set R xs ys z.1 i x y r)

pub zip_drop : {A B : Type 0} (R : A → B → Type 0) (n : ℕ) (xs : List A) (ys : List B) → AllZip R xs ys → AllZip R (drop n xs) (drop n ys)
zip_drop R zero xs ys z = z
zip_drop R (suc n) [] [] z = z
zip_drop R (suc n) [] (y ∷ ys) z = absurd z
zip_drop R (suc n) (x ∷ xs) [] z = absurd z
zip_drop R (suc n) (x ∷ xs) (y ∷ ys) z = zip_drop R n xs ys z.1

length_dropped : {A : Type 0} (n : ℕ) (xs : List A) → length xs ≤ length (drop n xs) + n
length_dropped zero xs = omega arith
length_dropped (suc n) [] = omega arith
length_dropped (suc n) (x ∷ xs) = let h = length_dropped n xs in omega (arith, h)

drop_more : {A : Type 0} (n : ℕ) (xs : List A) → drop n (drop 1 xs) ≡ drop (suc n) xs
drop_more zero [] = refl
drop_more (suc n) [] = refl
drop_more n (x ∷ xs) = refl

pub some_at : {A : Type 0} (xs : List A) (k : ℕ) → k < length xs → (x : A) × (slice_get xs k ≡ Some x)
some_at [] k h = absurd (omega (arith, h))
some_at (x ∷ xs) zero h = (x, refl)
some_at (x ∷ xs) (suc k) h = some_at xs k (omega (arith, h))

-- ---- operands

not_zero : (v : ℕ) → (v == 0) ≡ false → 1 ≤ v
not_zero zero e = absurd cc
not_zero (suc v) e = omega arith

pub pops_cons : (x : Operand) (xs : List Operand) → pops (x ∷ xs) ≡ pops xs + pops (x ∷ [])
pops_cons x xs = by (takes_slot x) refl
  where
    by : (b : Bool) → takes_slot x ≡ b → pops (x ∷ xs) ≡ pops xs + pops (x ∷ [])
    by true e = rw e (omega arith)
    by false e = rw e (omega arith)

one_slot : (v : ℕ) (n : ℕ) → (v == 0) ≡ true → pops (Variable v ∷ []) ≤ n → 0 < n
one_slot v n e h = let k : 1 ≤ n = rw e at h in omega (arith, k)

-- an operand that is a local is read as it stands
abbrev pub HasLocals : List Operand → List ℕ → List ℕ → Type 0
HasLocals operands values locals = (k v : ℕ) → slice_get operands k ≡ Some (Variable v) → 1 ≤ v → v < 16 → arg values k ≡ slice_index locals (v - 1)

-- and so is one that is a global
abbrev pub HasWords : LoadedStory → List Operand → List ℕ → List ℕ → Type 0
HasWords story operands values memory = (k v : ℕ) → slice_get operands k ≡ Some (Variable v) → 16 ≤ v → arg values k ≡ global_in story memory (v - 16)

module _ {V : Type 0} (o : SetOperations V) (sets : List V) (story : LoadedStory) where
  -- what reading one operand comes to, where the globals have these sets
  record ReadsOne (x : Operand) (e : Shape V) (s : State) : Type 0 where
    value : ℕ
    read : read_operand story x s ≡ Ok (value, popped (pops (x ∷ [])) s)
    member : In o (values_of o sets x e) value
    local : (v : ℕ) → x ≡ Variable v → 1 ≤ v → v < 16 → value ≡ slice_index s.frame.locals (v - 1)
    global_word : (v : ℕ) → x ≡ Variable v → 16 ≤ v → value ≡ global_in story s.memory (v - 16)

  -- what reading all comes to
  pub record ReadsAll (operands : List Operand) (e : Shape V) (s : State) : Type 0 where
    pub values : List ℕ
    pub count : length values ≡ length operands
    pub read : read_operands story operands s ≡ Ok (values, popped (pops operands) s)
    pub members : (k : ℕ) → In o (operand_set o sets operands e k) (arg values k)
    pub locals : HasLocals operands values s.frame.locals
    pub words : HasWords story operands values s.memory

module _ {V : Type 0} (o : SetOperations V) (lawful : AreSound o) (claims : Claims V) (story : LoadedStory) where
  pub there : (xs : List V) (k : ℕ) (d x : V) (n : ℕ) → slice_get xs k ≡ Some x → In o x n → In o (slice_index_or xs k d) n
  there xs k d x n e i = subst (λ (a : V). In o a n) (sym (get_or_from_slice_get xs k x d e)) i

  same_variable : (v w : ℕ) → Variable v ≡ Variable w → v ≡ w
  same_variable v w e = cc

  stack_is : (v w : ℕ) → (v == 0) ≡ true → Variable v ≡ Variable w → 1 ≤ w → ⊥
  stack_is v w is same least = let e = same_variable v w same in let z = eqb-true v 0 is in omega (arith, e, z, least)

  pub fits_popped : (n : ℕ) (e : Shape V) (s : State) → Fits o claims e s.frame.locals s.frame.stack → Fits o claims (below n e) (popped n s).frame.locals (popped n s).frame.stack
  fits_popped n e s fits = record { in_locals = fits.in_locals; in_slots = zip_drop (In o) n e.slots s.frame.stack fits.in_slots }

  named_below : (n : ℕ) (e : Shape V) (xs : List Operand) → AllByRecursion (IsNamed o claims e) xs → AllByRecursion (IsNamed o claims (below n e)) xs
  named_below n e [] h = tt
  named_below n e (Constant k ∷ xs) h = (h.0, named_below n e xs h.1)
  named_below n e (Variable v ∷ xs) h = (h.0, named_below n e xs h.1)

  below_more : (x : Operand) (xs : List Operand) (e : Shape V) → below (pops xs) (below (pops (x ∷ [])) e) ≡ below (pops (x ∷ xs)) e
  below_more x xs e = by (takes_slot x) refl
    where
      by : (b : Bool) → takes_slot x ≡ b → below (pops xs) (below (pops (x ∷ [])) e) ≡ below (pops (x ∷ xs)) e
      by true h = rw h (ap (λ (slots : List V). record { locals = e.locals; slots = slots }) (drop_more (pops xs) e.slots))
      by false h = rw h refl

  popped_more : (x : Operand) (xs : List Operand) (s : State) → popped (pops xs) (popped (pops (x ∷ [])) s) ≡ popped (pops (x ∷ xs)) s
  popped_more x xs s = by (takes_slot x) refl
    where
      by : (b : Bool) → takes_slot x ≡ b → popped (pops xs) (popped (pops (x ∷ [])) s) ≡ popped (pops (x ∷ xs)) s
      by true h = rw h (ap (λ (stack : List ℕ). with_stack stack s) (drop_more (pops xs) s.frame.stack))
      by false h = rw h refl

  -- where there are as many such sets as globals
  module _ (sets : List V) (same_count : length sets ≡ length claims.globals) where
    reads_stack : (v : ℕ) (e : Shape V) (s : State) (slots : List V) (stack : List ℕ) → (v == 0) ≡ true → e.slots ≡ slots → s.frame.stack ≡ stack → AllZip (In o) slots stack → 0 < length slots → ReadsOne o sets story (Variable v) e s
    unfolding read_operand read_variable
    reads_stack v e s [] stack zero_is a b z h = absurd (omega (arith, h))
    reads_stack v e s (c ∷ slots) [] zero_is a b z h = absurd z
    reads_stack v e s (c ∷ slots) (n ∷ stack) zero_is a b z h =
        record { value = n; read = rw (zero_is, b) refl; member = rw (zero_is, a) z.0; local = λ w same least few. absurd (stack_is v w zero_is same least); global_word = λ w same high. absurd (stack_is v w zero_is same (omega (arith, high))) }

    reads_named : (v : ℕ) (e : Shape V) (s : State) → (v == 0) ≡ false → Fits o claims e s.frame.locals s.frame.stack → LieIn o sets story s.memory → MatchBool (nat_lt v 16) (v ≤ length e.locals) ((v < 256) × (v - 16 < length claims.globals)) → 1 ≤ v → ReadsOne o sets story (Variable v) e s
    unfolding read_operand read_variable read_named
    reads_named v e s some fits globals named least = by_kind (nat_lt v 16) refl named
      where
        by_kind : (c : Bool) → nat_lt v 16 ≡ c → MatchBool c (v ≤ length e.locals) ((v < 256) × (v - 16 < length claims.globals)) → ReadsOne o sets story (Variable v) e s
        by_kind true c within =
            let z = zip_get (In o) e.locals s.frame.locals fits.in_locals (v - 1) (omega (arith, within, least)) in
            record {
              value = z.1;
              read = rw (some, c, z.3) refl;
              member = rw (some, c) (there e.locals (v - 1) o.any z.0 z.1 z.2 z.4);
              local = λ w same l f. sym (ap (λ (n : ℕ). slice_index s.frame.locals (n - 1)) (sym (same_variable v w same)) ∙ get_or_from_slice_get s.frame.locals (v - 1) z.1 0 z.3);
              global_word = λ w same high. absurd (let q = same_variable v w same in let f = ltb-true v 16 c in omega (arith, q, f, high));
            }
        by_kind false c within =
            let g = some_at sets (v - 16) (rw same_count within.1) in
            record {
              value = word_at s.memory (global story v);
              read = rw (some, c) refl;
              member = rw (some, c) (there sets (v - 16) o.any g.0 (word_at s.memory (global story v)) g.1 (globals (v - 16) g.0 g.1));
              local = λ w same l few. absurd (let f = lt-ltb v 16 (let q = same_variable v w same in omega (arith, q, few)) in cc);
              global_word = λ w same high. ap (λ (n : ℕ). word_at s.memory (global story n)) (same_variable v w same);
            }

    reads_one : (x : Operand) (e : Shape V) (s : State) → Fits o claims e s.frame.locals s.frame.stack → LieIn o sets story s.memory → pops (x ∷ []) ≤ length e.slots → IsNamed o claims e x → ReadsOne o sets story x e s
    unfolding read_operand
    reads_one (Constant n) e s fits globals height named = record { value = n; read = refl; member = lawful.single n named; local = λ v same l f. absurd cc; global_word = λ v same high. absurd cc }
    reads_one (Variable v) e s fits globals height named = by_stack (v == 0) refl named
      where
        by_stack : (b : Bool) → (v == 0) ≡ b → MatchBool b (Unit {0}) (MatchBool (nat_lt v 16) (v ≤ length e.locals) ((v < 256) × (v - 16 < length claims.globals))) → ReadsOne o sets story (Variable v) e s
        by_stack true is exists = reads_stack v e s e.slots s.frame.stack is refl refl fits.in_slots (one_slot v (length e.slots) is height)
        by_stack false is exists = reads_named v e s is fits globals exists (not_zero v is)

    members_cons : (x : Operand) (xs : List Operand) (e : Shape V) (v : ℕ) (vs : List ℕ) → In o (values_of o sets x e) v → ((k : ℕ) → In o (operand_set o sets xs (below (pops (x ∷ [])) e) k) (arg vs k)) → (k : ℕ) → In o (operand_set o sets (x ∷ xs) e k) (arg (v ∷ vs) k)
    members_cons x xs e v vs one rest zero = one
    members_cons x xs e v vs one rest (suc k) = subst (λ (f : Shape V). In o (values_if o sets (slice_get xs k) f) (arg vs k)) (below_more x (take k xs) e) (rest k)

    locals_cons : (x : Operand) (xs : List Operand) (n : ℕ) (values locals : List ℕ) → ((v : ℕ) → x ≡ Variable v → 1 ≤ v → v < 16 → n ≡ slice_index locals (v - 1)) → HasLocals xs values locals → HasLocals (x ∷ xs) (n ∷ values) locals
    locals_cons x xs n values locals one rest zero v is least few = one v (same_Some x (Variable v) is) least few
    locals_cons x xs n values locals one rest (suc k) v is least few = rest k v is least few

    words_cons : (x : Operand) (xs : List Operand) (n : ℕ) (values memory : List ℕ) → ((v : ℕ) → x ≡ Variable v → 16 ≤ v → n ≡ global_in story memory (v - 16)) → HasWords story xs values memory → HasWords story (x ∷ xs) (n ∷ values) memory
    words_cons x xs n values memory one rest zero v is high = one v (same_Some x (Variable v) is) high
    words_cons x xs n values memory one rest (suc k) v is high = rest k v is high

    pub reads_all : (operands : List Operand) (e : Shape V) (s : State) → Fits o claims e s.frame.locals s.frame.stack → LieIn o sets story s.memory → pops operands ≤ length e.slots → AllByRecursion (IsNamed o claims e) operands → ReadsAll o sets story operands e s
    unfolding in_turn
    reads_all [] e s fits globals height named = record { values = []; count = refl; read = refl; members = λ k. lawful.single 0 (omega arith); locals = λ k v is l f. absurd cc; words = λ k v is high. absurd cc }
    reads_all (x ∷ xs) e s fits globals height named =
        let count = pops_cons x xs in
        let n = pops (x ∷ []) in
        let t = popped n s in
        let one = reads_one x e s fits globals (omega (arith, count, height)) named.0 in
        let long = length_dropped n e.slots in
        let rest = reads_all xs (below n e) t (fits_popped n e s fits) globals (omega (arith, count, height, long)) (named_below n e xs named.1) in
        record {
          values = one.value ∷ rest.values;
          count = ap (λ (n : ℕ). suc n) rest.count;
          read = rw (one.read, rest.read) (ap (λ (u : State). Ok (one.value ∷ rest.values, u)) (popped_more x xs s));
          members = members_cons x xs e one.value rest.values one.member rest.members;
          locals = locals_cons x xs one.value rest.values s.frame.locals one.local rest.locals;
          words = words_cons x xs one.value rest.values s.memory one.global_word rest.words;
        }

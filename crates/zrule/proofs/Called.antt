-- Routines that are called: the locals that they begin with, and their heads, which stay as they are.
use Rattle.std.proofs.Common.{◌≡◌, ℕ, zero, suc, ◌+◌, ◌≤◌, true, List, [], ◌∷◌, length, take, refl, subst, arith}
use Rattle.std.specs.List.{AllZip}
use Rattle.zstory.specs.Bytes.{byte_at}
use Rattle.zdomain.specs.Domain.{SetOperations, In}
use Rattle.zstate.specs.State.{has_head}
use Rattle.zstate.specs.Step.{arg, arguments, words_from, laid_over, called_at}
use Rattle.zflow.specs.Transfer.{sets}
use Rattle.zrule.specs.Claims.{Claims}
use Rattle.zrule.specs.Rules.{Starts}
use Rattle.zrule.proofs.Sets.{zip_drop}

-- the locals that a routine begins with
pub starts_in : {V : Type 0} (o : SetOperations V) (claims : Claims V) (args : List V) (words : List ℕ) (stated : List V) (xs : List ℕ) → Starts o claims args words stated → AllZip (In o) args xs → AllZip (In o) stated (laid_over xs words)
unfolding laid_over
starts_in o claims [] [] [] [] h z = tt
starts_in o claims [] [] [] (y ∷ ys) h z = absurd z
starts_in o claims (a ∷ args) [] [] [] h z = absurd z
starts_in o claims (a ∷ args) [] [] (y ∷ ys) h z = tt
starts_in o claims [] [] (b ∷ bs) xs h z = absurd h
starts_in o claims (a ∷ args) [] (b ∷ bs) xs h z = absurd h
starts_in o claims [] (w ∷ ws) [] xs h z = absurd h
starts_in o claims (a ∷ args) (w ∷ ws) [] xs h z = absurd h
starts_in o claims [] (w ∷ ws) (b ∷ bs) [] h z = (h.0, starts_in o claims [] ws bs [] h.1 tt)
starts_in o claims [] (w ∷ ws) (b ∷ bs) (y ∷ ys) h z = absurd z
starts_in o claims (a ∷ args) (w ∷ ws) (b ∷ bs) [] h z = absurd z
starts_in o claims (a ∷ args) (w ∷ ws) (b ∷ bs) (y ∷ ys) h z = (h.0 y z.0, starts_in o claims args ws bs ys h.1 z.1)

-- a routine's head in static memory is as it was loaded
words_same : (memory loaded : List ℕ) (p n : ℕ) → ((q : ℕ) → p ≤ q → byte_at memory q ≡ byte_at loaded q) → words_from memory p n ≡ words_from loaded p n
unfolding words_from
words_same memory loaded p zero same = refl
words_same memory loaded p (suc n) same =
    let high = same p (omega arith) in
    let low = same (p + 1) (omega arith) in
    let rest = words_same memory loaded (p + 2) n (λ q above. same q (omega (arith, above))) in
    rw (high, low, rest) refl

pub called_same : (memory loaded : List ℕ) (p : ℕ) (xs : List ℕ) → ((q : ℕ) → p ≤ q → byte_at memory q ≡ byte_at loaded q) → called_at memory p xs ≡ called_at loaded p xs
called_same memory loaded p xs same =
    let count = same p (omega arith) in
    let words = words_same memory loaded (p + 1) (byte_at loaded p) (λ q above. same q (omega (arith, above))) in
    rw (count, words) refl

pub head_same : (memory loaded : List ℕ) (p : ℕ) → length memory ≡ length loaded → byte_at memory p ≡ byte_at loaded p → has_head loaded p ≡ true → has_head memory p ≡ true
head_same memory loaded p long same h = rw (long, same) h

-- ---- the arguments

zip_sets : {V : Type 0} (o : SetOperations V) (sets_at : ℕ → V) (xs : List ℕ) → ((k : ℕ) → In o (sets_at k) (arg xs k)) → AllZip (In o) (sets sets_at (length xs)) xs
unfolding sets
zip_sets o sets_at [] members = tt
zip_sets o sets_at (x ∷ xs) members = (members 0, zip_sets o (λ k. sets_at (suc k)) xs (λ k. members (suc k)))

zip_take : {A : Type 0} {B : Type 0} (R : A → B → Type 0) (n : ℕ) (xs : List A) (ys : List B) → AllZip R xs ys → AllZip R (take n xs) (take n ys)
zip_take R zero xs ys z = tt
zip_take R (suc n) [] [] z = tt
zip_take R (suc n) [] (y ∷ ys) z = absurd z
zip_take R (suc n) (x ∷ xs) [] z = absurd z
zip_take R (suc n) (x ∷ xs) (y ∷ ys) z = (z.0, zip_take R n xs ys z.1)

pub arguments_in : {V : Type 0} (o : SetOperations V) (sets_at : ℕ → V) (n : ℕ) (xs : List ℕ) → length xs ≡ n → ((k : ℕ) → In o (sets_at k) (arg xs k)) → AllZip (In o) (arguments (sets sets_at n)) (arguments xs)
arguments_in o sets_at n xs same members =
    let zipped : AllZip (In o) (sets sets_at n) xs = subst (λ (k : ℕ). AllZip (In o) (sets sets_at k) xs) same (zip_sets o sets_at xs members) in
    zip_take (In o) 3 _ _ (zip_drop (In o) 1 _ _ zipped)

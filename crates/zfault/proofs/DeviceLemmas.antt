-- What writes in a row append, whole or begun.
use Rattle.std.proofs.Common.{◌≡◌, ℕ, ◌+◌, ◌-◌, ◌<◌, ◌≤◌, List, ◌++◌, length, length-append, take, drop, subst, refl, sym, ap, ◌∙◌, arith}
use Rattle.std.specs.Prelude.{Option, Result, Ok, Err, OnErr, Bool, true, [], ◌∷◌, min}
use Rattle.std.specs.Io.KnownBytes.{Appends, Keeps}
use Rattle.std.proofs.KnownBytes.{Appends-kept, Appends-trans}
use Rattle.std.proofs.Math.Seq.{take-add, take-append-add, take-length}
use Rattle.std.proofs.lemmas.List.{length-drop, take-append-le, take_all, take_min}
use Rattle.zfault.specs.Devices.{AppendsBeginning, BreaksOff, LeavesWaiting, waits_after}

-- what `&xs[i..]` is
take-drop-all : (i : ℕ) (xs : List ℕ) → take (length xs - i) (drop i xs) ≡ drop i xs
take-drop-all i xs = rw (← length-drop i xs, take-length) refl

-- the first i bytes, and then n more of the rest
pub Appends-take-add : (a b c : Option (List ℕ)) (i n : ℕ) (xs : List ℕ) → Appends a b (take i xs) → Appends b c (take n (take (length xs - i) (drop i xs))) → Appends a c (take (i + n) xs)
Appends-take-add a b c i n xs before more =
    let P : List ℕ → Type 0 = λ ys. Appends b c (take n ys) in
    rw take-add (Appends-trans a b c (take i xs) (take n (drop i xs)) before (subst P (take-drop-all i xs) more))

-- bytes that were taken in two calls wait as if they were taken in one
pub waits_after-append : (before : Bool) (xs ys : List ℕ) → waits_after (waits_after before xs) ys ≡ waits_after before (xs ++ ys)
waits_after-append before [] ys = refl
waits_after-append before (x ∷ xs) [] = refl
waits_after-append before (x ∷ xs) (y ∷ ys) = refl

-- what waits goes on waiting
pub still_waits : (before after : Bool) (xs : List ℕ) → after ≡ waits_after before xs → before ≡ true → after ≡ true
still_waits before after [] now waiting = now ∙ waiting
still_waits before after (x ∷ xs) now waiting = now

-- the first i bytes, and then n more of the rest
pub waits_after-take_add : (a b c : Bool) (i n : ℕ) (xs : List ℕ) → b ≡ waits_after a (take i xs) → c ≡ waits_after b (take n (take (length xs - i) (drop i xs))) → c ≡ waits_after a (take (i + n) xs)
waits_after-take_add a b c i n xs before more =
    more ∙ ap (λ (ys : List ℕ). waits_after b (take n ys)) (take-drop-all i xs) ∙ ap (λ (w : Bool). waits_after w (take n (drop i xs))) before ∙ waits_after-append a (take i xs) (take n (drop i xs))
    ∙ sym (ap (waits_after a) (take-add i n xs))

-- all of the bytes
pub waits_after-whole : (a b : Bool) (i : ℕ) (xs : List ℕ) → length xs ≤ i → b ≡ waits_after a (take i xs) → b ≡ waits_after a xs
waits_after-whole a b i xs whole waits = waits ∙ ap (waits_after a) (take_all i xs whole)

-- no place lies before the end of no bytes
pub not_below : (i : ℕ) (xs : List ℕ) → i < length xs → xs ≡ [] → ⊥
not_below i xs below none = omega (arith, below, ap length none)

-- what is said where a call failed
pub on_err : {T E : Type 0} {P : Type 0} (r : Result T E) → P → OnErr r P
on_err (Ok x) p = tt
on_err (Err x) p = p

-- pieces of which all bytes wait, one after another
pub LeavesWaiting-after : (a b c : Option (List ℕ)) (u v w : Bool) (xs ys : List ℕ) → LeavesWaiting a b u v xs → LeavesWaiting b c v w ys → LeavesWaiting a c u w (xs ++ ys)
LeavesWaiting-after a b c u v w xs ys first second =
    record {
      grown = Appends-trans a b c xs ys first.grown second.grown;
      waits = second.waits ∙ ap (λ (x : Bool). waits_after x ys) first.waits ∙ waits_after-append u xs ys;
    }

-- a whole piece, and then one that broke off
pub BreaksOff-after : (a b c : Option (List ℕ)) (u v w : Bool) (xs ys : List ℕ) → LeavesWaiting a b u v xs → BreaksOff b c v w ys → BreaksOff a c u w (xs ++ ys)
BreaksOff-after a b c u v w xs ys whole broke =
    record {
      taken = length xs + broke.taken;
      short = omega (arith, broke.short, length-append xs ys);
      grown = rw take-append-add (Appends-trans a b c xs (take broke.taken ys) whole.grown broke.grown);
      waits = broke.waits ∙ ap (λ (x : Bool). waits_after x (take broke.taken ys)) whole.waits ∙ waits_after-append u xs (take broke.taken ys) ∙ sym (rw take-append-add refl);
    }

-- a piece that broke off, and all that would have come behind it
pub BreaksOff-append : (a b : Option (List ℕ)) (u v : Bool) (xs ys : List ℕ) → BreaksOff a b u v xs → BreaksOff a b u v (xs ++ ys)
BreaksOff-append a b u v xs ys broke =
    let within : broke.taken ≤ length xs = omega (arith, broke.short) in
    let same = take-append-le broke.taken xs ys within in
    record {
      taken = broke.taken;
      short = omega (arith, broke.short, length-append xs ys);
      grown = subst (Appends a b) (sym same) broke.grown;
      waits = broke.waits ∙ sym (ap (waits_after u) same);
    }

-- a whole piece, and then a beginning of the next
pub AppendsBeginning-after : (a b c : Option (List ℕ)) (xs ys : List ℕ) → Appends a b xs → AppendsBeginning b c ys → AppendsBeginning a c (xs ++ ys)
AppendsBeginning-after a b c xs ys whole begun =
    record {
      taken = length xs + begun.taken;
      grown = rw take-append-add (Appends-trans a b c xs (take begun.taken ys) whole begun.grown);
    }

-- a beginning of a piece begins all that the piece begins
pub AppendsBeginning-append : (a b : Option (List ℕ)) (xs ys : List ℕ) → AppendsBeginning a b xs → AppendsBeginning a b (xs ++ ys)
AppendsBeginning-append a b xs ys begun =
    let n : ℕ = min begun.taken (length xs) in
    let within : n ≤ length xs = omega arith in
    record {
      taken = n;
      grown = rw (take-append-le n xs ys within, take_min) begun.grown;
    }

-- a whole piece, of which nothing was lost since
pub AppendsBeginning-whole : (a b c : Option (List ℕ)) (xs : List ℕ) → Appends a b xs → Keeps b c → AppendsBeginning a c xs
AppendsBeginning-whole a b c xs whole kept =
    record { taken = length xs; grown = subst (Appends a c) (sym (take-length xs)) (Appends-kept a b c xs whole kept) }

-- for writes in a row
pub ruleset beginnings = (AppendsBeginning-after, AppendsBeginning-append, Appends-trans)

-- Spaces, written some at a time.
use Rattle.std.proofs.Common.{◌≡◌, ℕ, zero, suc, ◌-◌, ◌≤◌, List, ◌∷◌, ◌++◌, take, refl, ap, ◌∙◌, subst, arith}
use Rattle.std.specs.Prelude.{Option, min, replicate}
use Rattle.std.specs.Io.KnownBytes.{Appends}
use Rattle.std.proofs.KnownBytes.{Appends-trans}
use Rattle.std.proofs.lemmas.List.{replicate-append-replicate}
use Rattle.zfault.specs.Devices.{AppendsBeginning}
use Rattle.zfault.proofs.DeviceLemmas.{AppendsBeginning-after, AppendsBeginning-append}

abbrev pub spaces : ℕ → List ℕ
spaces count = replicate count 32

some_of : (n m : ℕ) → n ≤ m → take n (spaces m) ≡ spaces n
some_of zero m within = refl
some_of (suc n) zero within = absurd (omega (arith, within))
some_of (suc n) (suc m) within = ap (λ (b : List ℕ). 32 ∷ b) (some_of n m (omega (arith, within)))

-- those before, and some more
joined : (count left some : ℕ) → left ≤ count → some ≡ min left 64 → spaces (count - left) ++ take some (spaces 64) ≡ spaces (count - (left - some))
joined count left some within number =
    ap (λ (b : List ℕ). spaces (count - left) ++ b) (some_of some 64 (omega (arith, number)))
    ∙ replicate-append-replicate (count - left) some 32 ∙ ap spaces (omega (arith, within, number))

pub spaces_more : (a b c : Option (List ℕ)) (count left some : ℕ) → left ≤ count → some ≡ min left 64 → Appends a b (spaces (count - left)) → Appends b c (take some (spaces 64)) → Appends a c (spaces (count - (left - some)))
spaces_more a b c count left some within number before grown =
    subst (λ (given : List ℕ). Appends a c given) (joined count left some within number) (Appends-trans a b c (spaces (count - left)) (take some (spaces 64)) before grown)

pub spaces_begun : (a b c : Option (List ℕ)) (count left some : ℕ) → left ≤ count → some ≡ min left 64 → Appends a b (spaces (count - left)) → AppendsBeginning b c (take some (spaces 64)) → AppendsBeginning a c (spaces count)
spaces_begun a b c count left some within number before begun =
    subst (λ (given : List ℕ). AppendsBeginning a c given)
    (ap (λ (b : List ℕ). b ++ spaces (left - some)) (joined count left some within number) ∙ replicate-append-replicate (count - (left - some)) (left - some) 32 ∙ ap spaces (omega (arith, within, number)))
    (AppendsBeginning-append a c (spaces (count - left) ++ take some (spaces 64)) (spaces (left - some)) (AppendsBeginning-after a b c (spaces (count - left)) (take some (spaces 64)) before begun))

-- Reading a file in pieces.
use Rattle.std.proofs.Common.{◌≡◌, ◌∙◌, ◌+◌, ◌≤◌, ℕ, List, ◌++◌, length, take, drop, sym, ap, ap₂, length-append}
use Rattle.std.proofs.lemmas.List.{length-take-le}
use Rattle.std.proofs.Math.Seq.{take-add}
use Rattle.zperform.specs.Contents.{GivesPart, IsBeginning}

-- a beginning, and the bytes that follow it
pub beginning_more : (at count : ℕ) (part buffer whole file : List ℕ) → at ≡ length part → count ≤ length buffer → whole ≡ part ++ take count buffer → IsBeginning part file → GivesPart file at count buffer → IsBeginning whole file
beginning_more at count part buffer whole file place few is begun more =
    let long : length whole ≡ at + count = ap length is ∙ length-append part (take count buffer) ∙ ap₂ (λ (m n : ℕ). m + n) (sym place) (length-take-le count buffer few) in
    let split : take (at + count) file ≡ take at file ++ take count (drop at file) = take-add at count file in
    is ∙ ap₂ (λ (xs ys : List ℕ). xs ++ ys) (begun ∙ ap (λ (n : ℕ). take n file) (sym place)) more.read ∙ sym split ∙ ap (λ (n : ℕ). take n file) (sym long)

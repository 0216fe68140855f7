-- How a line is kept: its bytes, and zeros up to the limit.
use Rattle.std.specs.Prelude.{◌≡◌, ℕ, ◌-◌, ◌≤◌, List, ◌++◌, drop, length, replicate, take, refl}
use Rattle.std.proofs.Common.{arith}
use Rattle.std.proofs.lemmas.List.{length-take-le, take-append-drop}
use Rattle.zfault.specs.declared.line.TheConstants.{LINE_LIMIT}

-- the bytes, and zeros up to the limit
abbrev pub padded : List ℕ → List ℕ
padded bytes = bytes ++ replicate (LINE_LIMIT - length bytes) 0

-- of all the bytes that a line has room for, the first `count` are the line, and zeros follow
pub record IsPadded (bytes : List ℕ) (count : ℕ) : Type 0 where
  pub whole : length bytes ≡ LINE_LIMIT
  pub limit : count ≤ LINE_LIMIT
  pub zeros : drop count bytes ≡ replicate (LINE_LIMIT - count) 0

-- a line has as many bytes as are counted
pub length-line : (bytes : List ℕ) (count : ℕ) → IsPadded bytes count → length (take count bytes) ≡ count
length-line bytes count is_padded =
    let within : count ≤ length bytes = omega (arith, is_padded.whole, is_padded.limit) in
    length-take-le count bytes within

-- a line, padded again, is all the bytes
pub padded-take : (bytes : List ℕ) (count : ℕ) → IsPadded bytes count → padded (take count bytes) ≡ bytes
padded-take bytes count is_padded =
    rw (length-line bytes count is_padded, ← is_padded.zeros, take-append-drop count bytes) refl

-- so whatever is made of the bytes and their number can be made of the line
pub made_of_line : {A : Type 0} (make : List ℕ → ℕ → A) (bytes : List ℕ) (count : ℕ) → IsPadded bytes count → make (padded (take count bytes)) (length (take count bytes)) ≡ make bytes count
made_of_line make bytes count is_padded =
    rw (padded-take bytes count is_padded, length-line bytes count is_padded) refl

-- A line that was copied to the front of zeros.
use Rattle.std.proofs.Common.{◌≡◌, ℕ, ◌≤◌, List, ◌++◌, length, take, drop, refl, arith, length-append, length-drop}
use Rattle.std.specs.Prelude.{replicate, min}
use Rattle.std.proofs.Math.Seq.{take-append_seam, drop-append_seam}
use Rattle.std.proofs.lemmas.List.{drop-replicate, length-replicate, take_all}
use Rattle.zfault.specs.Line.{IsPadded}
use Rattle.zfault.specs.declared.line.TheConstants.{LINE_LIMIT}

-- zeros follow it
pub IsPadded-front : (line bytes : List ℕ) → length line ≤ LINE_LIMIT → bytes ≡ line ++ drop (length line) (replicate LINE_LIMIT 0) → IsPadded bytes (length line)
IsPadded-front line bytes within copied =
    record {
      whole = rw (copied, length-append, length-drop, length-replicate) (omega arith);
      limit = within;
      zeros = rw (copied, drop-append_seam line, drop-replicate) refl;
    }

-- it is what stands in front
pub take-front : (line zeros bytes : List ℕ) → bytes ≡ line ++ zeros → take (length line) bytes ≡ line
take-front line zeros bytes copied = rw (copied, take-append_seam line zeros) refl

-- the first n bytes, where a list may have fewer
pub take-min-length : (bytes : List ℕ) (n : ℕ) → take (min (length bytes) n) bytes ≡ take n bytes
take-min-length bytes n = grind (arith, take_all)

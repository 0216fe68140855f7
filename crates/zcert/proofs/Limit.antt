-- How many frames may stand above the first, as a certificate says.
use Rattle.std.proofs.Common.{ℕ, ◌≤◌, Option, None, Some, arith}
use Rattle.zcert.specs.declared.limits.TheConstants.{MAX_FRAMES}
use Rattle.zcert.specs.Certificate.{Certificate, frame_limit, limit_or_usual}
use Rattle.zcert.specs.Format.{Format}
use Rattle.zcert.specs.Spelling.{HasSpelling, IsLimit}

module _ {V : Type 0} (format : Format V) where
  pub limit_most : (limit : Option ℕ) → IsLimit format limit → limit_or_usual limit ≤ MAX_FRAMES
  limit_most None is = omega arith
  limit_most (Some n) is = is.1

  pub frame_limit_most : (c : Certificate V) → HasSpelling format c → frame_limit c ≤ MAX_FRAMES
  frame_limit_most c has = limit_most c.limit has.limit

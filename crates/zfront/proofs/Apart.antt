-- Two sides that are written one after the other.
use Rattle.std.proofs.Common.{ℕ, List, ◌++◌}
use Rattle.std.specs.Prelude.{Option, replicate}
use Rattle.std.specs.Io.KnownBytes.{Appends}
use Rattle.zfault.specs.Devices.{AppendsBeginning}
use Rattle.zfault.proofs.DeviceLemmas.{AppendsBeginning-after, AppendsBeginning-append}
use Rattle.zfront.specs.Headings.{apart}

module _ (a b c d : Option (List ℕ)) (name : List ℕ) (gap : ℕ) (right : List ℕ) where
  pub apart_name : AppendsBeginning a b name → AppendsBeginning a b (apart name gap right)
  apart_name begun = AppendsBeginning-append a b name (replicate gap 32 ++ right) begun

  pub apart_gap : Appends a b name → AppendsBeginning b c (replicate gap 32) → AppendsBeginning a c (apart name gap right)
  apart_gap first begun = AppendsBeginning-after a b c name (replicate gap 32 ++ right) first (AppendsBeginning-append b c (replicate gap 32) right begun)

  pub apart_right : Appends a b name → Appends b c (replicate gap 32) → AppendsBeginning c d right → AppendsBeginning a d (apart name gap right)
  apart_right first second begun = AppendsBeginning-after a b d name (replicate gap 32 ++ right) first (AppendsBeginning-after b c d (replicate gap 32) right second begun)

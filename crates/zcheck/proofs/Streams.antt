-- What is read of a certificate in pieces.
use Rattle.std.proofs.Common.{◌≡◌, ◌∙◌, Result, Ok, ap, sym}
use Rattle.zcert.specs.Certificate.{Certificate}
use Rattle.zcert.specs.declared.error.CertError.{CertError}

-- it is the certificate that was checked
pub read_same : {V : Type 0} (due : Result (Certificate V) CertError) (read checked : Certificate V) → due ≡ Ok read → checked ≡ read → due ≡ Ok checked
read_same due read checked e same = e ∙ ap (λ (c : Certificate _). Ok c) (sym same)

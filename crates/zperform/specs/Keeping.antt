-- Whether a file that is there may be written over (own).
use Rattle.std.specs.Prelude.{◌≡◌, ℕ, false, List, Option, Some, None, IfSome, codes, length, take}
use Rattle.clap.specs.Words.{Text}
use Rattle.zcommand.specs.CommandLine.{Request, Find, Play, Unpack}
use Rattle.zperform.specs.declared.outcome.Purpose.{Purpose}
use Rattle.zperform.specs.declared.outcome.Purpose.TheVariants.{Certificate, Save}
use Rattle.zperform.specs.declared.outcome.Problem.{Problem}
use Rattle.zperform.specs.declared.outcome.Problem.TheVariants.{Occupied}

-- the four bytes by which a file for this begins: a certificate (docs/CERTIFICATE.md), or a save (Q 8.1)
abbrev pub magic_of : Purpose → List ℕ
magic_of Certificate = codes "ZPCC"
magic_of Save = codes "FORM"

-- the number of the refusal of a file that is for this, and holds something else
abbrev pub purpose_number : Purpose → ℕ
purpose_number Certificate = 1
purpose_number Save = 2

-- the bytes of a file begin so, or are no more than a part of that, as an empty file's are
abbrev pub BeginsSo : List ℕ → List ℕ → Type 0
BeginsSo magic bytes = take 4 bytes ≡ take (length bytes) magic

-- the file that a request may write and what it is for, unless it may be written over whatever it holds, or that is told of each story
abbrev pub kept_in : Request → Option (Text × Purpose)
kept_in (Find story certificate frames strict places false false) = Some (certificate, Certificate)
kept_in (Play story certificate seed budget status (Some save) tell false lenient) = Some (save, Save)
kept_in (Unpack story save out false) = Some (out, Save)
kept_in request = None

-- the file that a request may write may be written over, where its bytes are known
abbrev pub MayWrite : Request → (List ℕ → Option (List ℕ)) → Type 0
MayWrite request known = IfSome (kept_in request) (λ file. IfSome (known file.0) (BeginsSo (magic_of file.1)))

-- it may not, and this is told
abbrev pub IsOccupied : Request → (List ℕ → Option (List ℕ)) → Problem → Type 0
IsOccupied request known problem =
    (file : Text × Purpose) × (kept_in request ≡ Some file) × (problem ≡ Occupied file.1) × IfSome (known file.0) (λ bytes. ¬ BeginsSo (magic_of file.1) bytes)

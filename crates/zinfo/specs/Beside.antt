-- What is told of the certificate beside a story (own).
use Rattle.std.specs.Prelude.{ℕ, Option, None, Some, List, [], ◌++◌, codes, decimal}
use Rattle.zinfo.specs.Text.{line_of}
use Rattle.zinfo.specs.declared.facts.Beside.{Beside}
use Rattle.zinfo.specs.declared.facts.Beside.TheVariants.{Nothing, Unreadable, Closed, OfAnother, Own}
use Rattle.zinfo.specs.declared.facts.Kept.{Kept}

-- a name and a number
abbrev pub count_text : List ℕ → ℕ → List ℕ
count_text name count = name ++ decimal count

-- how many frames may stand, where that is named
abbrev pub frames_text : Option ℕ → List ℕ
frames_text None = []
frames_text (Some n) = count_text (codes ", frames ") n

-- what a certificate has, as `version 5, frames 1024, routines 3, instructions 40, marked 2, facts 7`
abbrev pub kept_text : Kept → List ℕ
kept_text kept =
    count_text (codes "version ") kept.version ++ frames_text kept.frames ++ count_text (codes ", routines ") kept.routines
    ++ count_text (codes ", instructions ") kept.instructions ++ count_text (codes ", marked ") kept.marks
    ++ count_text (codes ", facts ") kept.facts

-- the code of why a file is no certificate of the story: K1 to K9 of the file, S1 where it is of another story
abbrev pub code_of : Beside → Option (List ℕ)
code_of Nothing = None
code_of (Unreadable number) = Some (codes "K" ++ decimal number)
code_of Closed = None
code_of OfAnother = Some (codes "S1")
code_of (Own kept) = None

abbrev pub beside_text : Beside → List ℕ
beside_text Nothing = codes "none"
beside_text (Unreadable number) = count_text (codes "refused, K") number
beside_text Closed = codes "can't be read"
beside_text OfAnother = codes "refused, S1"
beside_text (Own kept) = kept_text kept

abbrev pub text_of_beside : Beside → List ℕ
text_of_beside beside = line_of (codes "certificate") (beside_text beside)

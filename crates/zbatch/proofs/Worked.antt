-- Values of the definitions, computed.
use Rattle.std.proofs.Common.{◌≡◌, List, ℕ, [], ◌∷◌, ◌++◌, codes, true, false, refl}
use Rattle.std.specs.Fmt.{digits}
use Rattle.zbatch.specs.Naming.{is_story_name, name_beside}
use Rattle.zbatch.specs.Summary.{greatest_status, status_of, summary_text}
use Rattle.zbatch.specs.Working.{tally_of}
use Rattle.zbatch.specs.declared.summary.Wording.TheVariants.{Accepted, Found}
use Rattle.zbatch.specs.declared.work.Ended.{Ended}
use Rattle.zbatch.specs.declared.work.Ended.TheVariants.{Well, Refused, Failed, Unwritten}

beside : List ℕ → List ℕ
beside name = name_beside name (codes "cert")

-- names of each kind
names :
    (beside (codes "a/zork.z3") ≡ codes "a/zork.cert") × (beside (codes "ZORK.Z3") ≡ codes "ZORK.cert") × (beside (codes "zork.z5") ≡ codes "zork.z5.cert") × (beside (codes "zork") ≡ codes "zork.cert")
    × (beside (codes "zorkz3") ≡ codes "zorkz3.cert") × (beside (codes ".z3") ≡ codes ".cert") × (beside (codes "z3") ≡ codes "z3.cert") × (beside [] ≡ codes ".cert")
unfolding beside
names = (refl, refl, refl, refl, refl, refl, refl, refl)

-- names of stories, and others
stories :
    (is_story_name (codes "a.z3") ≡ true) × (is_story_name (codes "A.Z3") ≡ true) × (is_story_name (codes ".z3") ≡ true) × (is_story_name (codes "z3") ≡ false) × (is_story_name (codes "a.z5") ≡ false)
    × (is_story_name (codes "a.z3.cert") ≡ false) × (is_story_name [] ≡ false)
stories = (refl, refl, refl, refl, refl, refl, refl)

said : List Ended → List ℕ
said ends = summary_text (tally_of ends) Accepted

-- what is said of files at the end
texts :
    (said [] ≡ codes "0 files: 0 accepted" ++ 10 ∷ []) × (said (Well ∷ []) ≡ codes "1 file: 1 accepted" ++ 10 ∷ []) × (said (Well ∷ Refused ∷ Well ∷ []) ≡ codes "3 files: 2 accepted, 1 refused" ++ 10 ∷ [])
    × (said (Failed ∷ Refused ∷ []) ≡ codes "2 files: 0 accepted, 1 refused, 1 failed" ++ 10 ∷ []) × (summary_text (tally_of (Well ∷ Failed ∷ [])) Found ≡ codes "2 files: 1 found, 1 failed" ++ 10 ∷ [])
unfolding digits said
texts = (refl, refl, refl, refl, refl)

-- the exit status of each, and of some together
statuses :
    (status_of (tally_of []) ≡ 0) × (status_of (tally_of (Well ∷ Well ∷ [])) ≡ 0) × (status_of (tally_of (Well ∷ Refused ∷ [])) ≡ 1) × (status_of (tally_of (Failed ∷ Refused ∷ [])) ≡ 4)
    × (status_of (tally_of (Unwritten ∷ [])) ≡ 4) × (greatest_status (Failed ∷ Refused ∷ []) ≡ 4)
statuses = (refl, refl, refl, refl, refl, refl)

use Rattle.std.proofs.Common.{rules, ◌≡◌, ◌<◌, ℕ, length, get_or}
use Rattle.zcert.proofs.Found.{each_below}
use Rattle.zcert.proofs.building.Building.take.Goals as goal

pub returns-in-Serial-clause-fits : goal.returns-in-Serial-clause-fits
returns-in-Serial-clause-fits g c =
    let six : length c.in-Serial.serial ≡ 6 = search rules in
    let bytes : (i : ℕ) → get_or c.in-Serial.serial i 0 < 256 = λ i. search rules in
    rw c.in-Serial.is (six, each_below c.in-Serial.serial bytes)

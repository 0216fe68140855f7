-- What the code answers for an address.
use Rattle.zdebug.specs.declared.place.Place.{Place}
use Rattle.zdebug.specs.Places.{Spot}

abbrev pub spot_of_place : Place → Spot
spot_of_place p = record { file = p.file.now; line = p.line; routine = p.routine.now }

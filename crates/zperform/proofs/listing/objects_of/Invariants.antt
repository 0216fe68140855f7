use Rattle.std.proofs.Common.{◌≡◌, take}
use Rattle.std.specs.Prelude.{flat_map}
use Rattle.zperform.specs.Listing.{record_object}
use Rattle.zperform.proofs.listing.objects_of.Given as goal

-- the objects so far are those of the first instructions
abbrev pub invariant-loop-listed : goal.invariant-loop-listed
invariant-loop-listed l = l.text.items ≡ flat_map record_object (take l.listed-index l.records)

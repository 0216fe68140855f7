use Rattle.std.proofs.Common.{◌≡◌, take}
use Rattle.zperform.specs.Listing.{listing_text}
use Rattle.zperform.proofs.listing.lines_of.Given as goal

-- the lines so far are those of the first instructions
abbrev pub invariant-loop-listed : goal.invariant-loop-listed
invariant-loop-listed l = l.text.items ≡ listing_text (take l.listed-index l.records)

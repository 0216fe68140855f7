-- Items one after another.
use Rattle.std.proofs.Common.{◌≡◌, List, ◌++◌}
use Rattle.std.proofs.lemmas.List.Concat.{flat_map-append}
use Rattle.zfault.specs.declared.item.Item.{Item}
use Rattle.zscreen.specs.declared.status_lines.StatusLines.{StatusLines}
use Rattle.zscreen.specs.Rendering.{render, shown}

-- the bytes of joined lists are the joined bytes
pub renders : (asked : StatusLines) (xs ys : List Item) → render asked (xs ++ ys) ≡ render asked xs ++ render asked ys
renders asked xs ys = flat_map-append (shown asked) xs ys

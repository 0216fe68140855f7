use Rattle.std.proofs.Common.{◌≡◌, take, map}
use Rattle.std.specs.Char.{to_ascii_lowercase}
use Rattle.std.specs.Prelude.{flat_map}
use Rattle.ztext.specs.Typed.{characters_of_code}
use Rattle.ztext.proofs.typed.word_characters.Given as goal

abbrev pub invariant-loop-byte : goal.invariant-loop-byte
invariant-loop-byte l = l.characters ≡ take 6 (flat_map characters_of_code (map to_ascii_lowercase (take l.byte-index l.text)))

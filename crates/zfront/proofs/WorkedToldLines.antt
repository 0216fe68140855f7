-- Values of the definitions of a sink that tells lines, computed.
use Rattle.std.proofs.Common.{◌≡◌, false, Some, None, [], refl}
use Rattle.std.specs.Prelude.{codes}
use Rattle.zfront.specs.Sourced.{Known}
use Rattle.zfront.specs.ToldLines.{holding}

abbrev story : Known
story = record { place = λ n. Some (codes "a.inf:1, Main"); object = λ n. None; name = λ kind n. None }

-- a piece that ends no line is held behind what was held; one that ends it has it told, and nothing is held
held : (holding story (codes "F6 at 0") (codes "038") ≡ record { decided = []; held = codes "F6 at 0038"; passing = false }) × (holding story (codes "F6 at 0038") (codes "7\n") ≡ record { decided = codes "F6 at 00387 (a.inf:1, Main)\n"; held = []; passing = false }) × (holding story [] (codes "\n") ≡ record { decided = codes "\n"; held = []; passing = false })
held = (refl, refl, refl)

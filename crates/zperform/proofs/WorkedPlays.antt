-- Values of what calls that play say, computed.
use Rattle.std.proofs.Common.{◌≡◌, ℕ, suc, [], ◌∷◌, refl, arith}
use Rattle.std.specs.Prelude.{Some, None, Ok, ⊤}
use Rattle.zquetzal.specs.declared.error.SaveError.TheVariants.{NotDescribed}
use Rattle.zplayer.specs.declared.end.End.TheVariants.{Quit}
use Rattle.zperform.specs.Devices.{Seen}
use Rattle.zperform.specs.Played.{ComesOut, ComesOutOf, SameDevices, file_of}
use Rattle.zperform.specs.declared.playing.Asked.{Asked}
use Rattle.zperform.specs.declared.playing.Devices.{Devices}

-- with no name no file is for saves
module _ (asked : Asked) where
  unnamed : file_of (record asked { save = None }) ≡ None
  unnamed = refl

-- devices are the same as they are, and with other files they aren't
module _ {F R W E : Type 0} (devices : Devices F R W E) where
  same : SameDevices devices devices × (SameDevices devices (record devices { files = record devices.files { ghost_name = suc devices.files.ghost_name } }) → ⊥)
  same = (record { files = refl; reader = refl; writer = refl; errors = refl }, λ s. omega (arith, s.files))

  -- a play is given the input that is left, and the store of its name; of a refusal that isn't to be told nothing is said
  given_input : (asked : Asked) (said : Seen) → ComesOut (λ _. Some (110 ∷ [])) (λ _. None) (λ _. said) (λ given refusals before now outcome. (given.input ≡ Some (110 ∷ [])) × (given.store.kept ≡ Some None)) (record asked { save = None }) devices devices (Ok Quit)
  given_input asked said = (NotDescribed ∷ [], (refl, refl), refl)

-- What is said with a store may take for granted that it has no save in the end where it is known to have none at first. The store says
-- what it does of the refusals that it was told.
emptied :
    ComesOutOf (λ (n : ℕ). Some None) (λ n. n) (λ old new refusals. refusals ≡ NotDescribed ∷ []) (λ store refusals before now outcome. store.failures ≡ 3) 3 4 None None (Ok Quit)
    × (ComesOutOf (λ (n : ℕ). Some None) (λ n. n) (λ old new refusals. ⊤) (λ store refusals before now outcome. store.failures ≡ 4) 3 4 None None (Ok Quit) → ⊥)
emptied = ((NotDescribed ∷ [], (λ none. refl), refl), λ out. omega (arith, out.1 (λ none. refl)))

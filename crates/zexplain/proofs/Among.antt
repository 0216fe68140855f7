-- What is found among entries is what is found among the pairs that they are.
use Rattle.std.proofs.Common.{◌≡◌, Bool, true, false, refl, ℕ, List, [], ◌∷◌}
use Rattle.std.specs.Prelude.{Option, Some, find, map, option_map, if◌then◌else◌}
use Rattle.std.specs.Str.{bytes_eq}
use Rattle.zexplain.specs.Texts.{text_among}

module _ {A : Type 0} (of : A → List ℕ × List ℕ) (code : List ℕ) where
  -- the text of the first entry with a code
  abbrev text_in : List A → Option (List ℕ)
  text_in entries = option_map (λ e. (of e).1) (find (λ e. bytes_eq (of e).0 code) entries)

  pub among_pairs : (entries : List A) → text_in entries ≡ text_among (map of entries) code
  among_pairs [] = refl
  among_pairs (entry ∷ entries) = go (bytes_eq (of entry).0 code) (among_pairs entries)
    where
      go : (b : Bool) → text_in entries ≡ text_among (map of entries) code
          → option_map (λ e. (of e).1) (if b then Some entry else find (λ e. bytes_eq (of e).0 code) entries) ≡ option_map (λ pair. pair.1) (if b then Some (of entry) else find (λ pair. bytes_eq pair.0 code) (map of entries))
      go true others = refl
      go false others = others

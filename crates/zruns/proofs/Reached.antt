-- The elements of two sets lie in their run.
use Rattle.std.proofs.Common.{◌≡◌, ℕ, ◌+◌, ◌-◌, ◌*◌, ◌%◌, ◌<◌, ◌≤◌, ◌≤ℤ◌, min, List, Option, Some, None, refl, sym, subst, arith}
use Rattle.std.specs.Prelude.{IsTrue}
use Rattle.std.proofs.lemmas.Int.{ints}
use Rattle.zword.specs.Binary.{signed}
use Rattle.zdomain.specs.Domain.{SetOperations, AreSound, In}
use Rattle.zarray.specs.declared.width.Width.{Width}
use Rattle.zarray.specs.declared.width.Width.TheVariants.{Byte, Word}
use Rattle.zarray.specs.Arrays.{place_of, span}
use Rattle.zdomain.specs.Few.{turned, is_among}
use Rattle.zpairs.specs.Members.{both}
use Rattle.zruns.specs.declared.run.Run.{Run}
use Rattle.zruns.specs.Runs.{address, as_word, run_of, EachOf, EachPlace}

-- the order of signed readings is that of places
low_rises : (x y : ℕ) → y < 65536 → signed x ≤ℤ signed y → turned (as_word x) ≤ turned y
low_rises x y word below = grind (arith, ints)

high_rises : (x y : ℕ) → x < 65536 → signed x ≤ℤ signed y → turned x ≤ turned (as_word y)
high_rises x y word below = grind (arith, ints)

-- The sum of one reading of each, from the least of both on
between_sums : (width : Width) (low high array lowest highest index : ℕ) → turned low ≤ turned array → turned array ≤ turned high → turned lowest ≤ turned index → turned index ≤ turned highest → (k : ℕ) × (k ≤ min 65535 (turned high + span width * turned highest - (turned low + span width * turned lowest))) × (place_of width array index ≡ (place_of width low lowest + k) % 65536)
between_sums Byte low high array lowest highest index a b c d = ((turned array + turned index - (turned low + turned lowest)) % 65536, omega (arith, a, b, c, d), omega (arith, a, c))
between_sums Word low high array lowest highest index a b c d = ((turned array + 2 * turned index - (turned low + 2 * turned lowest)) % 65536, omega (arith, a, b, c, d), omega (arith, a, c))

-- what holds of each sum of two lists, or of each address of a run, holds of a place that is among them
by_members : (width : Width) (run : Run) (few others : Option (List ℕ)) (Holds : ℕ → Type 0) (a i : ℕ) → ((words : List ℕ) → few ≡ Some words → IsTrue (is_among a words)) → ((words : List ℕ) → others ≡ Some words → IsTrue (is_among i words)) → (k : ℕ) × (k ≤ run.more) × (place_of width a i ≡ address run k) → EachOf width run (both few others) Holds → Holds (place_of width a i)
by_members width run (Some xs) (Some ys) Holds a i first second found each = each a i (first xs refl) (second ys refl)
by_members width run (Some xs) None Holds a i first second found each = subst Holds (sym found.2) (each found.0 found.1)
by_members width run None others Holds a i first second found each = subst Holds (sym found.2) (each found.0 found.1)

module _ {V : Type 0} (o : SetOperations V) (sound : AreSound o) (width : Width) (arrays indices : V) where
  pub in_run : (a i : ℕ) → In o arrays a → In o indices i → (k : ℕ) × (k ≤ (run_of o width arrays indices).more) × (place_of width a i ≡ address (run_of o width arrays indices) k)
  in_run a i of_arrays of_indices =
      between_sums width (as_word (o.lowest arrays)) (as_word (o.highest arrays)) a (as_word (o.lowest indices)) (as_word (o.highest indices)) i (low_rises (o.lowest arrays) a of_arrays.word (sound.lowest arrays a of_arrays)) (high_rises a (o.highest arrays) of_arrays.word (sound.highest arrays a of_arrays)) (low_rises (o.lowest indices) i of_indices.word (sound.lowest indices i of_indices)) (high_rises i (o.highest indices) of_indices.word (sound.highest indices i of_indices))

  -- whatever holds of each place where an element may lie holds of that of an array and an index of the sets
  pub reached : (Holds : ℕ → Type 0) (a i : ℕ) → In o arrays a → In o indices i → EachPlace o width arrays indices Holds → Holds (place_of width a i)
  reached Holds a i of_arrays of_indices each =
      by_members width (run_of o width arrays indices) (o.few arrays) (o.few indices) Holds a i (λ words e. sound.few arrays words a e of_arrays) (λ words e. sound.few indices words i e of_indices) (in_run a i of_arrays of_indices) each

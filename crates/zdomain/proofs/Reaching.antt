-- The words of an interval, one behind the other.
use Rattle.std.proofs.Common.{◌≡◌, ℕ, ◌+◌, ◌-◌, ◌%◌, ◌<◌, ◌≤◌, Bool, pos, negsuc, ◌≤ℤ◌, FitsSigned, arith, subst, ◌∙◌}
use Rattle.std.specs.Prelude.{IsTrue, ◌↔◌}
use Rattle.std.specs.Int.{w16, int_min, int_max}
use Rattle.std.proofs.lemmas.Int.{ints, clamps}
use Rattle.zword.specs.Binary.{signed, word_of}
use Rattle.zdomain.specs.declared.interval.Interval.{Interval}
use Rattle.zdomain.specs.declared.values.Values.{Values}
use Rattle.zdomain.specs.declared.values.Values.TheVariants.{Run}
use Rattle.zdomain.specs.Domain.{Within}
use Rattle.zdomain.specs.Interval.{interval_operations}
use Rattle.zdomain.specs.IntervalLaw.Lying.{Has, read_back}
use Rattle.zdomain.specs.Few.{turned}
use Rattle.zdomain.specs.Values.{has, values_operations}
use Rattle.zdomain.specs.ValuesLaw.{run_has, has_run, turned_le}

-- an interval lies within another, as a set of either kind
pub run_in_run : (i j : Interval) (r : Bool) → IsTrue r ↔ Within interval_operations i j → IsTrue r ↔ Within values_operations (Run i) (Run j)
run_in_run i j r e = (λ t x h. run_has j x (e.0 t x (has_run i x h)), λ w. e.1 (λ x h. has_run j x (w x (run_has i x h))))

-- a word between two stands so far behind the first
behind : (a x : ℕ) → a < 65536 → x < 65536 → turned a ≤ turned x → (a + (turned x - turned a)) % 65536 ≡ x
behind a x p q low = omega (arith, p, q, low)

place_of_next : (a b k : ℕ) → a < 65536 → b < 65536 → turned a ≤ turned b → k ≤ turned b - turned a → turned ((a + k) % 65536) ≡ turned a + k
place_of_next a b k p q l most = omega (arith, p, q, l, most)

order : (a x : ℕ) → a < 65536 → x < 65536 → turned a ≤ turned x → signed a ≤ℤ signed x
order a x p q h = grind (arith, ints, p, q, h)

module _ (i : Interval) (a b : ℕ) (low : signed a ≡ i.lo) (high : signed b ≡ i.hi) (p : a < 65536) (q : b < 65536) where
  ends : turned a ≤ turned b
  ends = turned_le a b p q (let o = i.ordered in rw (low, high) o)

  reached : (x : ℕ) → Has i x → (turned a ≤ turned x) × (turned x ≤ turned b)
  reached x h = (turned_le a x p h.word (rw low h.member.0), turned_le x b h.word q (rw high h.member.1))

  steps : (k : ℕ) → k ≤ turned b - turned a → Has i ((a + k) % 65536)
  steps k most =
      let e = ends in
      let word : (a + k) % 65536 < 65536 = omega arith in
      let place = place_of_next a b k p q e most in
      record {
        word = word;
        member = (
          rw (← low) (order a ((a + k) % 65536) p word (omega (arith, place))),
          rw (← high) (order ((a + k) % 65536) b word q (omega (arith, place, most, e))),
        );
      }

  pub each_within : (set : Values) (r : Bool) → IsTrue r ↔ ((k : ℕ) → k ≤ turned b - turned a → IsTrue (has set ((a + k) % 65536))) → IsTrue r ↔ Within values_operations (Run i) set
  each_within set r e = (
    λ t x h.
        let in_run = has_run i x h in let r = reached x in_run in
        record { word = h.word; member = subst (λ (y : ℕ). IsTrue (has set y)) (behind a x p h.word r.0) (e.0 t (turned x - turned a) (omega (arith, r.1))) },
    λ w. e.1 (λ k most. (w ((a + k) % 65536) (run_has i ((a + k) % 65536) (steps k most))).member),
  )

-- the ends of an interval, as words
pub low_end : (i : Interval) → FitsSigned w16 i.lo → signed (word_of (int_max i.lo (negsuc 32767))) ≡ i.lo
low_end i fits = let same : int_max i.lo (negsuc 32767) ≡ i.lo = omega (arith, ints, clamps, fits.sfits) in read_back (int_max i.lo (negsuc 32767)) (omega (arith, ints, clamps)) (omega (arith, ints, clamps, fits.sfits)) ∙ same

pub high_end : (i : Interval) → FitsSigned w16 i.hi → signed (word_of (int_min i.hi (pos 32767))) ≡ i.hi
high_end i fits = let same : int_min i.hi (pos 32767) ≡ i.hi = omega (arith, ints, clamps, fits.sfits) in read_back (int_min i.hi (pos 32767)) (omega (arith, ints, clamps, fits.sfits)) (omega (arith, ints, clamps)) ∙ same

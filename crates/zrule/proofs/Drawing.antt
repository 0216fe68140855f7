-- A number that is drawn lies in the set that comes of its ranges.
use Rattle.std.proofs.Common.{◌≡◌, ℕ, ◌-◌, ◌<◌, ◌≤◌, Bool, true, false, Option, Some, None, refl, arith, if◌then◌else◌}
use Rattle.std.specs.Prelude.{pos, ◌≤ℤ◌, ◌==◌, nat_lt}
use Rattle.std.proofs.lemmas.Int.{ints}
use Rattle.std.proofs.lemmas.Bool.{eqb-true, ltb-true, ltb-false}
use Rattle.zword.specs.Binary.{signed}
use Rattle.zword.specs.declared.question.Question.TheVariants.{Greater}
use Rattle.zword.specs.Question.{holds}
use Rattle.zdomain.specs.Domain.{SetOperations, AreSound, In}
use Rattle.zfault.specs.declared.event.Event.{Event}
use Rattle.zfault.specs.declared.event.Event.TheVariants as events
use Rattle.zfault.specs.declared.pause.Need.{Need}
use Rattle.zfault.specs.declared.pause.Need.TheVariants as needs
use Rattle.zstate.specs.declared.mode.RandomMode.{RandomMode}
use Rattle.zstate.specs.declared.mode.RandomMode.TheVariants.{Words, Counting}
use Rattle.zstate.specs.State.{State}
use Rattle.zstate.specs.Step.{Effect, drawing, giving, in_range, random_of, switching}
use Rattle.zflow.specs.Transfer.{drawn_set}
use Rattle.zrule.proofs.Pieces.{not_zero}

-- a word from the middle on is below 0
negative : (r : ℕ) → 32768 ≤ r → r < 65536 → signed r ≤ℤ pos 0
negative r high word = grind (arith, ints)

module _ {V : Type 0} (o : SetOperations V) (lawful : AreSound o) (ranges : V) (r : ℕ) (member : In o ranges r) where
  abbrev least : ℕ
  least = o.lowest ranges

  abbrev greatest : ℕ
  greatest = o.highest ranges

  low : signed least ≤ℤ signed r
  low = lawful.lowest ranges r member

  high : signed r ≤ℤ signed greatest
  high = lawful.highest ranges r member

  -- 0 comes of a range that isn't above 0
  pub none_lies : signed r ≤ℤ pos 0 → In o (drawn_set o ranges) 0
  none_lies none = by (holds Greater least 0) (holds Greater greatest 0) refl refl
    where
      by : (b c : Bool) → holds Greater least 0 ≡ b → holds Greater greatest 0 ≡ c → In o (if b then o.between 1 greatest else (if c then o.between 0 greatest else o.single 0)) 0
      by true c above e = absurd (let l = low in grind (arith, ints, above, l, none))
      by false true above e = lawful.between 0 greatest 0 (omega (arith, ints)) (grind (arith, ints, e)) (omega arith)
      by false false above e = lawful.single 0 (omega arith)

  -- and a number from 1 to the range of one that is
  pub number_lies : (x : ℕ) → pos 1 ≤ℤ signed r → 1 ≤ x → pos x ≤ℤ signed r → x < 32768 → In o (drawn_set o ranges) x
  number_lies x some first last small = by (holds Greater least 0) (holds Greater greatest 0) refl refl
    where
      by : (b c : Bool) → holds Greater least 0 ≡ b → holds Greater greatest 0 ≡ c → In o (if b then o.between 1 greatest else (if c then o.between 0 greatest else o.single 0)) x
      by true c above e = lawful.between 1 greatest x (omega (arith, ints, first, small)) (let h = high in grind (arith, ints, last, h, small)) (omega (arith, small))
      by false true above e = lawful.between 0 greatest x (omega (arith, ints, first, small)) (let h = high in grind (arith, ints, last, h, small)) (omega (arith, small))
      by false false above e = absurd (let h = high in grind (arith, ints, e, h, some))

  -- what a draw comes to: a number, or the need of a word
  pub data Draws (effect : Effect) : Type 0 where
    number_drawn : (x : ℕ) (mode : Option RandomMode) (uses : Option Need) → effect ≡ record (giving x) { random = mode; uses = uses } → In o (drawn_set o ranges) x → Draws effect
    word_needed : effect ≡ record (giving 0) { needs = Some needs.Random } → Draws effect

  in_range_lies : 1 ≤ r → r < 32768 → (w : ℕ) → In o (drawn_set o ranges) (in_range r w)
  in_range_lies some small w = number_lies (in_range r w) (omega (arith, ints, some, small)) (omega arith) (omega (arith, ints, some, small)) (omega (arith, some, small))

  drawing_comes : 1 ≤ r → r < 32768 → (mode : RandomMode) (waiting : Option Event) → Draws (drawing r mode waiting)
  drawing_comes some small (Counting seed next) waiting = number_drawn _ _ _ refl (in_range_lies some small next)
  drawing_comes some small Words (Some (events.Random w)) = number_drawn _ _ _ refl (in_range_lies some small w)
  drawing_comes some small Words (Some (events.Line line)) = word_needed refl
  drawing_comes some small Words (Some (events.Saved kept)) = word_needed refl
  drawing_comes some small Words (Some events.NotRestored) = word_needed refl
  drawing_comes some small Words None = word_needed refl

  pub random_comes : (s : State) → Draws (random_of r s)
  random_comes s = by (r == 0) (nat_lt r 32768) refl refl
    where
      by : (b c : Bool) → (r == 0) ≡ b → nat_lt r 32768 ≡ c → Draws (if b then switching Words else (if c then drawing r s.random s.waiting else switching (Counting (65536 - r) 1)))
      by true c zero sign = let none = eqb-true r 0 zero in number_drawn _ _ _ refl (none_lies (omega (arith, ints, none)))
      by false true zero sign = let some = not_zero r zero in let small = ltb-true r 32768 sign in drawing_comes (omega (arith, some)) small s.random s.waiting
      by false false zero sign = number_drawn _ _ _ refl (none_lies (negative r (ltb-false r 32768 sign) member.word))

-- What is appended where a byte is taken.
use Rattle.std.proofs.Common.{◌≡◌, ℕ, suc, ◌+◌, ◌-◌, ◌<◌, ◌≤◌, ◌⊎◌, inr, true, false, List, [], ◌∷◌, ◌++◌, length, length-append, take, drop, refl, sym, ap, ◌∙◌, subst, append_assoc, append-nil, arith}
use Rattle.std.specs.Prelude.{◌==◌}
use Rattle.std.proofs.Math.Seq.{take-length}
use Rattle.std.proofs.lemmas.Bool.{eqb-false, eqb-true}
use Rattle.zfront.specs.Wrapping.{ends_word, Wrapping, IsHeld, Feeds, FeedsTo, settled}
use Rattle.zfront.proofs.Feeding.{Feeds-length, Feeds-none, Feeds-trans, letter-breaks, letter-held, letter-passes, newline-ends, space-broken, space-held, space-wide}

-- all behind the first byte
pub behind_first : (bytes : List ℕ) → take (length bytes - 1) (drop 1 bytes) ≡ drop 1 bytes
behind_first [] = refl
behind_first (byte ∷ rest) = ap (λ (n : ℕ). take n rest) (same (length rest)) ∙ take-length rest
  where
    same : (n : ℕ) → suc n - 1 ≡ n
    same n = omega arith

-- none, and some, by their number
pub none_of : (n : ℕ) (bytes : List ℕ) → n ≡ length bytes → (n == 0) ≡ true → bytes ≡ []
none_of n [] number zero = refl
none_of n (byte ∷ rest) number zero = absurd (omega (arith, number, eqb-true n 0 zero))

pub some_of : (n : ℕ) (bytes : List ℕ) → n ≡ length bytes → (n == 0) ≡ false → 0 < length bytes
some_of n [] number some = absurd (eqb-false n 0 some number)
some_of n (byte ∷ rest) number some = omega arith

module _ (old : Wrapping) (is : IsHeld old.width old.column old.held) (before out after : List ℕ) (settles : out ≡ before ++ old.held) where
  -- what is held, and a byte
  both : (byte : ℕ) → after ≡ out ++ byte ∷ [] → after ≡ before ++ (old.held ++ byte ∷ [])
  both byte grown = grown ∙ ap (λ (bytes : List ℕ). bytes ++ byte ∷ []) settles ∙ append_assoc before old.held (byte ∷ [])

  pub newline_fed : (mid : Wrapping) → mid ≡ settled old → after ≡ out ++ 10 ∷ [] → FeedsTo old (record { width = mid.width; column = 0; held = mid.held }) (10 ∷ []) before after
  newline_fed mid same grown = record {
    given = old.held ++ 10 ∷ [];
    grown = both 10 grown;
    feeds = subst (λ (w : Wrapping). Feeds old (record { width = w.width; column = 0; held = w.held }) (10 ∷ []) (old.held ++ 10 ∷ [])) (sym same) (newline-ends old.width old.column old.held is);
  }

  pub space_held_fed : (mid : Wrapping) (held : List ℕ) → mid ≡ settled old → mid.column < mid.width → held ≡ mid.held ++ 32 ∷ [] → FeedsTo old (record { width = mid.width; column = mid.column; held = held }) (32 ∷ []) before out
  space_held_fed mid held same fits more = record {
    given = old.held;
    grown = settles;
    feeds = subst (λ (w : Wrapping). w.column < w.width → held ≡ w.held ++ 32 ∷ [] → Feeds old (record { width = w.width; column = w.column; held = held }) (32 ∷ []) old.held) (sym same)
        (λ fits more. subst (λ (h : List ℕ). Feeds old (record { width = old.width; column = old.column + length old.held; held = h }) (32 ∷ []) old.held) (sym more) (space-held old.width old.column old.held is fits)) fits more;
  }

  pub space_wide_fed : (mid : Wrapping) → mid ≡ settled old → mid.width ≡ 0 → after ≡ out ++ 32 ∷ [] → FeedsTo old mid (32 ∷ []) before after
  space_wide_fed mid same wide grown = record {
    given = old.held ++ 32 ∷ [];
    grown = both 32 grown;
    feeds = subst (λ (w : Wrapping). w.width ≡ 0 → Feeds old w (32 ∷ []) (old.held ++ 32 ∷ [])) (sym same) (λ wide. space-wide old.width old.column (old.column + length old.held) old.held is wide) wide;
  }

  pub space_broken_fed : (mid : Wrapping) → mid ≡ settled old → 0 < mid.width → mid.width ≤ mid.column → after ≡ out ++ 10 ∷ [] → FeedsTo old (record { width = mid.width; column = 0; held = mid.held }) (32 ∷ []) before after
  space_broken_fed mid same wide full grown = record {
    given = old.held ++ 10 ∷ [];
    grown = both 10 grown;
    feeds = subst (λ (w : Wrapping). 0 < w.width → w.width ≤ w.column → Feeds old (record { width = w.width; column = 0; held = w.held }) (32 ∷ []) (old.held ++ 10 ∷ [])) (sym same)
        (λ wide full. space-broken old.width old.column old.held is wide full) wide full;
  }

module _ (old now : Wrapping) (same : old ≡ now) (byte : ℕ) (letter : ends_word byte ≡ false) (before after : List ℕ) where
  pub letter_passes_fed : (column : ℕ) → old.held ≡ [] → (column ≡ old.column + 1) ⊎ ((old.width ≤ old.column) × (old.width ≤ column)) → after ≡ before ++ byte ∷ []
      → FeedsTo now (record { width = old.width; column = column; held = old.held }) (byte ∷ []) before after
  letter_passes_fed column none next grown = record {
    given = byte ∷ [];
    grown = grown;
    feeds = subst (λ (w : Wrapping). Feeds w (record { width = old.width; column = column; held = old.held }) (byte ∷ []) (byte ∷ [])) same
        (subst (λ (h : List ℕ). Feeds (record { width = old.width; column = old.column; held = h }) (record { width = old.width; column = column; held = h }) (byte ∷ []) (byte ∷ [])) (sym none)
        (letter-passes old.width old.column column byte letter next));
  }

  pub letter_full_fed : old.held ≡ [] → old.width ≤ old.column → after ≡ before ++ byte ∷ [] → FeedsTo now now (byte ∷ []) before after
  letter_full_fed none full grown = subst (λ (w : Wrapping). FeedsTo now w (byte ∷ []) before after) same (letter_passes_fed old.column none (inr (full, full)) grown)

  pub letter_held_fed : (held : List ℕ) → IsHeld old.width old.column old.held → 0 < length old.held → old.column + length old.held < old.width → held ≡ old.held ++ byte ∷ []
      → FeedsTo now (record { width = old.width; column = old.column; held = held }) (byte ∷ []) before before
  letter_held_fed held is some fits more = record {
    given = [];
    grown = sym (append-nil before);
    feeds = subst (λ (w : Wrapping). Feeds w (record { width = old.width; column = old.column; held = held }) (byte ∷ []) []) same
        (subst (λ (h : List ℕ). Feeds old (record { width = old.width; column = old.column; held = h }) (byte ∷ []) []) (sym more) (letter-held old.width old.column byte old.held is some letter fits));
  }

  pub letter_breaks_fed : (column : ℕ) (held ended moved : List ℕ) → IsHeld old.width old.column old.held → 0 < length old.held → old.width ≤ old.column + length old.held
      → ended ≡ before ++ 10 ∷ [] → moved ≡ ended ++ take (length old.held - 1) (drop 1 old.held) → after ≡ moved ++ byte ∷ [] → column ≡ length old.held → held ≡ []
      → FeedsTo now (record { width = old.width; column = column; held = held }) (byte ∷ []) before after
  letter_breaks_fed column held ended moved is some full ends moves grown column_is none = record {
    given = 10 ∷ (drop 1 old.held ++ byte ∷ []);
    grown = grown ∙ ap (λ (bytes : List ℕ). bytes ++ byte ∷ []) (moves ∙ ap (λ (bytes : List ℕ). ended ++ bytes) (behind_first old.held) ∙ ap (λ (bytes : List ℕ). bytes ++ drop 1 old.held) ends)
        ∙ ap (λ (bytes : List ℕ). bytes ++ byte ∷ []) (append_assoc before (10 ∷ []) (drop 1 old.held)) ∙ append_assoc before (10 ∷ drop 1 old.held) (byte ∷ []);
    feeds = subst (λ (w : Wrapping). Feeds w (record { width = old.width; column = column; held = held }) (byte ∷ []) (10 ∷ (drop 1 old.held ++ byte ∷ []))) same
        (subst (λ (c : ℕ). Feeds old (record { width = old.width; column = c; held = held }) (byte ∷ []) (10 ∷ (drop 1 old.held ++ byte ∷ []))) (sym column_is)
        (subst (λ (h : List ℕ). Feeds old (record { width = old.width; column = length old.held; held = h }) (byte ∷ []) (10 ∷ (drop 1 old.held ++ byte ∷ []))) (sym none) (breaks old.held is some full)));
  }
    where
      breaks : (h : List ℕ) → IsHeld old.width old.column h → 0 < length h → old.width ≤ old.column + length h
          → Feeds (record { width = old.width; column = old.column; held = h }) (record { width = old.width; column = length h; held = [] }) (byte ∷ []) (10 ∷ (drop 1 h ++ byte ∷ []))
      breaks [] is some full = absurd (omega (arith, some))
      breaks (space ∷ word) is some full = letter-breaks old.width old.column space byte word is letter full

-- ---- pieces

pub FeedsTo-none : (old : Wrapping) (before : List ℕ) → IsHeld old.width old.column old.held → FeedsTo old old [] before before
FeedsTo-none old before is = record { given = []; grown = sym (append-nil before); feeds = Feeds-none old is }

pub FeedsTo-trans : (a b c : Wrapping) (piece more first second third : List ℕ) → FeedsTo a b piece first second → FeedsTo b c more second third → FeedsTo a c (piece ++ more) first third
FeedsTo-trans a b c piece more first second third one two = record {
  given = one.given ++ two.given;
  grown = two.grown ∙ ap (λ (bytes : List ℕ). bytes ++ two.given) one.grown ∙ append_assoc first one.given two.given;
  feeds = Feeds-trans a b c piece more one.given two.given one.feeds two.feeds;
}

-- no byte is lost, and none comes twice
pub FeedsTo-length : (old new : Wrapping) (piece before after : List ℕ) → FeedsTo old new piece before after → length after + length new.held ≡ length before + length old.held + length piece
FeedsTo-length old new piece before after fed =
    let sides : length old.held + length piece ≡ length fed.given + length new.held = Feeds-length old new piece fed.given fed.feeds in
    let grown : length after ≡ length before + length fed.given = ap length fed.grown ∙ length-append before fed.given in
    omega (arith, sides, grown)

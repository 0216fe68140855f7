-- What calls of a sink that tells lines come to.
use Rattle.std.proofs.Common.{◌≡◌, ◌<◌, ◌≤◌, ℕ, Bool, true, false, List, [], ◌∷◌, ◌++◌, length, take, drop, refl, sym, ap, ◌∙◌, subst, append_assoc, append-nil, arith, inl, inr}
use Rattle.std.specs.Prelude.{◌==◌, ◌||◌, ◌⊎◌, Option, if◌then◌else◌, not}
use Rattle.std.specs.List.{list_any}
use Rattle.std.specs.Io.BufRead.{take_through}
use Rattle.std.specs.Io.KnownBytes.{Appends, Keeps}
use Rattle.std.proofs.KnownBytes.{Appends-kept, Appends-nil, Appends-trans}
use Rattle.std.proofs.lemmas.List.{take-append-drop, take-take}
use Rattle.std.proofs.lemmas.List.Folds.{list_any-append}
use Rattle.zfront.specs.ReadAhead.{IsOneLine}
use Rattle.zfront.specs.Sourced.{Known, is_end, line_told}
use Rattle.zfront.specs.ToldLines.{Untold, GivesDecided, GivesHeld, LetsPass, Settles, TakesNone, TakesPiece, holding, nothing_untold}
use Rattle.zfront.proofs.Lining.{line_begins, one_line}

-- ---- lines

-- a beginning of one line is one
pub begins_line : (n : ℕ) (line : List ℕ) → IsOneLine line → IsOneLine (take n line)
begins_line n line one before behind is = first behind (drop n line) (one before (behind ++ drop n line) (sym (take-append-drop n line) ∙ ap (λ (l : List ℕ). l ++ drop n line) is ∙ append_assoc before (10 ∷ behind) (drop n line)))
  where
    first : (xs ys : List ℕ) → xs ++ ys ≡ [] → xs ≡ []
    first [] ys none = refl
    first (x ∷ xs) ys none = absurd cc

pub one_taken : (n : ℕ) (piece : List ℕ) → n ≤ length (take_through 10 piece) → IsOneLine (take n piece)
one_taken n piece within =
    subst IsOneLine (ap (take n) (sym (line_begins piece)) ∙ take-take n (length (take_through 10 piece)) piece within) (begins_line n (take_through 10 piece) (one_line piece))

pub line_some : (piece : List ℕ) → 0 < length piece → 0 < length (take_through 10 piece)
line_some [] some = absurd (omega (arith, some))
line_some (byte ∷ rest) some = parts (byte == 10)
  where
    parts : (t : Bool) → 0 < length (if t then byte ∷ [] else byte ∷ take_through 10 rest)
    parts true = omega arith
    parts false = omega arith

-- ---- writes

pub holds : (known : Known) (a : Option (List ℕ)) (before after : Untold) (piece : List ℕ) (count : ℕ) → before.decided ≡ [] → before.passing ≡ false → count ≡ length (take_through 10 piece) → after ≡ holding known before.held (take count piece)
    → TakesPiece known a a before after (take count piece)
holds known a before after piece count none whole is held = inl (record {
  grown = subst (Appends a a) (sym none) (Appends-nil a);
  line = one_taken count piece (omega (arith, is));
  whole = whole;
  state = held;
})

module _ (a b c : Option (List ℕ)) where
  -- what was held was given out, and then so much of a line
  pub lets_pass : (before kept gave after : Untold) (piece : List ℕ) (count n : ℕ) → before.decided ≡ [] → kept.decided ≡ before.held → kept.held ≡ [] → GivesDecided a b kept gave → gave.decided ≡ []
      → n ≡ length (take_through 10 piece) → count ≤ n → Appends b c (take count (take n piece)) → after.decided ≡ gave.decided → after.held ≡ gave.held → after.passing ≡ not (list_any is_end (take count (take n piece)))
      → LetsPass a c before after (take count piece)
  lets_pass before kept gave after piece count n none keeps empty gives all is within grows decided held passing =
      let same : take count (take n piece) ≡ take count piece = take-take count n piece within in
      let given : before.held ≡ gives.given = sym keeps ∙ gives.whole ∙ ap (λ (l : List ℕ). gives.given ++ l) all ∙ append-nil gives.given in
      let bytes : gives.given ++ take count (take n piece) ≡ before.decided ++ before.held ++ take count piece =
      ap (λ (l : List ℕ). l ++ take count (take n piece)) (sym given) ∙ ap (λ (l : List ℕ). before.held ++ l) same ∙ ap (λ (l : List ℕ). (l ++ before.held) ++ take count piece) (sym none) in
      record {
        grown = subst (Appends a c) bytes (Appends-trans a b c gives.given (take count (take n piece)) gives.grown grows);
        line = one_taken count piece (omega (arith, is, within));
        decided = decided ∙ all;
        held = held ∙ gives.held ∙ empty;
        passing = passing ∙ ap (λ (l : List ℕ). not (list_any is_end l)) same;
      }

  -- what was decided was given out, and then the line goes out as it is
  pub takes_none : (before gave after : Untold) → GivesDecided a b before gave → GivesHeld b c gave after → TakesNone a c before after
  takes_none before gave after first second = inr (record {
    given = first.given ++ second.given;
    grown = Appends-trans a b c first.given second.given first.grown second.grown;
    whole =
        ap (λ (l : List ℕ). l ++ before.held) first.whole ∙ append_assoc first.given gave.decided before.held ∙ ap (λ (l : List ℕ). first.given ++ (gave.decided ++ l)) (sym first.held)
        ∙ ap (λ (l : List ℕ). first.given ++ l) second.whole ∙ sym (append_assoc first.given second.given after.decided);
    held = second.held;
    passing = second.passing;
  })

  -- or a piece was taken
  pub takes_piece : (known : Known) (before gave after : Untold) (piece : List ℕ) → GivesDecided a b before gave → TakesPiece known b c gave after piece → TakesPiece known a c before after piece
  takes_piece known before gave after piece first (inl second) = inl (record {
    grown = subst (Appends a c) (sym first.whole) (Appends-trans a b c first.given gave.decided first.grown second.grown);
    line = second.line;
    whole = sym first.passing ∙ second.whole;
    state = second.state ∙ ap (λ (h : List ℕ). holding known h piece) first.held;
  })
  takes_piece known before gave after piece first (inr second) =
      let bytes : first.given ++ ((gave.decided ++ gave.held) ++ piece) ≡ (before.decided ++ before.held) ++ piece =
      ap (λ (l : List ℕ). first.given ++ ((gave.decided ++ l) ++ piece)) first.held ∙ ap (λ (l : List ℕ). first.given ++ l) (append_assoc gave.decided before.held piece)
      ∙ sym (append_assoc first.given gave.decided (before.held ++ piece)) ∙ ap (λ (l : List ℕ). l ++ (before.held ++ piece)) (sym first.whole) ∙ sym (append_assoc before.decided before.held piece) in
      inr (record {
        grown = subst (Appends a c) bytes (Appends-trans a b c first.given ((gave.decided ++ gave.held) ++ piece) first.grown second.grown);
        line = second.line;
        decided = second.decided;
        held = second.held;
        passing = second.passing;
      })

  -- ---- flushes

  pub settles : (d : Option (List ℕ)) (known : Known) (before gave settled after : Untold) → GivesDecided a b before gave → gave.decided ≡ [] → (settled.decided ≡ line_told known gave.held) ⊎ (settled.decided ≡ gave.held)
      → settled.held ≡ [] → settled.passing ≡ gave.passing → GivesDecided b c settled after → Keeps c d → Settles known a d before after
  settles d known before gave settled after first all told none same second kept =
      let given : before.decided ≡ first.given = first.whole ∙ ap (λ (l : List ℕ). first.given ++ l) all ∙ append-nil first.given in
      record {
        given = first.given ++ second.given;
        rest = settled.decided;
        told = subst (λ (h : List ℕ). (settled.decided ≡ line_told known h) ⊎ (settled.decided ≡ h)) first.held told;
        grown = Appends-kept a c d (first.given ++ second.given) (Appends-trans a b c first.given second.given first.grown second.grown) kept;
        whole = ap (λ (l : List ℕ). l ++ settled.decided) given ∙ ap (λ (l : List ℕ). first.given ++ l) second.whole ∙ sym (append_assoc first.given second.given after.decided);
        held = second.held ∙ none;
        passing = second.passing ∙ same ∙ first.passing;
      }

-- ---- one call behind another

-- no end of a line stands in the first piece: it and the next one are one line
joined_line : (xs ys before behind : List ℕ) → list_any is_end xs ≡ false → IsOneLine ys → xs ++ ys ≡ before ++ 10 ∷ behind → behind ≡ []
joined_line [] ys before behind none one is = one before behind is
joined_line (x ∷ xs) ys [] behind none one is = absurd (ended x (list_any is_end xs) (ap head_of is) none)
  where
    head_of : List ℕ → ℕ
    head_of [] = 0
    head_of (y ∷ ys) = y

    ended : (x : ℕ) (more : Bool) → x ≡ 10 → (is_end x || more) ≡ false → ⊥
    ended x more same none = cc (ap (λ (n : ℕ). is_end n || more) (sym same) ∙ none)
joined_line (x ∷ xs) ys (b ∷ before) behind none one is = joined_line xs ys before behind (or_right (is_end x) (list_any is_end xs) none) one (ap (drop 1) is)
  where
    or_right : (t u : Bool) → (t || u) ≡ false → u ≡ false
    or_right true u none = absurd cc
    or_right false u none = none

any_behind : (xs ys : List ℕ) → list_any is_end xs ≡ false → list_any is_end (xs ++ ys) ≡ list_any is_end ys
any_behind xs ys none = list_any-append is_end xs ys ∙ ap (λ (t : Bool). t || list_any is_end ys) none

module _ (a b c : Option (List ℕ)) (known : Known) (x y z : Untold) where
  pub line_pieces_join : (piece more : List ℕ) → TakesPiece known a b x y piece → TakesPiece known b c y z more → list_any is_end piece ≡ false → TakesPiece known a c x z (piece ++ more)
  line_pieces_join piece more (inl first) (inl second) none =
      let state : y ≡ record { decided = []; held = x.held ++ piece; passing = false } = first.state ∙ ap (λ (t : Bool). if t then record { decided = line_told known (x.held ++ piece); held = []; passing = false } else record { decided = []; held = x.held ++ piece; passing = false }) none in
      inl (record {
        grown = subst (Appends a c) (ap (λ (u : Untold). x.decided ++ u.decided) state ∙ append-nil x.decided) (Appends-trans a b c x.decided y.decided first.grown second.grown);
        line = λ before behind is. joined_line piece more before behind none second.line is;
        whole = first.whole;
        state =
            second.state ∙ ap (λ (u : Untold). holding known u.held more) state
            ∙ ap (λ (l : List ℕ). if list_any is_end more then record { decided = line_told known l; held = []; passing = false } else record { decided = []; held = l; passing = false }) (append_assoc x.held piece more)
            ∙ ap (λ (t : Bool). if t then record { decided = line_told known (x.held ++ (piece ++ more)); held = []; passing = false } else record { decided = []; held = x.held ++ (piece ++ more); passing = false }) (sym (any_behind piece more none));
      })
  line_pieces_join piece more (inl first) (inr second) none =
      let state : y ≡ record { decided = []; held = x.held ++ piece; passing = false } = first.state ∙ ap (λ (t : Bool). if t then record { decided = line_told known (x.held ++ piece); held = []; passing = false } else record { decided = []; held = x.held ++ piece; passing = false }) none in
      let bytes : x.decided ++ ((y.decided ++ y.held) ++ more) ≡ (x.decided ++ x.held) ++ (piece ++ more) =
      ap (λ (u : Untold). x.decided ++ ((u.decided ++ u.held) ++ more)) state ∙ ap (λ (l : List ℕ). x.decided ++ l) (append_assoc x.held piece more) ∙ sym (append_assoc x.decided x.held (piece ++ more)) in
      inr (record {
        grown = subst (Appends a c) bytes (Appends-trans a b c x.decided ((y.decided ++ y.held) ++ more) first.grown second.grown);
        line = λ before behind is. joined_line piece more before behind none second.line is;
        decided = second.decided;
        held = second.held;
        passing = second.passing ∙ ap not (sym (any_behind piece more none));
      })
  line_pieces_join piece more (inr first) (inl second) none = absurd (both (first.passing ∙ ap not none) second.whole)
    where
      both : y.passing ≡ true → y.passing ≡ false → ⊥
      both passed held = cc
  line_pieces_join piece more (inr first) (inr second) none =
      let bytes : ((x.decided ++ x.held) ++ piece) ++ ((y.decided ++ y.held) ++ more) ≡ (x.decided ++ x.held) ++ (piece ++ more) =
      ap (λ (l : List ℕ). ((x.decided ++ x.held) ++ piece) ++ ((l ++ y.held) ++ more)) first.decided ∙ ap (λ (l : List ℕ). ((x.decided ++ x.held) ++ piece) ++ (l ++ more)) first.held ∙ append_assoc (x.decided ++ x.held) piece more in
      inr (record {
        grown = subst (Appends a c) bytes (Appends-trans a b c ((x.decided ++ x.held) ++ piece) ((y.decided ++ y.held) ++ more) first.grown second.grown);
        line = λ before behind is. joined_line piece more before behind none second.line is;
        decided = second.decided;
        held = second.held;
        passing = second.passing ∙ ap not (sym (any_behind piece more none));
      })

  -- a write failed, and the next one took a piece
  pub none_then_piece : (piece : List ℕ) → TakesNone a b x y → TakesPiece known b c y z piece → TakesPiece known a c x z piece
  none_then_piece piece (inl first) second = takes_piece a b c known x y z piece first second
  none_then_piece piece (inr first) (inl second) = absurd (both first.passing second.whole)
    where
      both : y.passing ≡ true → y.passing ≡ false → ⊥
      both passed held = cc
  none_then_piece piece (inr first) (inr second) =
      let bytes : first.given ++ ((y.decided ++ y.held) ++ piece) ≡ (x.decided ++ x.held) ++ piece =
      ap (λ (l : List ℕ). first.given ++ ((y.decided ++ l) ++ piece)) first.held ∙ ap (λ (l : List ℕ). first.given ++ (l ++ piece)) (append-nil y.decided)
      ∙ sym (append_assoc first.given y.decided piece) ∙ ap (λ (l : List ℕ). l ++ piece) (sym first.whole) in
      inr (record {
        grown = subst (Appends a c) bytes (Appends-trans a b c first.given ((y.decided ++ y.held) ++ piece) first.grown second.grown);
        line = second.line;
        decided = second.decided;
        held = second.held;
        passing = second.passing;
      })

-- ---- a line that was taken and given out

none_told : (known : Known) (rest held : List ℕ) → (rest ≡ line_told known held) ⊎ (rest ≡ held) → held ≡ [] → rest ≡ []
none_told known rest held (inl told) none = told ∙ ap (line_told known) none
none_told known rest held (inr told) none = told ∙ none

module _ (a b c : Option (List ℕ)) (known : Known) (y z : Untold) where
  flushed_bytes : (first : List ℕ) → Appends a b first → (second : Settles known b c y z) → z.decided ≡ [] → Appends a c (first ++ (y.decided ++ second.rest))
  flushed_bytes first grown second all =
      let given : y.decided ++ second.rest ≡ second.given = second.whole ∙ ap (λ (l : List ℕ). second.given ++ l) all ∙ append-nil second.given in
      subst (λ (l : List ℕ). Appends a c (first ++ l)) (sym given) (Appends-trans a b c first second.given grown second.grown)

  pub flushed_line : (line : List ℕ) → TakesPiece known a b nothing_untold y line → Settles known b c y z → z.decided ≡ [] → Appends a c (line_told known line) ⊎ Appends a c line
  flushed_line line (inr first) second all =
      let none : second.rest ≡ [] = none_told known second.rest y.held second.told first.held in
      let bytes : line ++ (y.decided ++ second.rest) ≡ line = ap (λ (l : List ℕ). line ++ (l ++ second.rest)) first.decided ∙ ap (λ (l : List ℕ). line ++ l) none ∙ append-nil line in
      inr (subst (Appends a c) bytes (flushed_bytes line first.grown second all))
  flushed_line line (inl first) second all = held (list_any is_end line) first.state
    where
      shown : Appends a c (y.decided ++ second.rest)
      shown = flushed_bytes [] first.grown second all

      told : (rest : List ℕ) → (rest ≡ line_told known line) ⊎ (rest ≡ line) → Appends a c rest → Appends a c (line_told known line) ⊎ Appends a c line
      told rest (inl is) grown = inl (subst (Appends a c) is grown)
      told rest (inr is) grown = inr (subst (Appends a c) is grown)

      held : (t : Bool) → y ≡ (if t then record { decided = line_told known line; held = []; passing = false } else record { decided = []; held = line; passing = false }) → Appends a c (line_told known line) ⊎ Appends a c line
      held true state =
          let none : second.rest ≡ [] = none_told known second.rest y.held second.told (ap (λ (u : Untold). u.held) state) in
          inl (subst (Appends a c) (ap (λ (u : Untold). u.decided ++ second.rest) state ∙ ap (λ (l : List ℕ). line_told known line ++ l) none ∙ append-nil (line_told known line)) shown)
      held false state =
          told second.rest (subst (λ (h : List ℕ). (second.rest ≡ line_told known h) ⊎ (second.rest ≡ h)) (ap (λ (u : Untold). u.held) state) second.told) (subst (Appends a c) (ap (λ (u : Untold). u.decided ++ second.rest) state) shown)

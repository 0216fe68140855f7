-- Work that goes on behind a file.
use Rattle.std.proofs.Common.{◌≡◌, ◌+◌, ◌<◌, ◌≤◌, ℕ, suc, true, false, true≢false, List, [], ◌∷◌, ◌++◌, refl, sym, ap, ◌∙◌, subst, arith, append_assoc, length, drop, map, get_or}
use Rattle.std.specs.Borrow.{Bor}
use Rattle.std.proofs.lemmas.List.{append-nil, drop_all, get_or-map, length-append, length-map}
use Rattle.std.proofs.Math.Seq.{drop-cons}
use Rattle.zbatch.specs.Summary.{total}
use Rattle.zbatch.specs.Working.{Runs, counted, is_unwritten, tally_of}
use Rattle.zbatch.specs.declared.tally.Tally.{Tally}
use Rattle.zbatch.specs.declared.work.Ended.{Ended}
use Rattle.zbatch.specs.declared.work.Ended.TheVariants.{Well, Refused, Failed, Unwritten}
use Rattle.zbatch.proofs.Counts.{each_counted, more}

-- the texts of names
abbrev pub texts : List (Bor (List ℕ)) → List (List ℕ)
texts names = map (λ name. name.now) names

-- those that are left are one and the others
left_over : (names : List (Bor (List ℕ))) (k : ℕ) (d : Bor (List ℕ)) → k < length names → drop k (texts names) ≡ (get_or names k d).now ∷ drop (k + 1) (texts names)
left_over names k d within =
    let inside : k < length (texts names) = omega (arith, within, length-map names (λ (name : Bor (List ℕ)). name.now)) in
    let next : suc k ≡ k + 1 = omega arith in
    drop-cons (texts names) k d.now inside ∙ ap (λ name. name ∷ drop (suc k) (texts names)) (get_or-map (λ (name : Bor (List ℕ)). name.now) names k d d.now within)
    ∙ ap (λ n. (get_or names k d).now ∷ drop n (texts names)) next

lost : (e : Ended) → is_unwritten e ≡ true → e ≡ Unwritten
lost Well is = absurd (true≢false (sym is))
lost Refused is = absurd (true≢false (sym is))
lost Failed is = absurd (true≢false (sym is))
lost Unwritten is = refl

one_longer : (ends : List Ended) (e : Ended) (k : ℕ) → length ends ≡ k → length (ends ++ e ∷ []) ≡ k + 1
one_longer ends e k long = length-append ends (e ∷ []) ∙ omega (arith, long)

module _ {S : Type 0} (does : S → List ℕ → Ended → S → Type 0) where
  -- whatever comes of the files that are left completes the work on all
  abbrev pub Completes : List (List ℕ) → S → List Ended → List (List ℕ) → S → Type 0
  Completes names start ends left now = (others : List Ended) (end : S) → Runs does left now others end → Runs does names start (ends ++ others) end

  -- the first files ended so, which is counted, and that goes for the others
  abbrev pub SoFar : List (Bor (List ℕ)) → S → ℕ → Tally → S → Type 0
  SoFar names start k tally now = (ends : List Ended) × (tally ≡ tally_of ends) × (length ends ≡ k) × Completes (texts names) start ends (drop k (texts names)) now

  -- the work ended so, which is counted
  abbrev pub Made : List (Bor (List ℕ)) → S → Tally → S → Type 0
  Made names start tally end = (ends : List Ended) × Runs does (texts names) start ends end × (tally ≡ tally_of ends)

  goes_on : (e : Ended) (n : List ℕ) (names : List (List ℕ)) (start next end : S) (others : List Ended) → is_unwritten e ≡ false → does start n e next → Runs does names next others end → Runs does (n ∷ names) start (e ∷ others) end
  unfolding Runs
  goes_on Well n names start next end others written done runs = (next, done, runs)
  goes_on Refused n names start next end others written done runs = (next, done, runs)
  goes_on Failed n names start next end others written done runs = (next, done, runs)
  goes_on Unwritten n names start next end others written done runs = absurd (true≢false written)

  last_run : (n : List ℕ) (names : List (List ℕ)) (start end : S) → does start n Unwritten end → Runs does (n ∷ names) start (Unwritten ∷ []) end
  unfolding Runs
  last_run n names start end done = (done, refl)

  none_left : (now : S) → Runs does [] now [] now
  unfolding Runs
  none_left now = refl

  module _ (names : List (Bor (List ℕ))) (start : S) (k : ℕ) (tally : Tally) (now : S) (so_far : SoFar names start k tally now) where
    -- with one more done
    pub goes : (d : Bor (List ℕ)) (e : Ended) (next : S) (new : Tally) → k < length names → new ≡ counted tally e → is_unwritten e ≡ false → does now (get_or names k d).now e next → SoFar names start (k + 1) new next
    goes d e next new within is written done =
        let ends = so_far.0 in
        let left = drop (k + 1) (texts names) in (
          ends ++ e ∷ [],
          is ∙ ap (λ t. counted t e) so_far.1 ∙ more ends e,
          one_longer ends e k so_far.2,
          λ others end runs.
              subst (λ es. Runs does (texts names) start es end) (sym (append_assoc ends (e ∷ []) others))
              (so_far.3 (e ∷ others) end (subst (λ ns. Runs does ns now (e ∷ others) end) (sym (left_over names k d within)) (goes_on e (get_or names k d).now left now next end others written done runs))),
        )

    -- with an answer that is lost
    pub breaks : (d : Bor (List ℕ)) (e : Ended) (next : S) (new : Tally) → k < length names → new ≡ counted tally e → is_unwritten e ≡ true → does now (get_or names k d).now e next → Made names start new next
    breaks d e next new within is unwritten done =
        let ends = so_far.0 in
        let left = drop (k + 1) (texts names) in
        let same = lost e unwritten in
        let last : does now (get_or names k d).now Unwritten next = subst (λ x. does now (get_or names k d).now x next) same done in (
          ends ++ Unwritten ∷ [],
          so_far.3 (Unwritten ∷ []) next (subst (λ ns. Runs does ns now (Unwritten ∷ []) next) (sym (left_over names k d within)) (last_run (get_or names k d).now left now next last)),
          is ∙ ap (λ x. counted tally x) same ∙ ap (λ t. counted t Unwritten) so_far.1 ∙ more ends Unwritten,
        )

    -- with none left
    pub finishes : length names ≤ k → Made names start tally now
    finishes all =
        let none : drop k (texts names) ≡ [] = drop_all k (texts names) (omega (arith, all, length-map names (λ (name : Bor (List ℕ)). name.now))) in (
          so_far.0,
          subst (λ es. Runs does (texts names) start es now) (append-nil so_far.0) (so_far.3 [] now (subst (λ ns. Runs does ns now [] now) (sym none) (none_left now))),
          so_far.1,
        )

  -- each is counted once, where no answer was lost
  pub all_counted : (names : List (Bor (List ℕ))) (start end : S) (tally : Tally) → Made names start tally end → tally.unwritten ≡ false → total tally ≡ length names
  all_counted names start end tally made written =
      let none : (tally_of made.0).unwritten ≡ false = ap (λ (t : Tally). t.unwritten) (sym made.2) ∙ written in
      ap total made.2 ∙ each_counted does (texts names) start end made.0 made.1 none ∙ length-map names (λ (name : Bor (List ℕ)). name.now)

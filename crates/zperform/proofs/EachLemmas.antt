-- Many stories, one after another.
use Rattle.std.proofs.Common.{◌≡◌, ◌≢◌, ◌⊎◌, inl, inr, ◌∙◌, ℕ, Bool, true, false, true≢false, List, [], ◌∷◌, ◌++◌, Option, Ok, Err, refl, sym, ap, subst}
use Rattle.std.specs.List.{list_any}
use Rattle.std.specs.Prelude.{IsErr, Result}
use Rattle.std.specs.Io.KnownBytes.{Appends}
use Rattle.std.proofs.KnownBytes.{Appends-trans}
use Rattle.zfault.specs.Devices.{AppendsBeginning, RisesByOne}
use Rattle.zfault.proofs.DeviceLemmas.{AppendsBeginning-after, AppendsBeginning-append}
use Rattle.zbatch.specs.Working.{Runs, is_unwritten}
use Rattle.zbatch.specs.declared.work.Ended.{Ended}
use Rattle.zbatch.specs.declared.work.Ended.TheVariants as ways
use Rattle.zperform.specs.Devices.{Held, Seen, Writes}
use Rattle.zperform.specs.Each.{IsTold, Steps, WritesText}

-- ---- a text

-- a text behind one that was written
pub written_behind : {E : Type 0} (old mid new : Seen) (first then : List ℕ) (r : Result Unit E) → Appends old.contents mid.contents first → mid.failures ≡ old.failures → Writes mid new then r → Writes old new (first ++ then) r
written_behind old mid new first then (Ok done) whole quiet taken = record { whole = Appends-trans old.contents mid.contents new.contents first then whole taken.whole; quiet = taken.quiet ∙ quiet; flushed = taken.flushed }
written_behind old mid new first then (Err failed) whole quiet broke =
    record { begun = AppendsBeginning-after old.contents mid.contents new.contents first then whole broke.begun; blamed = subst (λ (n : ℕ). RisesByOne n new.failures) quiet broke.blamed }

-- a text of which the first part was broken off
pub broke_off : {E : Type 0} (old new : Seen) (first then : List ℕ) (r : Result Unit E) → IsErr r → AppendsBeginning old.contents new.contents first → RisesByOne old.failures new.failures → Writes old new (first ++ then) r
broke_off old new first then (Ok done) is begun blamed = absurd (true≢false (sym is))
broke_off old new first then (Err failed) is begun blamed = record { begun = AppendsBeginning-append old.contents new.contents first then begun; blamed = blamed }

-- ---- the work on one

module _ (Tells : Held → Held → List ℕ → Option (Ended × List ℕ) → Type 0) (json : Bool) where
  -- nothing that is told of a story says that it isn't written
  told_of_one : (files later : Held) (name text : List ℕ) → IsTold Tells json files later name ways.Unwritten text → ⊥
  told_of_one files later name text (inl (told, other)) = other refl
  told_of_one files later name text (inr (lost, failed, is)) = absurd cc

  text_seen : (files later : Held) (before now : Seen) (name : List ℕ) (ended : Ended) → Steps Tells json files later before now name ended → WritesText Tells json (files, before.contents) name ended (later, now.contents)
  text_seen files later before now name ended (inl (text, is, taken)) = inl (text, is, taken.whole)
  text_seen files later before now name ended (inr (unwritten, other, text, is, broke)) = inr (unwritten, other, text, is, broke.begun)

  -- a text that was written left no failure, and nothing waits
  text_taken : (files later : Held) (before now : Seen) (name : List ℕ) (ended : Ended) → ended ≢ ways.Unwritten → Steps Tells json files later before now name ended → (now.failures ≡ before.failures) × (now.waits ≡ false)
  text_taken files later before now name ended other (inl (text, is, taken)) = (taken.quiet, taken.flushed)
  text_taken files later before now name ended other (inr (unwritten, another, text, is, broke)) = absurd (other unwritten)

  -- one that wasn't is blamed on the writer
  text_broken : (files later : Held) (before now : Seen) (name : List ℕ) → Steps Tells json files later before now name ways.Unwritten → RisesByOne before.failures now.failures
  text_broken files later before now name (inl (text, is, taken)) = absurd (told_of_one files later name text is)
  text_broken files later before now name (inr (unwritten, other, text, is, broke)) = broke.blamed

  -- ---- all of them

  module _ {S : Type 0} (does : S → List ℕ → Ended → S → Type 0) (is_of : S → Type 0) (of_files : S → Held) (of_writer : S → Seen)
      (step : (s : S) (n : List ℕ) (e : Ended) (t : S) → is_of s → does s n e t → is_of t × Steps Tells json (of_files s) (of_files t) (of_writer s) (of_writer t) n e) where
    -- what each is of, the last is of
    pub all_of : (names : List (List ℕ)) (s : S) (ends : List Ended) (t : S) → is_of s → Runs does names s ends t → is_of t
    unfolding Runs
    all_of [] s [] t of is = subst is_of (sym is) of
    all_of [] s (e ∷ es) t of none = absurd none
    all_of (n ∷ ns) s [] t of none = absurd none
    all_of (n ∷ ns) s (ways.Unwritten ∷ es) t of (did, last) = (step s n ways.Unwritten t of did).0
    all_of (n ∷ ns) s (ways.Well ∷ es) t of (next, did, runs) = all_of ns next es t (step s n ways.Well next of did).0 runs
    all_of (n ∷ ns) s (ways.Refused ∷ es) t of (next, did, runs) = all_of ns next es t (step s n ways.Refused next of did).0 runs
    all_of (n ∷ ns) s (ways.Failed ∷ es) t of (next, did, runs) = all_of ns next es t (step s n ways.Failed next of did).0 runs

    -- the texts are those of the files as they are before each
    abbrev pub AllWritten : List (List ℕ) → S → List Ended → S → Type 0
    AllWritten names s ends t = Runs (WritesText Tells json) names (of_files s, (of_writer s).contents) ends (of_files t, (of_writer t).contents)

    pub all_written : (names : List (List ℕ)) (s : S) (ends : List Ended) (t : S) → is_of s → Runs does names s ends t → AllWritten names s ends t
    unfolding Runs
    all_written [] s [] t of is = ap (λ (x : S). (of_files x, (of_writer x).contents)) is
    all_written [] s (e ∷ es) t of none = absurd none
    all_written (n ∷ ns) s [] t of none = absurd none
    all_written (n ∷ ns) s (ways.Unwritten ∷ es) t of (did, last) = (text_seen _ _ _ _ n ways.Unwritten (step s n ways.Unwritten t of did).1, last)
    all_written (n ∷ ns) s (ways.Well ∷ es) t of (next, did, runs) =
        let steps = step s n ways.Well next of did in
        ((of_files next, (of_writer next).contents), text_seen _ _ _ _ n ways.Well steps.1, all_written ns next es t steps.0 runs)
    all_written (n ∷ ns) s (ways.Refused ∷ es) t of (next, did, runs) =
        let steps = step s n ways.Refused next of did in
        ((of_files next, (of_writer next).contents), text_seen _ _ _ _ n ways.Refused steps.1, all_written ns next es t steps.0 runs)
    all_written (n ∷ ns) s (ways.Failed ∷ es) t of (next, did, runs) =
        let steps = step s n ways.Failed next of did in
        ((of_files next, (of_writer next).contents), text_seen _ _ _ _ n ways.Failed steps.1, all_written ns next es t steps.0 runs)

    -- the writer is blamed just where a text isn't written, and else nothing waits, or nothing was done
    abbrev pub IsBlamedFor : S → List Ended → S → Type 0
    IsBlamedFor s ends t =
        (list_any is_unwritten ends ≡ true → RisesByOne (of_writer s).failures (of_writer t).failures)
        × (list_any is_unwritten ends ≡ false → ((of_writer t).failures ≡ (of_writer s).failures) × (((of_writer t).waits ≡ false) ⊎ (t ≡ s)))

    settled : (next t : S) → (of_writer next).waits ≡ false → ((of_writer t).waits ≡ false) ⊎ (t ≡ next) → (of_writer t).waits ≡ false
    settled next t flushed (inl none) = none
    settled next t flushed (inr same) = ap (λ (x : S). (of_writer x).waits) same ∙ flushed

    later_blame : (s next : S) (e : Ended) (es : List Ended) (t : S) → is_unwritten e ≡ false → ((of_writer next).failures ≡ (of_writer s).failures) × ((of_writer next).waits ≡ false) → IsBlamedFor next es t → IsBlamedFor s (e ∷ es) t
    later_blame s next ways.Unwritten es t e taken (blamed, free) = absurd cc
    later_blame s next ways.Well es t e (quiet, flushed) (blamed, free) = (λ lost. subst (λ (k : ℕ). RisesByOne k (of_writer t).failures) quiet (blamed lost), λ well. ((free well).0 ∙ quiet, inl (settled next t flushed (free well).1)))
    later_blame s next ways.Refused es t e (quiet, flushed) (blamed, free) = (λ lost. subst (λ (k : ℕ). RisesByOne k (of_writer t).failures) quiet (blamed lost), λ well. ((free well).0 ∙ quiet, inl (settled next t flushed (free well).1)))
    later_blame s next ways.Failed es t e (quiet, flushed) (blamed, free) = (λ lost. subst (λ (k : ℕ). RisesByOne k (of_writer t).failures) quiet (blamed lost), λ well. ((free well).0 ∙ quiet, inl (settled next t flushed (free well).1)))

    pub all_blamed : (names : List (List ℕ)) (s : S) (ends : List Ended) (t : S) → is_of s → Runs does names s ends t → IsBlamedFor s ends t
    unfolding Runs
    all_blamed [] s [] t of is = (λ lost. absurd cc, λ well. (ap (λ (x : S). (of_writer x).failures) is, inr is))
    all_blamed [] s (e ∷ es) t of none = absurd none
    all_blamed (n ∷ ns) s [] t of none = absurd none
    all_blamed (n ∷ ns) s (ways.Unwritten ∷ es) t of (did, last) = (λ lost. text_broken _ _ _ _ n (step s n ways.Unwritten t of did).1, λ well. absurd cc)
    all_blamed (n ∷ ns) s (ways.Well ∷ es) t of (next, did, runs) =
        let steps = step s n ways.Well next of did in
        later_blame s next ways.Well es t refl (text_taken _ _ _ _ n ways.Well (λ e. cc) steps.1) (all_blamed ns next es t steps.0 runs)
    all_blamed (n ∷ ns) s (ways.Refused ∷ es) t of (next, did, runs) =
        let steps = step s n ways.Refused next of did in
        later_blame s next ways.Refused es t refl (text_taken _ _ _ _ n ways.Refused (λ e. cc) steps.1) (all_blamed ns next es t steps.0 runs)
    all_blamed (n ∷ ns) s (ways.Failed ∷ es) t of (next, did, runs) =
        let steps = step s n ways.Failed next of did in
        later_blame s next ways.Failed es t refl (text_taken _ _ _ _ n ways.Failed (λ e. cc) steps.1) (all_blamed ns next es t steps.0 runs)

-- what comes of work that was gone through
pub gone : {S : Type 0} {does : S → List ℕ → Ended → S → Type 0} (names : List (List ℕ)) (s : S) (ends : List Ended) (t : S) → Runs does names s ends t
    → (Tells : Held → Held → List ℕ → Option (Ended × List ℕ) → Type 0) (json : Bool) (is_of : S → S → Type 0) (of_files : S → Held) (of_writer : S → Seen)
    → ((u : S) (n : List ℕ) (e : Ended) (v : S) → is_of s u → does u n e v → is_of s v × Steps Tells json (of_files u) (of_files v) (of_writer u) (of_writer v) n e)
    → is_of s s
    → is_of s t × Runs (WritesText Tells json) names (of_files s, (of_writer s).contents) ends (of_files t, (of_writer t).contents)
    × (list_any is_unwritten ends ≡ true → RisesByOne (of_writer s).failures (of_writer t).failures)
    × (list_any is_unwritten ends ≡ false → ((of_writer t).failures ≡ (of_writer s).failures) × (((of_writer t).waits ≡ false) ⊎ (t ≡ s)))
gone {S} {does} names s ends t runs Tells json is_of of_files of_writer step of =
    let blame = all_blamed Tells json does (is_of s) of_files of_writer step names s ends t of runs in
    (all_of Tells json does (is_of s) of_files of_writer step names s ends t of runs, all_written Tells json does (is_of s) of_files of_writer step names s ends t of runs, blame.0, blame.1)

-- a sink that comes back was flushed, or is as it was lent
pub flushed_back : {S W : Type 0} (waits : W → Bool) (of : S → W) (s t : S) (old back : W) → back ≡ of t → of s ≡ old → (waits (of t) ≡ false) ⊎ (t ≡ s) → (waits back ≡ false) ⊎ (back ≡ old)
flushed_back waits of s t old back home given (inl none) = inl (ap waits home ∙ none)
flushed_back waits of s t old back home given (inr same) = inr (home ∙ ap of same ∙ given)

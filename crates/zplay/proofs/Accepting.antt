-- What an accepted story's listing and its certificate say of each other.
use Rattle.std.proofs.Common.{◌≡◌, ℕ, zero, suc, ◌≤◌, Bool, true, false, List, [], ◌∷◌, drop, get_or, Option, Some, Ok, refl, sym, ap, subst, arith, eq-eqb, if◌then◌else◌}
use Rattle.std.specs.Prelude.{◌==◌, ◌||◌, option_map, All}
use Rattle.std.specs.List.{AllZip, list_any}
use Rattle.std.proofs.lemmas.Bool.{eqb-true}
use Rattle.zstory.specs.LoadedStory.{LoadedStory, static_base}
use Rattle.zcode.specs.Reading.{instruction_at}
use Rattle.zlist.specs.declared.record.Record.{Record}
use Rattle.zlist.specs.Listing.{is_listed}
use Rattle.zcert.specs.Certificate.{Instruction, Certificate}
use Rattle.zcert.specs.Listed.{listed_at}
use Rattle.zdomain.specs.Domain.{SetOperations, AreSound}
use Rattle.zcert.specs.Format.{Format}
use Rattle.zstate.specs.State.{scope_only}
use Rattle.zrule.specs.declared.rule.Rule.TheVariants as rules
use Rattle.zrule.specs.Described.{IsListedIn}
use Rattle.zrule.specs.Claims.{claims_of, entry_of}
use Rattle.zrule.specs.Rules.{Supports}
use Rattle.zcheck.specs.Acceptance.{AcceptanceOver, IsRecordOf}
use Rattle.zcheck.proofs.Headline.{lists_where, supports_where}
use Rattle.zplay.specs.Accepted.{IsJudged, IsAccepted, claims}

or_right : (b : Bool) → (b || true) ≡ true
or_right true = refl
or_right false = refl

-- ---- a certificate's instructions and a listing's records, side by side

-- an instruction of the certificate is found at its address, or another that stands there
found_there : {V : Type 0} (is : List (Instruction V)) (p : ℕ) → list_any (λ i. i.address == p) is ≡ true → (j : Instruction V) × (listed_at is p ≡ Some j)
found_there {V} [] p there = absurd cc
found_there {V} (i ∷ is) p there = by_test (i.address == p) (found_there is p) there
  where
    by_test : (b : Bool) → (list_any (λ j. j.address == p) is ≡ true → (j : Instruction V) × (listed_at is p ≡ Some j)) → (b || list_any (λ j. j.address == p) is) ≡ true → (j : Instruction V) × ((if b then Some i else listed_at is p) ≡ Some j)
    by_test true rest there = (i, refl)
    by_test false rest there = rest there

module _ {V : Type 0} (o : SetOperations V) (story : LoadedStory) (c : Certificate V) where
  -- each record is of an instruction of which something is said
  judged_among : (is : List (Instruction V)) (rs : List Record) → AllZip (IsRecordOf story) is rs → ((p : ℕ) → list_any (λ i. i.address == p) is ≡ true → list_any (λ i. i.address == p) c.instructions ≡ true) → All (λ r. IsJudged story (claims_of o c) r) rs
  judged_among [] [] zip among k d within = absurd (omega (arith, within))
  judged_among [] (r ∷ rs) zip among k d within = absurd zip
  judged_among (i ∷ is) [] zip among k d within = absurd zip
  judged_among (i ∷ is) (r ∷ rs) zip among zero d within =
      let here : (i.address == r.address) ≡ true = eq-eqb i.address r.address (sym zip.0.address) in
      let j = found_there c.instructions r.address (among r.address (rw here refl)) in
      record {
        entry = entry_of j.0;
        listed = ap (λ (found : Option (Instruction V)). option_map entry_of found) j.1;
        decodes = subst (λ (p : ℕ). instruction_at (drop p story.memory) ≡ Ok r.instruction) (sym zip.0.address) zip.0.instruction;
      }
  judged_among (i ∷ is) (r ∷ rs) zip among (suc k) d within =
      judged_among is rs zip.1 (λ p there. among p (rw there (or_right (i.address == p)))) k d (omega (arith, within))

  each_judged : (rs : List Record) → AllZip (IsRecordOf story) c.instructions rs → All (λ r. IsJudged story (claims_of o c) r) rs
  each_judged rs zip = judged_among c.instructions rs zip (λ p there. there)

-- what holds of each record holds where something is listed
among : (P : ℕ → Type 0) (rs : List Record) (p : ℕ) → All (λ r. P r.address) rs → list_any (λ r. r.address == p) rs ≡ true → P p
among P [] p all there = absurd cc
among P (r ∷ rs) p all there = by_test (r.address == p) (among P rs p (λ k d within. all (suc k) d (omega (arith, within)))) refl there
  where
    by_test : (b : Bool) → (list_any (λ x. x.address == p) rs ≡ true → P p) → (r.address == p) ≡ b → (b || list_any (λ x. x.address == p) rs) ≡ true → P p
    by_test true rest here there = subst P (eqb-true r.address p here) (all zero r (omega arith))
    by_test false rest here there = rest there

module _ {V : Type 0} (o : SetOperations V) (lawful : AreSound o) (format : Format V) (a : AcceptanceOver V) (accepted : IsAccepted o format a) where
  -- each record is of an instruction of which something is said,
  pub judged_each : All (λ r. IsJudged a.story (claims o a) r) a.listing.records
  judged_each = each_judged o a.story a.certificate a.listing.records accepted.lists.records

  -- and each place of which something is said is listed
  pub listed_each : IsListedIn o (claims o a) (scope_only a.listing)
  listed_each = lists_where o lawful format a.story a.certificate accepted.spelling a.listing accepted.lists

  pub supported : Supports o (claims o a) a.story
  supported = supports_where o lawful format a.story a.certificate accepted.spelling accepted.passes

  -- every listed instruction stands in static memory
  pub each_fixed : (p : ℕ) → is_listed a.listing p ≡ true → static_base a.story ≤ p
  each_fixed p there = among (λ q. static_base a.story ≤ q) a.listing.records p (λ k d within.
      let j = judged_each k d within in
      (supported.each (get_or a.listing.records k d).address j.entry j.listed refl rules.Decodes).1.static) there

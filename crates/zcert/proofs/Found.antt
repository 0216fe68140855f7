-- What is read is spelled so, and has a spelling.
use Rattle.std.proofs.Common.{◌≡◌, ℕ, zero, suc, ◌+◌, ◌<◌, ◌≤◌, Bool, true, false, List, [], ◌∷◌, ◌++◌, length, take, drop, Option, Some, None, Ok, refl, ap, subst, ◌∙◌, arith}
use Rattle.std.specs.Prelude.{nat_le, nat_lt, ◌==◌, ◌&&◌, is_some}
use Rattle.std.specs.List.{flat_map, AllByRecursion}
use Rattle.std.proofs.lemmas.Bool.{leb-true, ltb-true, eqb-true}
use Rattle.std.proofs.lemmas.List.{take-append-drop, length-take, length-drop, append-nil}
use Rattle.zstory.specs.declared.identity.Identity.{Identity}
use Rattle.zcert.specs.declared.edition.Edition.{Edition}
use Rattle.zcert.specs.declared.edition.Edition.TheVariants as editions
use Rattle.zcert.specs.declared.error.CertError.{CertError}
use Rattle.zcert.specs.declared.error.CertError.TheVariants as errors
use Rattle.zcert.specs.declared.parts.Fact.{Fact}
use Rattle.zcert.specs.declared.parts.Range.{Range}
use Rattle.zcert.specs.declared.parts.Routine.{Routine}
use Rattle.zcert.specs.declared.limits.TheConstants.{MAGIC, GLOBALS, ADDRESS_LIMIT, MAX_LOCALS, MAX_INSTRUCTIONS, MAX_RANGES, MAX_ROUTINES, MAX_HEIGHT, MAX_FRAMES, MAX_FACTS, LIMIT_VERSION, MARK_VERSION, FACT_VERSION}
use Rattle.zcert.specs.Numbers.{number}
use Rattle.zcert.specs.Numbers as numbers
use Rattle.zcert.specs.Certificate.{Instruction, Certificate, locals_of, edition_of}
use Rattle.zcert.specs.Editions.{is_limited, is_marking, is_stating}
use Rattle.zcert.specs.Marks.{height_byte, is_mark, height_in, IsMarkable}
use Rattle.zcert.specs.Facts.{least_global, FactsRise, AreStated}
use Rattle.zcert.specs.Steps.{need, number_at, serial_at}
use Rattle.zcert.specs.Format.{Format, version_of, IsAllowed}
use Rattle.zcert.specs.Spelling.{identity_bytes, limit_bytes, range_bytes, values_bytes, routine_bytes, instruction_bytes, fact_bytes, facts_bytes, counted, heading, spelling, IsIdentity, IsLimit, IsRange, AreApart, Rise, IsRoutine, IsInstruction, IsFact, HasSpelling}
use Rattle.zcert.specs.Reading.{magic_at, edition_where, version_at, heading_at, identity_at, limit_at, fields_at, range_at, ranges_at, all_ranges_at, address_fits, global_fits, values_at, routine_at, routines_at, all_routines_at, instruction_at, instructions_at, all_instructions_at, fact_at, facts_from, all_facts_at, at_end, reading}
use Rattle.zcert.specs.FormatLaw.Stepping.{Takes-then, bind_ok, need_ok, ok_is, number_takes, serial_takes}
use Rattle.zcert.specs.FormatLaw.{IsBytes, Takes, IsFormat}
use Rattle.zcert.proofs.Marked.{byte_again, markable, edition_again, may_mark, may_state, may_limit}

-- what was taken is all
all_taken : (bytes text rest : List ℕ) → Takes bytes text rest → rest ≡ [] → bytes ≡ text
all_taken bytes text rest t e = t.parts ∙ ap (λ (r : List ℕ). text ++ r) e ∙ append-nil text

pub each_below : (bytes : List ℕ) → IsBytes bytes → AllByRecursion (λ b. b < 256) bytes
each_below [] fits = tt
each_below (b ∷ bytes) fits = (fits 0, each_below bytes (λ i. fits (suc i)))

pub magic_takes : (bytes rest : List ℕ) → IsBytes bytes → magic_at bytes ≡ Ok rest → Takes bytes (number numbers.Magic MAGIC) rest
unfolding magic_at
magic_takes bytes rest fits e =
    let a = bind_ok (number_at numbers.Magic bytes) _ _ e in
    let o = need_ok (a.0.0 == MAGIC) _ _ _ a.2 in
    let t = number_takes numbers.Magic bytes a.0.0 a.0.1 fits a.1 in
    subst (λ (r : List ℕ). Takes bytes (number numbers.Magic MAGIC) r) (ok_is _ _ o.1) (subst (λ (n : ℕ). Takes bytes (number numbers.Magic n) a.0.1) (eqb-true _ _ o.0) t.0)

both_hold : (n m : ℕ) (a b : Bool) → (a && b) ≡ true → (n == m) ≡ b → (n ≡ m) × (a ≡ true)
both_hold n m true true both is = (eqb-true _ _ is, refl)
both_hold n m true false both is = absurd cc
both_hold n m false b both is = absurd cc

-- a version is that of the edition that is told
version_is : {V : Type 0} (format : Format V) (n : ℕ) (plain limit mark fact : Bool) (edition : Edition) → (n == format.version) ≡ plain → (format.limited && (n == LIMIT_VERSION)) ≡ limit → (format.limited && (n == MARK_VERSION)) ≡ mark → (format.limited && (n == FACT_VERSION)) ≡ fact → edition_where plain limit mark fact ≡ Ok edition → (n ≡ version_of format edition) × IsAllowed format edition
version_is format n true limit mark fact editions.Plain p q r s e = (eqb-true _ _ p, tt)
version_is format n false true mark fact editions.Limited p q r s e = both_hold n LIMIT_VERSION format.limited (n == LIMIT_VERSION) q refl
version_is format n false false true fact editions.Marking p q r s e = both_hold n MARK_VERSION format.limited (n == MARK_VERSION) r refl
version_is format n false false false true editions.Stating p q r s e = both_hold n FACT_VERSION format.limited (n == FACT_VERSION) s refl
version_is format n _ _ _ _ _ p q r s e = absurd cc

pub version_takes : {V : Type 0} (format : Format V) (bytes : List ℕ) (x : Edition × List ℕ) → IsBytes bytes → version_at format bytes ≡ Ok x → Takes bytes (number numbers.Version (version_of format x.0)) x.1 × IsAllowed format x.0
unfolding version_at
version_takes format bytes x fits e =
    let a = bind_ok (number_at numbers.Version bytes) _ _ e in
    let b = bind_ok (edition_where (a.0.0 == format.version) (format.limited && (a.0.0 == LIMIT_VERSION)) (format.limited && (a.0.0 == MARK_VERSION)) (format.limited && (a.0.0 == FACT_VERSION))) _ _ a.2 in
    let t = number_takes numbers.Version bytes a.0.0 a.0.1 fits a.1 in
    let is = version_is format a.0.0 _ _ _ _ b.0 refl refl refl refl b.1 in
    let made : Edition × List ℕ = (b.0, a.0.1) in
    subst (λ (y : Edition × List ℕ). Takes bytes (number numbers.Version (version_of format y.0)) y.1 × IsAllowed format y.0) {x = made} (ok_is made x b.2) (subst (λ (n : ℕ). Takes bytes (number numbers.Version n) a.0.1) is.0 t.0, is.1)

pub heading_takes : {V : Type 0} (format : Format V) (bytes : List ℕ) (x : Edition × List ℕ) → IsBytes bytes → heading_at format bytes ≡ Ok x → Takes bytes (heading format x.0) x.1 × IsAllowed format x.0
unfolding heading_at
heading_takes format bytes x fits e =
    let m = bind_ok (magic_at bytes) _ _ e in
    let tm = magic_takes bytes m.0 fits m.1 in
    let tv = version_takes format m.0 x tm.rest_fits m.2 in
    (Takes-then bytes _ m.0 _ x.1 tm tv.0, tv.1)

-- nothing is taken of bytes
none_taken : (bytes : List ℕ) → IsBytes bytes → Takes bytes [] bytes
none_taken bytes fits = record { parts = refl; rest_fits = fits }

-- what is known of a limit that was read
pub record TakesLimit {V : Type 0} (format : Format V) (limited : Bool) (bytes : List ℕ) (x : Option ℕ × List ℕ) : Type 0 where
  pub takes : Takes bytes (limit_bytes x.0) x.1
  pub is : IsLimit format x.0
  pub named : is_some x.0 ≡ limited

pub limit_takes : {V : Type 0} (format : Format V) (limited : Bool) (bytes : List ℕ) (x : Option ℕ × List ℕ) → (limited ≡ true → format.limited ≡ true) → IsBytes bytes → limit_at limited bytes ≡ Ok x → TakesLimit format limited bytes x
unfolding limit_at
limit_takes format false bytes x may fits e =
    let made : Option ℕ × List ℕ = (None, bytes) in
    subst (TakesLimit format false bytes) {x = made} (ok_is made x e) (record { takes = none_taken bytes fits; is = tt; named = refl })
limit_takes format true bytes x may fits e =
    let a = bind_ok (number_at numbers.FrameLimit bytes) _ _ e in
    let o = need_ok (nat_le a.0.0 MAX_FRAMES) _ _ _ a.2 in
    let t = number_takes numbers.FrameLimit bytes a.0.0 a.0.1 fits a.1 in
    let made : Option ℕ × List ℕ = (Some a.0.0, a.0.1) in
    subst (TakesLimit format true bytes) {x = made} (ok_is made x o.1) (record { takes = t.0; is = (may refl, leb-true _ _ o.0); named = refl })

identity_takes : (bytes : List ℕ) (x : Identity × List ℕ) → IsBytes bytes → identity_at bytes ≡ Ok x → Takes bytes (identity_bytes x.0) x.1 × IsIdentity x.0
unfolding identity_at
identity_takes bytes x fits e =
    let a = bind_ok (number_at numbers.Release bytes) _ _ e in
    let b = bind_ok (serial_at a.0.1) _ _ a.2 in
    let c = bind_ok (number_at numbers.Checksum b.0.1) _ _ b.2 in
    let d = bind_ok (number_at numbers.LoadedLength c.0.1) _ _ c.2 in
    let ta = number_takes numbers.Release bytes a.0.0 a.0.1 fits a.1 in
    let tb = serial_takes a.0.1 b.0.0 b.0.1 ta.0.rest_fits b.1 in
    let tc = number_takes numbers.Checksum b.0.1 c.0.0 c.0.1 tb.0.rest_fits c.1 in
    let td = number_takes numbers.LoadedLength c.0.1 d.0.0 d.0.1 tc.0.rest_fits d.1 in
    let ab = Takes-then bytes _ a.0.1 _ b.0.1 ta.0 tb.0 in
    let abc = Takes-then bytes _ b.0.1 _ c.0.1 ab tc.0 in
    let all = Takes-then bytes _ c.0.1 _ d.0.1 abc td.0 in
    let made : Identity × List ℕ = (record { release = a.0.0; serial = b.0.0; checksum = c.0.0; length = d.0.0 }, d.0.1) in
    subst (λ (y : Identity × List ℕ). Takes bytes (identity_bytes y.0) y.1 × IsIdentity y.0) {x = made} (ok_is made x d.2) (
      all,
      record { release = ta.1; serial = tb.1; serial_bytes = each_below b.0.0 tb.2; checksum = tc.1; loaded_length = td.1 },
    )

range_takes : (floor : ℕ) (bytes : List ℕ) (x : Range × List ℕ) → IsBytes bytes → range_at floor bytes ≡ Ok x → Takes bytes (range_bytes x.0) x.1 × (floor ≤ x.0.first) × IsRange x.0
unfolding range_at
range_takes floor bytes x fits e =
    let a = bind_ok (number_at numbers.RangeFirst bytes) _ _ e in
    let o = need_ok (nat_le floor a.0.0) _ _ _ a.2 in
    let b = bind_ok (number_at numbers.RangeLast a.0.1) _ _ o.1 in
    let p = need_ok (nat_le a.0.0 b.0.0) _ _ _ b.2 in
    let ta = number_takes numbers.RangeFirst bytes a.0.0 a.0.1 fits a.1 in
    let tb = number_takes numbers.RangeLast a.0.1 b.0.0 b.0.1 ta.0.rest_fits b.1 in
    let made : Range × List ℕ = (record { first = a.0.0; last = b.0.0 }, b.0.1) in
    subst (λ (y : Range × List ℕ). Takes bytes (range_bytes y.0) y.1 × (floor ≤ y.0.first) × IsRange y.0) {x = made} (ok_is made x p.1) (
      Takes-then bytes _ a.0.1 _ b.0.1 ta.0 tb.0,
      leb-true _ _ o.0,
      record { ordered = leb-true _ _ p.0; room = tb.1 },
    )

-- so many ranges that follow each other
pub record TakesRanges (n floor : ℕ) (bytes : List ℕ) (rs : List Range) (rest : List ℕ) : Type 0 where
  pub takes : Takes bytes (flat_map range_bytes rs) rest
  pub count : length rs ≡ n
  pub each : AllByRecursion IsRange rs
  pub apart : AreApart floor rs

ranges_take : (n floor : ℕ) (bytes : List ℕ) (x : List Range × List ℕ) → IsBytes bytes → ranges_at n floor bytes ≡ Ok x → TakesRanges n floor bytes x.0 x.1
unfolding ranges_at
ranges_take zero floor bytes x fits e =
    let made : List Range × List ℕ = ([], bytes) in
    subst (λ (y : List Range × List ℕ). TakesRanges 0 floor bytes y.0 y.1) {x = made} (ok_is made x e) (record { takes = record { parts = refl; rest_fits = fits }; count = refl; each = tt; apart = tt })
ranges_take (suc n) floor bytes x fits e =
    let a = bind_ok (range_at floor bytes) _ _ e in
    let b = bind_ok (ranges_at n (a.0.0.last + 2) a.0.1) _ _ a.2 in
    let first = range_takes floor bytes a.0 fits a.1 in
    let others = ranges_take n (a.0.0.last + 2) a.0.1 b.0 first.0.rest_fits b.1 in
    let made : List Range × List ℕ = (a.0.0 ∷ b.0.0, b.0.1) in
    subst (λ (y : List Range × List ℕ). TakesRanges (suc n) floor bytes y.0 y.1) {x = made} (ok_is made x b.2) (record {
      takes = Takes-then bytes _ a.0.1 _ b.0.1 first.0 others.takes;
      count = ap suc others.count;
      each = (first.2, others.each);
      apart = (first.1, others.apart);
    })

all_ranges_take : (bytes : List ℕ) (x : List Range × List ℕ) → IsBytes bytes → all_ranges_at bytes ≡ Ok x → Takes bytes (counted numbers.RangeCount range_bytes x.0) x.1 × (length x.0 ≤ MAX_RANGES) × AllByRecursion IsRange x.0 × AreApart 0 x.0
unfolding all_ranges_at
all_ranges_take bytes x fits e =
    let a = bind_ok (number_at numbers.RangeCount bytes) _ _ e in
    let o = need_ok (nat_le a.0.0 MAX_RANGES) _ _ _ a.2 in
    let ta = number_takes numbers.RangeCount bytes a.0.0 a.0.1 fits a.1 in
    let tb = ranges_take a.0.0 0 a.0.1 x ta.0.rest_fits o.1 in
    let whole = Takes-then bytes _ a.0.1 _ x.1 ta.0 tb.takes in
    (rw tb.count whole, rw tb.count (leb-true _ _ o.0), tb.each, tb.apart)

-- an address that is neither out of order nor above the limit
need_is : (b : Bool) (d : CertError) (u : Unit {0}) → need b d ≡ Ok u → b ≡ true
need_is true d u e = refl
need_is false d u e = absurd cc

pub address_is : (floor address : ℕ) (u : Unit {0}) → address_fits floor address ≡ Ok u → (floor ≤ address) × (address < ADDRESS_LIMIT)
address_is floor address u e =
    let o = need_ok (nat_le floor address) _ _ _ e in
    (leb-true _ _ o.0, ltb-true _ _ (need_is (nat_lt address ADDRESS_LIMIT) errors.Limit u o.1))

pub global_is : (least global : ℕ) (u : Unit {0}) → global_fits least global ≡ Ok u → (least ≤ global) × (global < GLOBALS)
global_is least global u e =
    let o = need_ok (nat_le least global) _ _ _ e in
    (leb-true _ _ o.0, ltb-true _ _ (need_is (nat_lt global GLOBALS) errors.Limit u o.1))

module _ {V : Type 0} (format : Format V) (law : IsFormat format) where
  pub record TakesValues (n : ℕ) (bytes : List ℕ) (vs : List V) (rest : List ℕ) : Type 0 where
    pub takes : Takes bytes (values_bytes format vs) rest
    pub count : length vs ≡ n
    pub each : AllByRecursion format.Has vs

  values_take : (n : ℕ) (bytes : List ℕ) (x : List V × List ℕ) → IsBytes bytes → values_at format n bytes ≡ Ok x → TakesValues n bytes x.0 x.1
  unfolding values_at
  values_take zero bytes x fits e =
      let made : List V × List ℕ = ([], bytes) in
      subst (λ (y : List V × List ℕ). TakesValues 0 bytes y.0 y.1) {x = made} (ok_is made x e) (record { takes = record { parts = refl; rest_fits = fits }; count = refl; each = tt })
  values_take (suc n) bytes x fits e =
      let a = bind_ok (format.value_at bytes) _ _ e in
      let b = bind_ok (values_at format n a.0.1) _ _ a.2 in
      let first = law.takes bytes a.0.0 a.0.1 fits a.1 in
      let others = values_take n a.0.1 b.0 first.0.rest_fits b.1 in
      let made : List V × List ℕ = (a.0.0 ∷ b.0.0, b.0.1) in
      subst (λ (y : List V × List ℕ). TakesValues (suc n) bytes y.0 y.1) {x = made} (ok_is made x b.2) (record {
        takes = Takes-then bytes _ a.0.1 _ b.0.1 first.0 others.takes;
        count = ap suc others.count;
        each = (first.1, others.each);
      })

  routine_takes : (floor : ℕ) (bytes : List ℕ) (x : Routine V × List ℕ) → IsBytes bytes → routine_at format floor bytes ≡ Ok x → Takes bytes (routine_bytes format x.0) x.1 × (floor ≤ x.0.address) × IsRoutine format x.0
  unfolding routine_at
  routine_takes floor bytes x fits e =
      let a = bind_ok (number_at numbers.RoutineAddress bytes) _ _ e in
      let o = bind_ok (address_fits floor a.0.0) _ _ a.2 in
      let b = bind_ok (number_at numbers.LocalCount a.0.1) _ _ o.2 in
      let p = need_ok (nat_le b.0.0 MAX_LOCALS) _ _ _ b.2 in
      let c = bind_ok (format.value_at b.0.1) _ _ p.1 in
      let ta = number_takes numbers.RoutineAddress bytes a.0.0 a.0.1 fits a.1 in
      let tb = number_takes numbers.LocalCount a.0.1 b.0.0 b.0.1 ta.0.rest_fits b.1 in
      let tc = law.takes b.0.1 c.0.0 c.0.1 tb.0.rest_fits c.1 in
      let ab = Takes-then bytes _ a.0.1 _ b.0.1 ta.0 tb.0 in
      let all = Takes-then bytes _ b.0.1 _ c.0.1 ab tc.0 in
      let address = address_is floor a.0.0 o.0 o.1 in
      let made : Routine V × List ℕ = (record { address = a.0.0; locals = b.0.0; result = c.0.0 }, c.0.1) in
      subst (λ (y : Routine V × List ℕ). Takes bytes (routine_bytes format y.0) y.1 × (floor ≤ y.0.address) × IsRoutine format y.0) {x = made} (ok_is made x c.2) (
        all,
        address.0,
        record { address = address.1; locals = leb-true _ _ p.0; result = tc.1 },
      )

  pub record TakesRoutines (n floor : ℕ) (bytes : List ℕ) (rs : List (Routine V)) (rest : List ℕ) : Type 0 where
    pub takes : Takes bytes (flat_map (routine_bytes format) rs) rest
    pub count : length rs ≡ n
    pub each : AllByRecursion (IsRoutine format) rs
    pub rise : Rise (λ (r : Routine V). r.address) floor rs

  routines_take : (n floor : ℕ) (bytes : List ℕ) (x : List (Routine V) × List ℕ) → IsBytes bytes → routines_at format n floor bytes ≡ Ok x → TakesRoutines n floor bytes x.0 x.1
  unfolding routines_at
  routines_take zero floor bytes x fits e =
      let made : List (Routine V) × List ℕ = ([], bytes) in
      subst (λ (y : List (Routine V) × List ℕ). TakesRoutines 0 floor bytes y.0 y.1) {x = made} (ok_is made x e) (record { takes = record { parts = refl; rest_fits = fits }; count = refl; each = tt; rise = tt })
  routines_take (suc n) floor bytes x fits e =
      let a = bind_ok (routine_at format floor bytes) _ _ e in
      let b = bind_ok (routines_at format n (a.0.0.address + 1) a.0.1) _ _ a.2 in
      let first = routine_takes floor bytes a.0 fits a.1 in
      let others = routines_take n (a.0.0.address + 1) a.0.1 b.0 first.0.rest_fits b.1 in
      let made : List (Routine V) × List ℕ = (a.0.0 ∷ b.0.0, b.0.1) in
      subst (λ (y : List (Routine V) × List ℕ). TakesRoutines (suc n) floor bytes y.0 y.1) {x = made} (ok_is made x b.2) (record {
        takes = Takes-then bytes _ a.0.1 _ b.0.1 first.0 others.takes;
        count = ap suc others.count;
        each = (first.2, others.each);
        rise = (first.1, others.rise);
      })

  all_routines_take : (bytes : List ℕ) (x : List (Routine V) × List ℕ) → IsBytes bytes → all_routines_at format bytes ≡ Ok x → Takes bytes (counted numbers.RoutineCount (routine_bytes format) x.0) x.1 × (length x.0 ≤ MAX_ROUTINES) × AllByRecursion (IsRoutine format) x.0 × Rise (λ (r : Routine V). r.address) 0 x.0
  unfolding all_routines_at
  all_routines_take bytes x fits e =
      let a = bind_ok (number_at numbers.RoutineCount bytes) _ _ e in
      let o = need_ok (nat_le a.0.0 MAX_ROUTINES) _ _ _ a.2 in
      let ta = number_takes numbers.RoutineCount bytes a.0.0 a.0.1 fits a.1 in
      let tb = routines_take a.0.0 0 a.0.1 x ta.0.rest_fits o.1 in
      let whole = Takes-then bytes _ a.0.1 _ x.1 ta.0 tb.takes in
      (rw tb.count whole, rw tb.count (leb-true _ _ o.0), tb.each, tb.rise)

  take_each : (n : ℕ) (vs : List V) → AllByRecursion format.Has vs → AllByRecursion format.Has (take n vs)
  take_each zero vs each = tt
  take_each (suc n) [] each = tt
  take_each (suc n) (v ∷ vs) each = (each.0, take_each n vs each.1)

  drop_each : (n : ℕ) (vs : List V) → AllByRecursion format.Has vs → AllByRecursion format.Has (drop n vs)
  drop_each zero vs each = each
  drop_each (suc n) [] each = tt
  drop_each (suc n) (v ∷ vs) each = drop_each n vs each.1

  -- what is known of an instruction that was read
  pub record TakesInstruction (marking : Bool) (routines : List (Routine V)) (floor : ℕ) (bytes : List ℕ) (i : Instruction V) (rest : List ℕ) : Type 0 where
    pub takes : Takes bytes (instruction_bytes format i) rest
    pub above : floor ≤ i.address
    pub is : IsInstruction format routines i
    pub may : IsMarkable marking i

  instruction_takes : (marking : Bool) (routines : List (Routine V)) (floor : ℕ) (bytes : List ℕ) (x : Instruction V × List ℕ) → IsBytes bytes → instruction_at format marking routines floor bytes ≡ Ok x → TakesInstruction marking routines floor bytes x.0 x.1
  unfolding instruction_at
  instruction_takes marking routines floor bytes x fits e =
      let a = bind_ok (number_at numbers.InstructionAddress bytes) _ _ e in
      let o = bind_ok (address_fits floor a.0.0) _ _ a.2 in
      let b = bind_ok (number_at numbers.RoutineNumber a.0.1) _ _ o.2 in
      let p = need_ok (nat_le b.0.0 (length routines)) _ _ _ b.2 in
      let c = bind_ok (number_at numbers.Height b.0.1) _ _ p.1 in
      let height = height_in marking c.0.0 in
      let mark = is_mark marking c.0.0 in
      let q = need_ok (nat_le height MAX_HEIGHT) _ _ _ c.2 in
      let n = locals_of routines b.0.0 in
      let d = bind_ok (values_at format (n + height) c.0.1) _ _ q.1 in
      let ta = number_takes numbers.InstructionAddress bytes a.0.0 a.0.1 fits a.1 in
      let tb = number_takes numbers.RoutineNumber a.0.1 b.0.0 b.0.1 ta.0.rest_fits b.1 in
      let tc = number_takes numbers.Height b.0.1 c.0.0 c.0.1 tb.0.rest_fits c.1 in
      let td = values_take (n + height) c.0.1 d.0 tc.0.rest_fits d.1 in
      let vs = d.0.0 in
      let address = address_is floor a.0.0 o.0 o.1 in
      let locals : length (take n vs) ≡ n = omega (arith, td.count, length-take n vs) in
      let slots : length (drop n vs) ≡ height = omega (arith, td.count, length-drop n vs) in
      let ab = Takes-then bytes _ a.0.1 _ b.0.1 ta.0 tb.0 in
      let abc = Takes-then bytes _ b.0.1 _ c.0.1 ab tc.0 in
      let all = Takes-then bytes _ c.0.1 _ d.0.1 abc td.takes in
      let byte : height_byte mark (length (drop n vs)) ≡ c.0.0 = ap (height_byte mark) slots ∙ byte_again marking c.0.0 in
      let made : Instruction V × List ℕ = (record { address = a.0.0; routine = b.0.0; is_marked = mark; locals = take n vs; slots = drop n vs }, d.0.1) in
      subst (λ (y : Instruction V × List ℕ). TakesInstruction marking routines floor bytes y.0 y.1) {x = made} (ok_is made x d.2) (record {
        takes = rw (byte, take-append-drop n vs) all;
        above = address.0;
        is = record {
          address = address.1;
          routine = leb-true _ _ p.0;
          locals = locals;
          height = rw slots (leb-true _ _ q.0);
          local_values = take_each n vs td.each;
          slot_values = drop_each n vs td.each;
        };
        may = markable marking c.0.0 made.0 refl;
      })

  pub record TakesInstructions (marking : Bool) (routines : List (Routine V)) (n floor : ℕ) (bytes : List ℕ) (is : List (Instruction V)) (rest : List ℕ) : Type 0 where
    pub takes : Takes bytes (flat_map (instruction_bytes format) is) rest
    pub count : length is ≡ n
    pub each : AllByRecursion (IsInstruction format routines) is
    pub rise : Rise (λ (i : Instruction V). i.address) floor is
    pub may : AllByRecursion (IsMarkable marking) is

  instructions_take : (marking : Bool) (routines : List (Routine V)) (n floor : ℕ) (bytes : List ℕ) (x : List (Instruction V) × List ℕ) → IsBytes bytes → instructions_at format marking routines n floor bytes ≡ Ok x → TakesInstructions marking routines n floor bytes x.0 x.1
  unfolding instructions_at
  instructions_take marking routines zero floor bytes x fits e =
      let made : List (Instruction V) × List ℕ = ([], bytes) in
      subst (λ (y : List (Instruction V) × List ℕ). TakesInstructions marking routines 0 floor bytes y.0 y.1) {x = made} (ok_is made x e) (record { takes = record { parts = refl; rest_fits = fits }; count = refl; each = tt; rise = tt; may = tt })
  instructions_take marking routines (suc n) floor bytes x fits e =
      let a = bind_ok (instruction_at format marking routines floor bytes) _ _ e in
      let b = bind_ok (instructions_at format marking routines n (a.0.0.address + 1) a.0.1) _ _ a.2 in
      let first = instruction_takes marking routines floor bytes a.0 fits a.1 in
      let others = instructions_take marking routines n (a.0.0.address + 1) a.0.1 b.0 first.takes.rest_fits b.1 in
      let made : List (Instruction V) × List ℕ = (a.0.0 ∷ b.0.0, b.0.1) in
      subst (λ (y : List (Instruction V) × List ℕ). TakesInstructions marking routines (suc n) floor bytes y.0 y.1) {x = made} (ok_is made x b.2) (record {
        takes = Takes-then bytes _ a.0.1 _ b.0.1 first.takes others.takes;
        count = ap suc others.count;
        each = (first.is, others.each);
        rise = (first.above, others.rise);
        may = (first.may, others.may);
      })

  all_instructions_take : (marking : Bool) (routines : List (Routine V)) (bytes : List ℕ) (x : List (Instruction V) × List ℕ) → IsBytes bytes → all_instructions_at format marking routines bytes ≡ Ok x → Takes bytes (counted numbers.InstructionCount (instruction_bytes format) x.0) x.1 × (length x.0 ≤ MAX_INSTRUCTIONS) × AllByRecursion (IsInstruction format routines) x.0 × Rise (λ (i : Instruction V). i.address) 0 x.0 × AllByRecursion (IsMarkable marking) x.0
  unfolding all_instructions_at
  all_instructions_take marking routines bytes x fits e =
      let a = bind_ok (number_at numbers.InstructionCount bytes) _ _ e in
      let o = need_ok (nat_le a.0.0 MAX_INSTRUCTIONS) _ _ _ a.2 in
      let ta = number_takes numbers.InstructionCount bytes a.0.0 a.0.1 fits a.1 in
      let tb = instructions_take marking routines a.0.0 0 a.0.1 x ta.0.rest_fits o.1 in
      let whole = Takes-then bytes _ a.0.1 _ x.1 ta.0 tb.takes in
      (rw tb.count whole, rw tb.count (leb-true _ _ o.0), tb.each, tb.rise, tb.may)

  -- what is known of a fact that was read
  pub record TakesFact (floor least : ℕ) (bytes : List ℕ) (f : Fact V) (rest : List ℕ) : Type 0 where
    pub takes : Takes bytes (fact_bytes format f) rest
    pub above : floor ≤ f.address
    pub behind : least_global floor least f.address ≤ f.global
    pub is : IsFact format f

  fact_takes : (floor least : ℕ) (bytes : List ℕ) (x : Fact V × List ℕ) → IsBytes bytes → fact_at format floor least bytes ≡ Ok x → TakesFact floor least bytes x.0 x.1
  unfolding fact_at
  fact_takes floor least bytes x fits e =
      let a = bind_ok (number_at numbers.FactAddress bytes) _ _ e in
      let o = bind_ok (address_fits floor a.0.0) _ _ a.2 in
      let b = bind_ok (number_at numbers.FactGlobal a.0.1) _ _ o.2 in
      let p = bind_ok (global_fits (least_global floor least a.0.0) b.0.0) _ _ b.2 in
      let c = bind_ok (format.value_at b.0.1) _ _ p.2 in
      let ta = number_takes numbers.FactAddress bytes a.0.0 a.0.1 fits a.1 in
      let tb = number_takes numbers.FactGlobal a.0.1 b.0.0 b.0.1 ta.0.rest_fits b.1 in
      let tc = law.takes b.0.1 c.0.0 c.0.1 tb.0.rest_fits c.1 in
      let ab = Takes-then bytes _ a.0.1 _ b.0.1 ta.0 tb.0 in
      let all = Takes-then bytes _ b.0.1 _ c.0.1 ab tc.0 in
      let address = address_is floor a.0.0 o.0 o.1 in
      let global = global_is (least_global floor least a.0.0) b.0.0 p.0 p.1 in
      let made : Fact V × List ℕ = (record { address = a.0.0; global = b.0.0; values = c.0.0 }, c.0.1) in
      subst (λ (y : Fact V × List ℕ). TakesFact floor least bytes y.0 y.1) {x = made} (ok_is made x c.2) (record {
        takes = all;
        above = address.0;
        behind = global.0;
        is = record { address = address.1; global = global.1; values = tc.1 };
      })

  pub record TakesFacts (n floor least : ℕ) (bytes : List ℕ) (fs : List (Fact V)) (rest : List ℕ) : Type 0 where
    pub takes : Takes bytes (flat_map (fact_bytes format) fs) rest
    pub count : length fs ≡ n
    pub each : AllByRecursion (IsFact format) fs
    pub rise : FactsRise floor least fs

  facts_take : (n floor least : ℕ) (bytes : List ℕ) (x : List (Fact V) × List ℕ) → IsBytes bytes → facts_from format n floor least bytes ≡ Ok x → TakesFacts n floor least bytes x.0 x.1
  unfolding facts_from
  facts_take zero floor least bytes x fits e =
      let made : List (Fact V) × List ℕ = ([], bytes) in
      subst (λ (y : List (Fact V) × List ℕ). TakesFacts 0 floor least bytes y.0 y.1) {x = made} (ok_is made x e) (record { takes = record { parts = refl; rest_fits = fits }; count = refl; each = tt; rise = tt })
  facts_take (suc n) floor least bytes x fits e =
      let a = bind_ok (fact_at format floor least bytes) _ _ e in
      let b = bind_ok (facts_from format n a.0.0.address (a.0.0.global + 1) a.0.1) _ _ a.2 in
      let first = fact_takes floor least bytes a.0 fits a.1 in
      let others = facts_take n a.0.0.address (a.0.0.global + 1) a.0.1 b.0 first.takes.rest_fits b.1 in
      let made : List (Fact V) × List ℕ = (a.0.0 ∷ b.0.0, b.0.1) in
      subst (λ (y : List (Fact V) × List ℕ). TakesFacts (suc n) floor least bytes y.0 y.1) {x = made} (ok_is made x b.2) (record {
        takes = Takes-then bytes _ a.0.1 _ b.0.1 first.takes others.takes;
        count = ap suc others.count;
        each = (first.is, others.each);
        rise = (first.above, first.behind, others.rise);
      })

  -- what is known of all facts that were read
  pub record TakesStated (stating : Bool) (bytes : List ℕ) (fs : List (Fact V)) (rest : List ℕ) : Type 0 where
    pub takes : Takes bytes (facts_bytes format stating fs) rest
    pub few : length fs ≤ MAX_FACTS
    pub each : AllByRecursion (IsFact format) fs
    pub rise : FactsRise 0 0 fs
    pub stated : AreStated stating fs

  all_facts_take : (stating : Bool) (bytes : List ℕ) (x : List (Fact V) × List ℕ) → IsBytes bytes → all_facts_at format stating bytes ≡ Ok x → TakesStated stating bytes x.0 x.1
  unfolding all_facts_at
  all_facts_take false bytes x fits e =
      let made : List (Fact V) × List ℕ = ([], bytes) in
      subst (λ (y : List (Fact V) × List ℕ). TakesStated false bytes y.0 y.1) {x = made} (ok_is made x e) (record { takes = none_taken bytes fits; few = omega arith; each = tt; rise = tt; stated = refl })
  all_facts_take true bytes x fits e =
      let a = bind_ok (number_at numbers.FactCount bytes) _ _ e in
      let o = need_ok (nat_le a.0.0 MAX_FACTS) _ _ _ a.2 in
      let ta = number_takes numbers.FactCount bytes a.0.0 a.0.1 fits a.1 in
      let tb = facts_take a.0.0 0 0 a.0.1 x ta.0.rest_fits o.1 in
      let whole = Takes-then bytes _ a.0.1 _ x.1 ta.0 tb.takes in
      record { takes = rw tb.count whole; few = rw tb.count (leb-true _ _ o.0); each = tb.each; rise = tb.rise; stated = tt }

  end_is : (c d : Certificate V) (bytes : List ℕ) → at_end format c bytes ≡ Ok d → (c ≡ d) × (bytes ≡ [])
  unfolding at_end
  end_is c d [] e = (ok_is c d e, refl)
  end_is c d (b ∷ bytes) e = absurd cc

  -- what is read is spelled by all of the bytes, and has a spelling
  pub found : (bytes : List ℕ) (c : Certificate V) → IsBytes bytes → reading format bytes ≡ Ok c → (bytes ≡ spelling format c) × HasSpelling format c
  unfolding reading fields_at
  found bytes c fits e =
      let v = bind_ok (heading_at format bytes) _ _ e in
      let i = bind_ok (identity_at v.0.1) _ _ v.2 in
      let edition : Edition = v.0.0 in
      let l = bind_ok (limit_at (is_limited edition) i.0.1) _ _ i.2 in
      let r = bind_ok (all_ranges_at l.0.1) _ _ l.2 in
      let g = bind_ok (values_at format GLOBALS r.0.1) _ _ r.2 in
      let s = bind_ok (all_routines_at format g.0.1) _ _ g.2 in
      let n = bind_ok (all_instructions_at format (is_marking edition) s.0.0 s.0.1) _ _ s.2 in
      let f = bind_ok (all_facts_at format (is_stating edition) n.0.1) _ _ n.2 in
      let tv = heading_takes format bytes v.0 fits v.1 in
      let ti = identity_takes v.0.1 i.0 tv.0.rest_fits i.1 in
      let tl = limit_takes format (is_limited edition) i.0.1 l.0 (may_limit format edition tv.1) ti.0.rest_fits l.1 in
      let tr = all_ranges_take l.0.1 r.0 tl.takes.rest_fits r.1 in
      let tg = values_take GLOBALS r.0.1 g.0 tr.0.rest_fits g.1 in
      let ts = all_routines_take g.0.1 s.0 tg.takes.rest_fits s.1 in
      let tn = all_instructions_take (is_marking edition) s.0.0 s.0.1 n.0 ts.0.rest_fits n.1 in
      let tf = all_facts_take (is_stating edition) n.0.1 f.0 tn.0.rest_fits f.1 in
      let made : Certificate V = record { identity = i.0.0; limit = l.0.0; marking = is_marking edition; stating = is_stating edition; ranges = r.0.0; globals = g.0.0; routines = s.0.0; instructions = n.0.0; facts = f.0.0 } in
      let done = end_is made c f.0.1 f.2 in
      let headed : Takes bytes (heading format (edition_of made)) v.0.1 = rw (edition_again edition l.0.0 tl.named) tv.0 in
      let vi = Takes-then bytes _ v.0.1 _ i.0.1 headed ti.0 in
      let vil = Takes-then bytes _ i.0.1 _ l.0.1 vi tl.takes in
      let vir = Takes-then bytes _ l.0.1 _ r.0.1 vil tr.0 in
      let virg = Takes-then bytes _ r.0.1 _ g.0.1 vir tg.takes in
      let virgs = Takes-then bytes _ g.0.1 _ s.0.1 virg ts.0 in
      let virgsn = Takes-then bytes _ s.0.1 _ n.0.1 virgs tn.0 in
      let all = Takes-then bytes _ n.0.1 _ f.0.1 virgsn tf.takes in
      let whole : bytes ≡ spelling format made = all_taken bytes (spelling format made) f.0.1 all done.1 in
      subst (λ (d : Certificate V). (bytes ≡ spelling format d) × HasSpelling format d) {x = made} done.0 (
        whole,
        record {
          identity = ti.1;
          limit = tl.is;
          marking = may_mark edition l.0.0 tl.named;
          stating = may_state edition;
          few_ranges = tr.1;
          ranges = tr.2;
          ranges_apart = tr.3;
          globals = tg.count;
          global_values = tg.each;
          few_routines = ts.1;
          routines = ts.2;
          routines_rise = ts.3;
          few_instructions = tn.1;
          instructions = tn.2;
          instructions_rise = tn.3;
          instructions_markable = tn.4;
          few_facts = tf.few;
          facts = tf.each;
          facts_rise = tf.rise;
          facts_stated = tf.stated;
        },
      )

-- A certificate that lists the main code alone, with empty stacks, and freezes nothing has a spelling.
use Rattle.std.proofs.Common.{ℕ, zero, suc, ◌+◌, ◌<◌, ◌≤◌, false, None, List, [], ◌∷◌, length, replicate, map, refl, arith}
use Rattle.std.specs.List.{AllByRecursion}
use Rattle.std.proofs.lemmas.List.{length-map}
use Rattle.zstory.specs.declared.identity.Identity.{Identity}
use Rattle.zcert.specs.declared.limits.TheConstants.{ADDRESS_LIMIT, MAX_INSTRUCTIONS}
use Rattle.zcert.specs.Certificate.{Instruction}
use Rattle.zcert.specs.Format.{Format}
use Rattle.zcert.specs.Marks.{IsMarkable}
use Rattle.zcert.specs.Spelling.{IsIdentity, Rise, IsInstruction, HasSpelling}

module _ {V : Type 0} (format : Format V) where
  abbrev bare : ℕ → Instruction V
  bare p = record { address = p; routine = 0; is_marked = false; locals = []; slots = [] }

  each_alike : (n : ℕ) (v : V) → format.Has v → AllByRecursion format.Has (replicate n v)
  each_alike zero v has = tt
  each_alike (suc n) v has = (has, each_alike n v has)

  each_bare : (ps : List ℕ) → AllByRecursion (λ p. p < ADDRESS_LIMIT) ps → AllByRecursion (IsInstruction format []) (map bare ps)
  each_bare [] low = tt
  each_bare (p ∷ ps) low =
      (record { address = low.0; routine = omega arith; locals = refl; height = omega arith; local_values = tt; slot_values = tt }, each_bare ps low.1)

  bare_unmarked : (ps : List ℕ) → AllByRecursion (IsMarkable false) (map bare ps)
  bare_unmarked [] = tt
  bare_unmarked (p ∷ ps) = (refl, bare_unmarked ps)

  bare_rise : (floor : ℕ) (ps : List ℕ) → Rise (λ (p : ℕ). p) floor ps → Rise (λ (i : Instruction V). i.address) floor (map bare ps)
  bare_rise floor [] rise = tt
  bare_rise floor (p ∷ ps) rise = (rise.0, bare_rise (p + 1) ps rise.1)

  pub has_spelling : (i : Identity) (v : V) (ps : List ℕ) → IsIdentity i → format.Has v → length ps ≤ MAX_INSTRUCTIONS → AllByRecursion (λ p. p < ADDRESS_LIMIT) ps → Rise (λ (p : ℕ). p) 0 ps → HasSpelling format (record { identity = i; limit = None; marking = false; stating = false; ranges = []; globals = replicate 240 v; routines = []; instructions = map bare ps; facts = [] })
  has_spelling i v ps identity has few low rise = record {
    identity = identity;
    limit = tt;
    marking = refl;
    stating = refl;
    few_ranges = omega arith;
    ranges = tt;
    ranges_apart = tt;
    globals = refl;
    global_values = each_alike 240 v has;
    few_routines = omega arith;
    routines = tt;
    routines_rise = tt;
    few_instructions = omega (arith, few, length-map ps bare);
    instructions = each_bare ps low;
    instructions_rise = bare_rise 0 ps rise;
    instructions_markable = bare_unmarked ps;
    few_facts = omega arith;
    facts = tt;
    facts_rise = tt;
    facts_stated = refl;
  }

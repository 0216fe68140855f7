-- The sample certificate, computed.
use Rattle.std.proofs.Common.{◌≡◌, ℕ, List, [], ◌∷◌, ◌++◌, replicate, take, drop, false, None, Result, Ok, Err, pos, negsuc, refl, arith, length}
use Rattle.zdomain.specs.declared.interval.Interval.{Interval}
use Rattle.zdomain.specs.Interval.{point, in_order}
use Rattle.zcert.specs.declared.error.CertError.{CertError}
use Rattle.zcert.specs.declared.error.CertError.TheVariants as errors
use Rattle.zcert.specs.Certificate.{Certificate}
use Rattle.zcert.specs.Format.{interval_format}
use Rattle.zcert.specs.Reading.{reading, fields_at, heading_at, magic_at, version_at, identity_at, limit_at, range_at, ranges_at, all_ranges_at, values_at, routine_at, routines_at, all_routines_at, instruction_at, instructions_at, all_instructions_at, all_facts_at, at_end}
use Rattle.zcert.specs.Spelling.{spelling, IsIdentity, HasSpelling}
use Rattle.zcert.proofs.Bare.{has_spelling}

front : List ℕ
front = 0x5A ∷ 0x50 ∷ 0x43 ∷ 0x43 ∷ 1 ∷ 0x00 ∷ 0x01 ∷ 0x32 ∷ 0x36 ∷ 0x30 ∷ 0x31 ∷ 0x30 ∷ 0x31 ∷ 0x3A ∷ 0x7A ∷ 0x00 ∷ 0x00 ∷ 0x03 ∷ 0x2A ∷ 0 ∷ 0 ∷ []

back : List ℕ
back = 0 ∷ 0 ∷ 0 ∷ 0 ∷ 0 ∷ 2 ∷ 0 ∷ 0 ∷ 3 ∷ 0x24 ∷ 0 ∷ 0 ∷ 0 ∷ 0 ∷ 0 ∷ 3 ∷ 0x29 ∷ 0 ∷ 0 ∷ 0 ∷ []

sample : List ℕ
sample = front ++ replicate 960 0 ++ back

certificate : Certificate Interval
certificate = record {
  identity = record { release = 1; serial = 0x32 ∷ 0x36 ∷ 0x30 ∷ 0x31 ∷ 0x30 ∷ 0x31 ∷ []; checksum = 0x3A7A; length = 0x32A };
  limit = None;
  marking = false;
  stating = false;
  ranges = [];
  globals = replicate 240 (point 0);
  routines = [];
  instructions = record { address = 0x324; routine = 0; is_marked = false; locals = []; slots = [] } ∷ record { address = 0x329; routine = 0; is_marked = false; locals = []; slots = [] } ∷ [];
  facts = [];
}

spelled : spelling interval_format certificate ≡ sample
unfolding certificate sample front back
spelled = refl

long : length sample ≡ 1001
unfolding sample front back
long = refl

read : reading interval_format sample ≡ Ok certificate
unfolding certificate sample front back reading heading_at magic_at version_at fields_at identity_at limit_at range_at ranges_at all_ranges_at values_at routine_at routines_at all_routines_at instruction_at instructions_at all_instructions_at all_facts_at at_end
read = refl

-- what it says has a spelling
has : HasSpelling interval_format certificate
unfolding certificate
has = has_spelling interval_format _ (point 0) (0x324 ∷ 0x329 ∷ []) identity (omega arith, omega arith) (omega arith) (omega arith, (omega arith, tt)) (omega arith, (omega arith, tt))
  where
    identity : IsIdentity certificate.identity
    identity = record {
      release = omega arith;
      serial = refl;
      serial_bytes = (omega arith, (omega arith, (omega arith, (omega arith, (omega arith, (omega arith, tt))))));
      checksum = omega arith;
      loaded_length = omega arith;
    }

-- a part more than may be counted, or a global too few
none_has :
    ((c : Certificate Interval) → length c.instructions ≡ 131073 → HasSpelling interval_format c → ⊥)
    × ((c : Certificate Interval) → length c.ranges ≡ 65536 → HasSpelling interval_format c → ⊥)
    × ((c : Certificate Interval) → length c.routines ≡ 65536 → HasSpelling interval_format c → ⊥)
    × ((c : Certificate Interval) → length c.globals ≡ 239 → HasSpelling interval_format c → ⊥)
none_has = (
  λ c e h. omega (arith, e, h.few_instructions),
  λ c e h. omega (arith, e, h.few_ranges),
  λ c e h. omega (arith, e, h.few_routines),
  λ c e h. omega (arith, e, h.globals),
)

one_more : reading interval_format (sample ++ 0 ∷ []) ≡ Err errors.Trailing
unfolding sample front back reading heading_at magic_at version_at fields_at identity_at limit_at range_at ranges_at all_ranges_at values_at routine_at routines_at all_routines_at instruction_at instructions_at all_instructions_at all_facts_at at_end
one_more = refl

-- what alterations make of it
altered : List ℕ → List ℕ → Result (Certificate Interval) CertError
altered before after = reading interval_format (before ++ replicate 956 0 ++ after)

version_two : altered (0x5A ∷ 0x50 ∷ 0x43 ∷ 0x43 ∷ 9 ∷ []) [] ≡ Err errors.Version
unfolding altered reading heading_at magic_at version_at
version_two = refl

-- the first global from 1 to 0
empty_global : altered (front ++ 0 ∷ 1 ∷ 0 ∷ 0 ∷ []) [] ≡ Err errors.EmptyInterval
unfolding altered front reading heading_at magic_at version_at fields_at identity_at limit_at range_at ranges_at all_ranges_at values_at
empty_global = refl

-- one instruction, three, 131,073, and one address twice
counts : (altered (front ++ 0 ∷ 0 ∷ 0 ∷ 0 ∷ []) (0 ∷ 0 ∷ 0 ∷ 0 ∷ 0 ∷ 1 ∷ drop 6 back) ≡ Err errors.Trailing) × (altered (front ++ 0 ∷ 0 ∷ 0 ∷ 0 ∷ []) (0 ∷ 0 ∷ 0 ∷ 0 ∷ 0 ∷ 3 ∷ drop 6 back) ≡ Err errors.Truncated) × (altered (front ++ 0 ∷ 0 ∷ 0 ∷ 0 ∷ []) (0 ∷ 0 ∷ 0 ∷ 2 ∷ 0 ∷ 1 ∷ drop 6 back) ≡ Err errors.Limit) × (altered (front ++ 0 ∷ 0 ∷ 0 ∷ 0 ∷ []) (0 ∷ 0 ∷ 0 ∷ 0 ∷ 0 ∷ 2 ∷ 0 ∷ 0 ∷ 3 ∷ 0x29 ∷ drop 10 back) ≡ Err errors.Order)
unfolding altered front back reading heading_at magic_at version_at fields_at identity_at limit_at range_at ranges_at all_ranges_at values_at routine_at routines_at all_routines_at instruction_at instructions_at all_instructions_at all_facts_at at_end
counts = (refl, refl, refl, refl)

-- ---- one with stacks of none, one and two slots, the bottom one first

stacked : Certificate Interval
stacked = record certificate {
  instructions = record { address = 0x324; routine = 0; is_marked = false; locals = []; slots = [] }
      ∷ record { address = 0x326; routine = 0; is_marked = false; locals = []; slots = point 5 ∷ [] }
      ∷ record { address = 0x329; routine = 0; is_marked = false; locals = []; slots = point 5 ∷ record { lo = negsuc 0; hi = pos 3; ordered = in_order (negsuc 0) (pos 3) refl } ∷ [] }
      ∷ [];
}

stacks : List ℕ
stacks = 0 ∷ 0 ∷ 0 ∷ 0 ∷ 0 ∷ 3
    ∷ 0 ∷ 0 ∷ 3 ∷ 0x24 ∷ 0 ∷ 0 ∷ 0
    ∷ 0 ∷ 0 ∷ 3 ∷ 0x26 ∷ 0 ∷ 0 ∷ 1 ∷ 0 ∷ 5 ∷ 0 ∷ 5
    ∷ 0 ∷ 0 ∷ 3 ∷ 0x29 ∷ 0 ∷ 0 ∷ 2 ∷ 0 ∷ 5 ∷ 0 ∷ 5 ∷ 0xFF ∷ 0xFF ∷ 0 ∷ 3
    ∷ []

stacks_spelled : spelling interval_format stacked ≡ front ++ replicate 960 0 ++ stacks
unfolding stacked certificate front stacks
stacks_spelled = refl

stacks_read : reading interval_format (front ++ replicate 960 0 ++ stacks) ≡ Ok stacked
unfolding stacked certificate front stacks reading heading_at magic_at version_at fields_at identity_at limit_at range_at ranges_at all_ranges_at values_at routine_at routines_at all_routines_at instruction_at instructions_at all_instructions_at all_facts_at at_end
stacks_read = refl

-- a slot less is there, and a slot more
slots_counted : (reading interval_format (front ++ replicate 960 0 ++ take 38 stacks) ≡ Err errors.Truncated) × (reading interval_format (front ++ replicate 960 0 ++ stacks ++ 0 ∷ 1 ∷ 0 ∷ 1 ∷ []) ≡ Err errors.Trailing)
unfolding front stacks reading heading_at magic_at version_at fields_at identity_at limit_at range_at ranges_at all_ranges_at values_at routine_at routines_at all_routines_at instruction_at instructions_at all_instructions_at all_facts_at at_end
slots_counted = (refl, refl)

-- ---- one with a frozen range, a routine of two locals, and an instruction of it with a slot

whole : Certificate Interval
whole = record certificate {
  ranges = record { first = 64; last = 66 } ∷ [];
  routines = record { address = 0x32A; locals = 2; result = point 1 } ∷ [];
  instructions = record { address = 0x324; routine = 0; is_marked = false; locals = []; slots = [] }
      ∷ record { address = 0x32F; routine = 1; is_marked = false; locals = point 2 ∷ point 3 ∷ []; slots = point 4 ∷ [] }
      ∷ [];
}

before_globals : List ℕ
before_globals = take 19 front ++ 0 ∷ 1 ∷ 0 ∷ 64 ∷ 0 ∷ 66 ∷ []

after_globals : List ℕ
after_globals = 0 ∷ 1 ∷ 0 ∷ 0 ∷ 3 ∷ 0x2A ∷ 2 ∷ 0 ∷ 1 ∷ 0 ∷ 1
    ∷ 0 ∷ 0 ∷ 0 ∷ 2
    ∷ 0 ∷ 0 ∷ 3 ∷ 0x24 ∷ 0 ∷ 0 ∷ 0
    ∷ 0 ∷ 0 ∷ 3 ∷ 0x2F ∷ 0 ∷ 1 ∷ 1 ∷ 0 ∷ 2 ∷ 0 ∷ 2 ∷ 0 ∷ 3 ∷ 0 ∷ 3 ∷ 0 ∷ 4 ∷ 0 ∷ 4
    ∷ []

whole_spelled : spelling interval_format whole ≡ before_globals ++ replicate 960 0 ++ after_globals
unfolding whole certificate before_globals after_globals front
whole_spelled = refl

whole_read : reading interval_format (before_globals ++ replicate 960 0 ++ after_globals) ≡ Ok whole
unfolding whole certificate before_globals after_globals front reading heading_at magic_at version_at fields_at identity_at limit_at range_at ranges_at all_ranges_at values_at routine_at routines_at all_routines_at instruction_at instructions_at all_instructions_at all_facts_at at_end
whole_read = refl

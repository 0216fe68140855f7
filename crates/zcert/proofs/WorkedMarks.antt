-- Values of version 4 of the format, computed.
use Rattle.std.proofs.Common.{◌≡◌, true, false, ℕ, List, [], ◌∷◌, ◌++◌, replicate, None, Some, Ok, Err, refl, arith, take, drop, zero, suc}
use Rattle.std.specs.List.{AllByRecursion}
use Rattle.zdomain.specs.declared.values.Values.{Values}
use Rattle.zdomain.specs.declared.values.Values.TheVariants.{Run}
use Rattle.zdomain.specs.Interval.{point}
use Rattle.zcert.specs.declared.edition.Edition.TheVariants as editions
use Rattle.zcert.specs.declared.error.CertError.TheVariants as errors
use Rattle.zcert.specs.declared.field.Field.TheVariants as fields
use Rattle.zcert.specs.declared.field.Turn.TheVariants as turns
use Rattle.zcert.specs.declared.limits.TheConstants.{MARK, MARK_VERSION}
use Rattle.zcert.specs.Certificate.{Certificate, Instruction, edition_of}
use Rattle.zcert.specs.Editions.{is_limited, is_marking, is_stating, edition_by}
use Rattle.zcert.specs.Format.{version_of}
use Rattle.zcert.specs.Lists.{values_format}
use Rattle.zcert.specs.Marks.{height_byte, is_mark, without, height_in, IsMarkable, marks}
use Rattle.zcert.specs.Spelling.{instruction_bytes, spelling, MayMark, MayState, HasSpelling}
use Rattle.zcert.specs.Reading.{edition_where, reading, fields_at, heading_at, magic_at, version_at, identity_at, limit_at, range_at, ranges_at, all_ranges_at, values_at, routine_at, routines_at, all_routines_at, instruction_at, instructions_at, all_instructions_at, all_facts_at, at_end}
use Rattle.zcert.specs.Building.{Progress, opening, header_of, taken, Adds}

-- ---- the mark

mark : (MARK ≡ 128) × (MARK_VERSION ≡ 4)
mark = (refl, refl)

bytes : (height_byte false 0 ≡ 0) × (height_byte true 0 ≡ 0x80) × (height_byte false 64 ≡ 0x40) × (height_byte true 64 ≡ 0xC0)
bytes = (refl, refl, refl, refl)

-- bit 6 is none, and where no instruction may be marked bit 7 is part of the height
marked : (is_mark true 0x80 ≡ true) × (is_mark true 0x7F ≡ false) × (is_mark true 0x40 ≡ false) × (is_mark true 0xFF ≡ true) × (is_mark false 0x80 ≡ false)
marked = (refl, refl, refl, refl, refl)

heights : (height_in true 0x80 ≡ 0) × (height_in true 0xC1 ≡ 65) × (height_in true 0x41 ≡ 65) × (height_in false 0x80 ≡ 128) × (without true 0x81 ≡ 1) × (without false 0x81 ≡ 0x81)
heights = (refl, refl, refl, refl, refl, refl)

-- ---- editions

editions_told : (is_limited editions.Plain ≡ false) × (is_limited editions.Limited ≡ true) × (is_limited editions.Marking ≡ true) × (is_limited editions.Stating ≡ true) × (is_marking editions.Plain ≡ false) × (is_marking editions.Limited ≡ false) × (is_marking editions.Marking ≡ true) × (is_marking editions.Stating ≡ true) × (is_stating editions.Plain ≡ false) × (is_stating editions.Limited ≡ false) × (is_stating editions.Marking ≡ false) × (is_stating editions.Stating ≡ true)
editions_told = (refl, refl, refl, refl, refl, refl, refl, refl, refl, refl, refl, refl)

editions_had : (edition_by None false false ≡ editions.Plain) × (edition_by (Some 0) false false ≡ editions.Limited) × (edition_by (Some 0) true false ≡ editions.Marking) × (edition_by (Some 0) true true ≡ editions.Stating) × (MayMark None true → ⊥) × MayMark (Some 0) true × MayMark (Some 0) false × MayMark None false × MayState true true × MayState true false × MayState false false × (MayState false true → ⊥)
editions_had = (refl, refl, refl, refl, (λ e. absurd cc), tt, tt, refl, tt, tt, refl, (λ e. absurd cc))

-- the plain version is looked for before the others
editions_found : (edition_where true true true true ≡ Ok editions.Plain) × (edition_where false true true true ≡ Ok editions.Limited) × (edition_where false false true true ≡ Ok editions.Marking) × (edition_where false false false true ≡ Ok editions.Stating) × (edition_where false false false false ≡ Err errors.Version)
editions_found = (refl, refl, refl, refl, refl)

-- ---- an instruction

-- a marked one of the main code, with 5 in its slot
one : Instruction Values
one = record { address = 0x326; routine = 0; is_marked = true; locals = []; slots = Run (point 5) ∷ [] }

spelled : (instruction_bytes values_format one ≡ 0 ∷ 0 ∷ 3 ∷ 0x26 ∷ 0 ∷ 0 ∷ 0x81 ∷ 0 ∷ 0 ∷ 5 ∷ 0 ∷ 5 ∷ []) × (instruction_bytes values_format (record one { is_marked = false }) ≡ 0 ∷ 0 ∷ 3 ∷ 0x26 ∷ 0 ∷ 0 ∷ 1 ∷ 0 ∷ 0 ∷ 5 ∷ 0 ∷ 5 ∷ [])
unfolding one
spelled = (refl, refl)

read : (instruction_at values_format true [] 0 (0 ∷ 0 ∷ 3 ∷ 0x26 ∷ 0 ∷ 0 ∷ 0x81 ∷ 0 ∷ 0 ∷ 5 ∷ 0 ∷ 5 ∷ 9 ∷ []) ≡ Ok (one, 9 ∷ [])) × (instruction_at values_format true [] 0 (0 ∷ 0 ∷ 3 ∷ 0x26 ∷ 0 ∷ 0 ∷ 1 ∷ 0 ∷ 0 ∷ 5 ∷ 0 ∷ 5 ∷ []) ≡ Ok (record one { is_marked = false }, [])) × (instruction_at values_format false [] 0 (0 ∷ 0 ∷ 3 ∷ 0x26 ∷ 0 ∷ 0 ∷ 0x81 ∷ 0 ∷ 0 ∷ 5 ∷ 0 ∷ 5 ∷ []) ≡ Err errors.Limit)
unfolding one instruction_at values_at
read = (refl, refl, refl)

-- a height of 64 is let pass with its mark, and then the first slot is missing; one of 65 isn't, whatever follows
limits : (instruction_at values_format true [] 0 (0 ∷ 0 ∷ 3 ∷ 0x26 ∷ 0 ∷ 0 ∷ 0xC0 ∷ []) ≡ Err errors.Truncated) × (instruction_at values_format true [] 0 (0 ∷ 0 ∷ 3 ∷ 0x26 ∷ 0 ∷ 0 ∷ 0xC1 ∷ []) ≡ Err errors.Limit) × (instruction_at values_format true [] 0 (0 ∷ 0 ∷ 3 ∷ 0x26 ∷ 0 ∷ 0 ∷ 0x40 ∷ []) ≡ Err errors.Truncated) × (instruction_at values_format true [] 0 (0 ∷ 0 ∷ 3 ∷ 0x26 ∷ 0 ∷ 0 ∷ 0x41 ∷ []) ≡ Err errors.Limit) × (instruction_at values_format true [] 0 (0 ∷ 0 ∷ 3 ∷ 0x26 ∷ 0 ∷ 0 ∷ 0x7F ∷ []) ≡ Err errors.Limit) × (instruction_at values_format false [] 0 (0 ∷ 0 ∷ 3 ∷ 0x26 ∷ 0 ∷ 0 ∷ 0x80 ∷ []) ≡ Err errors.Limit)
unfolding instruction_at values_at
limits = (refl, refl, refl, refl, refl, refl)

-- ---- field by field

at_height : Progress Values
at_height = record (opening editions.Marking) { turn = turns.Height 0 0x326 0 }

header_made : header_of at_height 0x326 0 0x81 ≡ record { address = 0x326; routine = 0; locals = 0; height = 1; is_marked = true }
unfolding at_height
header_made = refl

-- a marked one without values is whole with its height
fields_taken :
    (taken at_height (fields.Height 0x80) ≡ Ok (record at_height { content = record at_height.content { instructions = record one { slots = [] } ∷ [] }; floor = 0x327; turn = turns.Complete }))
    × (taken at_height (fields.Height 0xC1) ≡ Err errors.Limit)
    × (taken (record (opening {V = Values} editions.Limited) { turn = turns.Height 0 0x326 0 }) (fields.Height 0x80) ≡ Err errors.Limit)
    × Adds at_height (fields.Height 0x80)
    × (Adds at_height (fields.Height 0x81) → ⊥)
unfolding at_height one
fields_taken = (refl, refl, refl, refl, λ a. omega (arith, a))

-- ---- a certificate, of which two instructions of three are marked

front : List ℕ
front = 0x5A ∷ 0x50 ∷ 0x43 ∷ 0x43 ∷ 4 ∷ 0x00 ∷ 0x01 ∷ 0x32 ∷ 0x36 ∷ 0x30 ∷ 0x31 ∷ 0x30 ∷ 0x31 ∷ 0x3A ∷ 0x7A ∷ 0x00 ∷ 0x00 ∷ 0x03 ∷ 0x2A ∷ 0 ∷ 16 ∷ 0 ∷ 0 ∷ []

back : List ℕ
back = 0 ∷ 0 ∷ 0 ∷ 0 ∷ 0 ∷ 3 ∷ 0 ∷ 0 ∷ 3 ∷ 0x24 ∷ 0 ∷ 0 ∷ 0 ∷ 0 ∷ 0 ∷ 3 ∷ 0x26 ∷ 0 ∷ 0 ∷ 0x81 ∷ 0 ∷ 0 ∷ 5 ∷ 0 ∷ 5 ∷ 0 ∷ 0 ∷ 3 ∷ 0x29 ∷ 0 ∷ 0 ∷ 0x80 ∷ []

certificate : Certificate Values
certificate = record {
  identity = record { release = 1; serial = 0x32 ∷ 0x36 ∷ 0x30 ∷ 0x31 ∷ 0x30 ∷ 0x31 ∷ []; checksum = 0x3A7A; length = 0x32A };
  limit = Some 16;
  marking = true;
  stating = false;
  ranges = [];
  globals = replicate 240 (Run (point 0));
  routines = [];
  instructions = record { address = 0x324; routine = 0; is_marked = false; locals = []; slots = [] } ∷ one ∷ record { address = 0x329; routine = 0; is_marked = true; locals = []; slots = [] } ∷ [];
  facts = [];
}

certificate_spelled : spelling values_format certificate ≡ front ++ replicate 1200 0 ++ back
unfolding certificate one front back
certificate_spelled = refl

certificate_read : reading values_format (front ++ replicate 1200 0 ++ back) ≡ Ok certificate
unfolding certificate one front back reading heading_at magic_at version_at fields_at identity_at limit_at range_at ranges_at all_ranges_at values_at routine_at routines_at all_routines_at instruction_at instructions_at all_instructions_at all_facts_at at_end
certificate_read = refl

counted : (marks certificate.instructions ≡ 2) × (marks {V = Values} [] ≡ 0) × (marks (record one { is_marked = false } ∷ []) ≡ 0) × (edition_of certificate ≡ editions.Marking) × (version_of values_format (edition_of certificate) ≡ 4)
unfolding certificate one
counted = (refl, refl, refl, refl, refl)

-- without its marks it is another one of version 4; with them it has no spelling in version 3, nor one that names no limit
markable : IsMarkable true one × (IsMarkable false one → ⊥) × IsMarkable false (record one { is_marked = false }) × (HasSpelling values_format (record certificate { marking = false }) → ⊥) × (HasSpelling values_format (record certificate { limit = None }) → ⊥)
unfolding one certificate
markable = (tt, (λ e. absurd cc), refl, (λ has. absurd (let e = has.instructions_markable.1.0 in cc)), λ has. absurd (let e = has.marking in cc))

-- in version 3 its second instruction has a height above the limit, in version 5 the count of facts is missing, and in version 6
-- nothing is read
as_version : ℕ → List ℕ
as_version n = take 4 front ++ (n ∷ (drop 5 front ++ (replicate 1200 0 ++ back)))

in_others : (reading values_format (as_version 3) ≡ Err errors.Limit) × (reading values_format (as_version 5) ≡ Err errors.Truncated) × (reading values_format (as_version 6) ≡ Err errors.Version) × (reading values_format (as_version 4) ≡ Ok certificate)
unfolding as_version certificate one front back reading heading_at magic_at version_at fields_at identity_at limit_at range_at ranges_at all_ranges_at values_at routine_at routines_at all_routines_at instruction_at instructions_at all_instructions_at all_facts_at at_end
in_others = (refl, refl, refl, refl)

each_alike : (n : ℕ) (v : Values) → values_format.Has v → AllByRecursion values_format.Has (replicate n v)
each_alike zero v has = tt
each_alike (suc n) v has = (has, each_alike n v has)

has : HasSpelling values_format certificate
unfolding certificate one
has = record {
  identity = record {
    release = omega arith;
    serial = refl;
    serial_bytes = (omega arith, (omega arith, (omega arith, (omega arith, (omega arith, (omega arith, tt))))));
    checksum = omega arith;
    loaded_length = omega arith;
  };
  limit = (refl, omega arith);
  marking = tt;
  stating = tt;
  few_ranges = omega arith;
  ranges = tt;
  ranges_apart = tt;
  globals = refl;
  global_values = each_alike 240 (Run (point 0)) (omega arith, omega arith);
  few_routines = omega arith;
  routines = tt;
  routines_rise = tt;
  few_instructions = omega arith;
  instructions = (
    record { address = omega arith; routine = omega arith; locals = refl; height = omega arith; local_values = tt; slot_values = tt },
    (
      record { address = omega arith; routine = omega arith; locals = refl; height = omega arith; local_values = tt; slot_values = ((omega arith, omega arith), tt) },
      (record { address = omega arith; routine = omega arith; locals = refl; height = omega arith; local_values = tt; slot_values = tt }, tt),
    ),
  );
  instructions_rise = (omega arith, (omega arith, (omega arith, tt)));
  instructions_markable = (tt, (tt, (tt, tt)));
  few_facts = omega arith;
  facts = tt;
  facts_rise = tt;
  facts_stated = refl;
}

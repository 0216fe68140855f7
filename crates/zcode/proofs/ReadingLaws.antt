-- Laws of reading and spelling.
use Rattle.std.proofs.Common.{◌≡◌, ℕ, ◌<◌, ◌≤◌, ◌+◌, ◌-◌, List, [], ◌++◌, length, get_or, Result, Ok, Err, refl, sym, ap, ◌∙◌, take, drop, arith, length-append, length-drop, ◌↔◌}
use Rattle.std.proofs.lemmas.List.{take_at, ext_get_or, get_or-take, get_or-drop, take-append-drop, length-take, drop_all}
use Rattle.std.specs.Prelude.{IfOk}
use Rattle.zcode.specs.declared.error.DecodeError.{DecodeError}
use Rattle.zcode.specs.declared.error.DecodeError.TheVariants.{Truncated}
use Rattle.zcode.specs.Instruction.{Instruction}
use Rattle.zcode.specs.Spelling.{IsAtFront, Spells}
use Rattle.zcode.specs.Reading.{Agree, head_at, instruction_at}
use Rattle.zcode.proofs.Found.{found, well_formed}
use Rattle.zcode.proofs.Only.{only}

-- ---- what the clauses of `decode` say, from what it answers

pub nothing_there : instruction_at [] ≡ Err Truncated
unfolding instruction_at head_at
nothing_there = refl

pub nothing_past : (memory : List ℕ) (at : ℕ) → length memory ≤ at → Err Truncated ≡ instruction_at (drop at memory)
nothing_past memory at past = rw (drop_all at memory past) (sym nothing_there)

pub found_if : (r : Result Instruction DecodeError) (bytes : List ℕ) → r ≡ instruction_at bytes → IfOk r (λ i. IsAtFront bytes i)
found_if (Ok i) bytes e = found bytes i (sym e)
found_if (Err d) bytes e = tt

pub only_if : (r : Result Instruction DecodeError) (bytes : List ℕ) → r ≡ instruction_at bytes → (i : Instruction) → IsAtFront bytes i → r ≡ Ok i
only_if r bytes e i s = e ∙ only bytes i s

size_within : (bytes : List ℕ) (i : Instruction) → IsAtFront bytes i → i.size ≤ length bytes
size_within bytes i (front, rest, parts, s) = rw (s.size_is, parts) (omega (arith, length-append front rest))

pub within : (memory : List ℕ) (at : ℕ) (i : Instruction) → instruction_at (drop at memory) ≡ Ok i → at + i.size ≤ length memory
within memory at i e =
    let positive = (well_formed (drop at memory) i e).size in
    let fits = size_within (drop at memory) i (found (drop at memory) i e) in
    omega (arith, length-drop at memory)

pub within_if : (r : Result Instruction DecodeError) (memory : List ℕ) (at : ℕ) → r ≡ instruction_at (drop at memory) → IfOk r (λ i. at + i.size ≤ length memory)
within_if (Ok i) memory at e = within memory at i (sym e)
within_if (Err d) memory at e = tt

pub reads_iff_spelled : (bytes : List ℕ) (i : Instruction) → (instruction_at bytes ≡ Ok i) ↔ IsAtFront bytes i
reads_iff_spelled bytes i =
    (found bytes i, only bytes i)

-- ---- at most one instruction is spelled

some_instruction : (i j : Instruction) (r : Result Instruction DecodeError) → r ≡ Ok i → r ≡ Ok j → i ≡ j
some_instruction i j r p q = cc

pub one_instruction : (bytes : List ℕ) (i j : Instruction) → IsAtFront bytes i → IsAtFront bytes j → i ≡ j
one_instruction bytes i j p q = some_instruction i j (instruction_at bytes) (only bytes i p) (only bytes j q)

pub one_front : (a b x y : List ℕ) (i j : Instruction) → Spells a i → Spells b j → a ++ x ≡ b ++ y → (a ≡ b) × (i ≡ j)
one_front a b x y i j p q e =
    let same : i ≡ j = one_instruction (a ++ x) i j (a, x, refl, p) (b, y, e, q) in
    let long : length a ≡ length b = sym p.size_is ∙ ap (λ (k : Instruction). k.size) same ∙ q.size_is in
    (sym (take_at a x (length b) long) ∙ ap (λ (xs : List ℕ). take (length b) xs) e ∙ take_at b y (length b) refl, same)

-- ---- reading depends on the bytes of the instruction alone

same_front : (before now front rest : List ℕ) (at n : ℕ) → Agree before now at n → drop at before ≡ front ++ rest → n ≡ length front → 0 < n → take n (drop at now) ≡ front
same_front before now front rest at n same parts long positive =
    let whole : length before - at ≡ length front + length rest = sym (length-drop at before) ∙ ap length parts ∙ length-append front rest in
    let room : n ≤ length (drop at now) = rw length-drop (omega (arith, same.size_is)) in
    let fits : length (take n (drop at now)) ≡ n = rw length-take (omega arith) in
    let front_is : take n (drop at before) ≡ front = ap (λ (xs : List ℕ). take n xs) parts ∙ take_at front rest n (sym long) in
    ext_get_or 0 _ _ (fits ∙ long) (λ k h.
    let below : k < n = omega arith in
    get_or-take n (drop at now) k 0 below ∙ get_or-drop at now k 0 ∙ same.bytes k below ∙ sym (get_or-drop at before k 0) ∙ sym (get_or-take n (drop at before) k 0 below) ∙ ap (λ (xs : List ℕ). get_or xs k 0) front_is)

pub kept : (before now : List ℕ) (at : ℕ) (i : Instruction) → instruction_at (drop at before) ≡ Ok i → Agree before now at i.size → instruction_at (drop at now) ≡ Ok i
kept before now at i e same =
    let f = found (drop at before) i e in
    let front = f.0 in
    let positive = (well_formed (drop at before) i e).size in
    let front_is : take i.size (drop at now) ≡ front = same_front before now front f.1 at i.size same f.2 f.3.size_is positive in
    let parts : drop at now ≡ front ++ drop i.size (drop at now) = sym (take-append-drop i.size (drop at now)) ∙ ap (λ (xs : List ℕ). xs ++ drop i.size (drop at now)) front_is in
    only (drop at now) i (front, drop i.size (drop at now), parts, f.3)

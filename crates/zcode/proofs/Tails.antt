-- What is left of memory as an instruction is read.
use Rattle.std.proofs.Common.{◌≡◌, ℕ, ◌-◌, List, ◌++◌, length, take, drop, Ok, Option, Bool, sym, ap, ◌∙◌, append_assoc, arith, length-append}
use Rattle.std.proofs.lemmas.List.{take-append-drop}
use Rattle.std.proofs.Math.Seq.{drop-append_seam}
use Rattle.std.specs.Option.{option_to_list}
use Rattle.zcode.specs.declared.types.OperandType.{OperandType}
use Rattle.zcode.specs.declared.instr.Operand.{Operand}
use Rattle.zcode.specs.declared.instr.Branch.{Branch}
use Rattle.zcode.specs.Reading.{Head, head_at, operands_at, store_if, branch_if}
use Rattle.zcode.proofs.FoundHead.{found_head}
use Rattle.zcode.proofs.FoundParts.{found_operands, found_store, found_branch_if}

-- the bytes are the last ones of memory
abbrev pub IsTail : List ℕ → List ℕ → Type 0
IsTail memory bytes = bytes ≡ drop (length memory - length bytes) memory

last_are : (memory front rest : List ℕ) → memory ≡ front ++ rest → IsTail memory rest
last_are memory front rest e =
    let long : length memory - length rest ≡ length front = rw e (omega (arith, length-append front rest)) in
    sym (drop-append_seam front rest) ∙ ap (drop (length front)) (sym e) ∙ ap (λ (k : ℕ). drop k memory) (sym long)

-- those from a place on are
pub tail_at : (memory : List ℕ) (at : ℕ) → IsTail memory (drop at memory)
tail_at memory at = last_are memory (take at memory) (drop at memory) (sym (take-append-drop at memory))

-- and so is what is left of them
pub tail_after : (memory bytes front rest : List ℕ) → IsTail memory bytes → bytes ≡ front ++ rest → IsTail memory rest
tail_after memory bytes front rest tail e =
    let before = take (length memory - length bytes) memory in
    let whole : memory ≡ before ++ bytes = sym (take-append-drop (length memory - length bytes) memory) ∙ ap (λ (xs : List ℕ). before ++ xs) (sym tail) in
    last_are memory (before ++ front) rest (whole ∙ ap (λ (xs : List ℕ). before ++ xs) e ∙ sym (append_assoc before front rest))

-- what comes before a text leaves the last bytes
pub text_tail : (memory bytes : List ℕ) (head : Head) (after_head : List ℕ) (ts : List OperandType) (operands : List Operand) (after_operands : List ℕ) (stores : Bool) (store : Option ℕ) (after_store : List ℕ) (branches : Bool) (branch : Option Branch) (rest : List ℕ) → IsTail memory bytes → head_at bytes ≡ Ok (head, after_head) → operands_at ts after_head ≡ Ok (operands, after_operands) → store_if stores after_operands ≡ Ok (store, after_store) → branch_if branches after_store ≡ Ok (branch, rest) → IsTail memory rest
text_tail memory bytes head after_head ts operands after_operands stores store after_store branches branch rest tail h o s b =
    let hf = found_head bytes head after_head h in
    let of = found_operands ts after_head operands after_operands o in
    let sf = found_store stores after_operands store after_store s in
    let bf = found_branch_if branches after_store branch rest b in
    let one = tail_after memory bytes hf.front after_head tail hf.whole in
    let two = tail_after memory after_head of.0 after_operands one of.1 in
    let three = tail_after memory after_operands (option_to_list store) after_store two sf.0 in
    tail_after memory after_store bf.0 rest three bf.1

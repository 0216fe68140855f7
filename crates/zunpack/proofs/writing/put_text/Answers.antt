use Rattle.std.proofs.Common.{◌≡◌, ℕ, ◌+◌, ◌++◌, List, length, sym, ap, ◌∙◌}
use Rattle.std.specs.List.{flat_map}
use Rattle.byteorder.specs.Endian.{big_bytes}
use Rattle.zquetzal.specs.declared.limits.TheConstants.{FORM, IFZS, UMEM}
use Rattle.zquetzal.specs.Grammar.{chunk_bytes}
use Rattle.zunpack.specs.Packing.{changed}
use Rattle.zunpack.specs.PackedSave.{dynamic_of}
use Rattle.zunpack.specs.View.{plain_chunks, plain_header, plain_stacks, seen_parts, told}
use Rattle.zunpack.proofs.Made.{body_is, text_made}
use Rattle.zunpack.proofs.writing.put_text.Goals as goal

pub returns : goal.returns
returns c =
    let story = c.args.story.now in
    let p = seen_parts c.args.parts in
    let old = c.args.out.now.items in
    let head : List ℕ = big_bytes 4 FORM ++ big_bytes 4 (4 + c.args.body) in
    let kind : List ℕ = big_bytes 4 IFZS in
    let header = chunk_bytes (plain_header story p) in
    let memory : List ℕ → List ℕ = λ d. chunk_bytes (record { id = UMEM; contents = changed d (told p.packed) }) in
    let stacks = chunk_bytes (plain_stacks p) in
    let first : c.put.new.out.items ≡ (old ++ head) ++ kind = c.put.ensures.items ∙ ap (λ (t : List ℕ). t ++ c.to_be_bytes.result) c.put_head.ensures.items ∙ ap (λ (t : List ℕ). (old ++ head) ++ t) c.to_be_bytes.ensures in
    let second : c.put_header.new.out.items ≡ ((old ++ head) ++ kind) ++ header = c.put_header.ensures.items ∙ ap (λ (t : List ℕ). t ++ header) first in
    let third : c.put_plain.new.out.items ≡ (((old ++ head) ++ kind) ++ header) ++ memory (dynamic_of story) =
    c.put_plain.ensures.items ∙ ap (λ (t : List ℕ). t ++ memory c.args.dynamic.now) second ∙ ap (λ (d : List ℕ). (((old ++ head) ++ kind) ++ header) ++ memory d) c.requires.dynamic
    in
    let long : length (dynamic_of story) ≡ length c.args.dynamic.now = ap (λ (d : List ℕ). length d) (sym c.requires.dynamic) in
    let body : c.args.body ≡ length (flat_map chunk_bytes (plain_chunks story p)) = c.requires.body ∙ sym (body_is story p (length c.args.dynamic.now) c.requires.sound long) in
    c.put_stacks.ensures.items ∙ ap (λ (t : List ℕ). t ++ stacks) third ∙ text_made old story p c.args.body body

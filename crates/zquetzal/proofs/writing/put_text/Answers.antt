use Rattle.std.proofs.Common.{◌≡◌, ℕ, ◌+◌, ◌++◌, List, ap, ◌∙◌}
use Rattle.byteorder.specs.Endian.{big_bytes}
use Rattle.zquetzal.specs.declared.limits.TheConstants.{FORM, IFZS, IFHD, UMEM}
use Rattle.zquetzal.specs.declared.origin.Origin.{Origin}
use Rattle.zquetzal.specs.Grammar.{chunk_bytes, header_bytes, stacks_chunk}
use Rattle.zquetzal.proofs.Written.{text_is}
use Rattle.zquetzal.proofs.writing.put_text.Goals as goal

pub returns : goal.returns
returns g c =
    let o = g.S.SaveParts.origin c.args.parts.now in
    let s = g.S.SaveParts.saved c.args.parts.now in
    let old = c.args.out.now.items in
    let head : List ℕ = big_bytes 4 FORM ++ big_bytes 4 (4 + c.args.body) in
    let kind : List ℕ = big_bytes 4 IFZS in
    let header : Origin → ℕ → List ℕ = λ x p. chunk_bytes (record { id = IFHD; contents = header_bytes x p }) in
    let memory : List ℕ → List ℕ = λ d. chunk_bytes (record { id = UMEM; contents = d }) in
    let stacks = chunk_bytes (stacks_chunk s) in
    let first : c.put.new.out.items ≡ (old ++ head) ++ kind = c.put.ensures.items ∙ ap (λ (t : List ℕ). t ++ c.to_be_bytes.result) c.put_head.ensures.items ∙ ap (λ (t : List ℕ). (old ++ head) ++ t) c.to_be_bytes.ensures in
    let second : c.put_header.new.out.items ≡ ((old ++ head) ++ kind) ++ header o s.place =
    c.put_header.ensures.items
    ∙ ap (λ (t : List ℕ). t ++ header c.args.origin.now c.place.result) first
    ∙ ap (λ (x : Origin). ((old ++ head) ++ kind) ++ header x c.place.result) c.requires.origin
    ∙ ap (λ (p : ℕ). ((old ++ head) ++ kind) ++ header o p) c.place.ensures.value
    in
    let third : c.put_chunk.new.out.items ≡ (((old ++ head) ++ kind) ++ header o s.place) ++ memory s.memory =
    c.put_chunk.ensures.items
    ∙ ap (λ (t : List ℕ). t ++ memory c.memory-memory.result.now) second
    ∙ ap (λ (d : List ℕ). (((old ++ head) ++ kind) ++ header o s.place) ++ memory d) c.memory-memory.ensures.value
    in
    c.put_stacks.ensures.items ∙ ap (λ (t : List ℕ). t ++ stacks) third ∙ text_is o s old c.args.body c.requires.body

use Rattle.std.proofs.Common.{ℕ, ◌++◌, List, sym, ap, ◌∙◌, append_assoc}
use Rattle.byteorder.specs.Endian.{big_bytes}
use Rattle.zquetzal.specs.declared.limits.TheConstants.{STKS}
use Rattle.zquetzal.specs.Grammar.{frames_bytes}
use Rattle.zquetzal.proofs.Written.{stacks_text}
use Rattle.zquetzal.proofs.writing.put_stacks.Goals as goal

pub returns : goal.returns
returns g c =
    let s = g.S.SaveParts.saved c.args.parts.now in
    let old = c.args.out.now.items in
    let head : List ℕ = big_bytes 4 STKS ++ big_bytes 4 c.args.size in
    record {
      items = c.put_frames.ensures.items
          ∙ ap (λ (t : List ℕ). t ++ frames_bytes s.frames) c.put_head.ensures.items
          ∙ append_assoc old head (frames_bytes s.frames)
          ∙ ap (λ (t : List ℕ). old ++ t) (sym (stacks_text s c.args.size c.requires.size));
    }

use Rattle.std.proofs.Common.{◌≡◌, ◌+◌, ◌%◌, length, ap, subst, arith, rules}
use Rattle.zquetzal.specs.declared.origin.Origin.{Origin}
use Rattle.zquetzal.specs.Grammar.{save_text, frames_bytes}
use Rattle.zquetzal.proofs.Saves.{text_long}
use Rattle.zquetzal.proofs.writing.write_to.Goals as goal

pub put_text-requires-clause-room : goal.put_text-requires-clause-room
put_text-requires-clause-room g c =
    let o = g.S.SaveParts.origin c.args.parts.now in
    let s = g.S.SaveParts.saved c.args.parts.now in
    let made : length c.origin-origin.result.serial ≡ 6 = search rules in
    let six : length o.serial ≡ 6 = subst (λ (x : Origin). length x.serial ≡ 6) c.origin-origin.ensures made in
    let memory = ap length c.memory.ensures.value in
    let long : length (save_text o s) ≡ 50 + length s.memory + length s.memory % 2 + length (frames_bytes s.frames) = text_long o s six in
    omega (arith, long, memory, c.frames_length-stacks.ensures.value, c.body_length-body.ensures, c.in_ok-reserve.ensures.ok)

pub put_text-requires-clause-body : goal.put_text-requires-clause-body
put_text-requires-clause-body g c =
    let o = g.S.SaveParts.origin c.args.parts.now in
    let s = g.S.SaveParts.saved c.args.parts.now in
    let made : length c.origin-origin.result.serial ≡ 6 = search rules in
    let six : length o.serial ≡ 6 = subst (λ (x : Origin). length x.serial ≡ 6) c.origin-origin.ensures made in
    let memory = ap length c.memory.ensures.value in
    let long : length (save_text o s) ≡ 50 + length s.memory + length s.memory % 2 + length (frames_bytes s.frames) = text_long o s six in
    omega (arith, long, memory, c.frames_length-stacks.ensures.value, c.body_length-body.ensures)

use Rattle.std.proofs.Common.{◌≡◌, ap, rules, subst, List, ℕ}
use Rattle.std.specs.Prelude.{Option}
use Rattle.zperform.specs.Finding.{HasAlone}
use Rattle.zperform.proofs.unpacking.unpack_file.Goals as goal

pub returns-in-Err-clause-ends : goal.returns-in-Err-clause-ends
returns-in-Err-clause-ends g c = (c.in-Err.ensures.refused, λ other. c.plain_of.ensures.files.kept)

pub returns-in-Err-clause-spared : goal.returns-in-Err-clause-spared
returns-in-Err-clause-spared g c = λ name other. ap (λ (known : List ℕ → Option (List ℕ)). known name) c.plain_of.ensures.files.kept

pub returns-then-put-clause-ends : goal.returns-then-put-clause-ends
returns-then-put-clause-ends g c =
    let plain = c.in-Ok.plain.items in
    let same : c.deref.result.now ≡ plain = search rules in
    (plain, c.in-Ok.ensures.unpacked, subst (λ (bytes : List ℕ). HasAlone bytes (g.F.Files.known c.put.new.self c.args.out.now)) same (c.put.ensures.whole (search rules)))

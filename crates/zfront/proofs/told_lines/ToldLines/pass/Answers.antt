use Rattle.std.proofs.Common.{◌≡◌, ◌≤◌, ◌∙◌, List, ℕ, ap, length, length-take, take, arith}
use Rattle.std.specs.Io.BufRead.{take_through}
use Rattle.std.proofs.lemmas.List.{take_all}
use Rattle.zfront.proofs.Tellings.{lets_pass}
use Rattle.zfront.proofs.told_lines.ToldLines.pass.Goals as goal

pub returns-clause-ok : goal.returns-clause-ok
returns-clause-ok g c =
    let all : take (length c.args.piece.now) c.args.piece.now ≡ c.args.piece.now = take_all (length c.args.piece.now) c.args.piece.now (omega arith) in
    let place : c.line_length.result ≡ length (take_through 10 c.args.piece.now) = c.line_length.ensures.count ∙ ap (λ (l : List ℕ). length (take_through 10 l)) all in
    let within : c.in_ok-count.count ≤ c.line_length.result = omega (arith, c.in_ok-count.ensures.bound, length-take c.line_length.result c.args.piece.now) in
    lets_pass _ _ _ _ c.let_pass.new.self c.give.new.self _ c.args.piece.now c.in_ok-count.count c.line_length.result c.requires.nothing_decided c.let_pass.ensures.decided c.let_pass.ensures.held c.give.ensures.given c.in_ok-give.ensures.ok
    place within c.in_ok-count.ensures.bytes c.passed.ensures.decided c.passed.ensures.held c.passed.ensures.passing

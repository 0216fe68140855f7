use Rattle.std.proofs.Common.{ℕ, ◌↔◌, Option, sym, subst, rules, arith}
use Rattle.std.specs.Prelude.{IsTrue}
use Rattle.zjudge.specs.Memory.{AreKept}
use Rattle.zjudge.specs.Parts.{IsInText}
use Rattle.zjudge.proofs.Closed.{text_where, through}
use Rattle.zjudge.proofs.kept.is_text_kept.Goals as goal

pub returns-in-Some : goal.returns-in-Some
returns-in-Some c =
    subst (λ (found : Option ℕ). IsTrue c.are_kept.result ↔ AreKept c.args.story.now c.args.saved.now (IsInText c.args.story.now.memory found)) (sym c.in-Some.is) (through c.are_kept.ensures (text_where c.args.story.now c.args.saved.now c.in-Some.word _ _ (search (rules, arith)) (search rules)))

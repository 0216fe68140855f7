use Rattle.std.proofs.Common.{◌≡◌, ◌++◌, ap, ◌∙◌, subst}
use Rattle.json.specs.Lex.{tokens}
use Rattle.json.specs.Print.{print}
use Rattle.json.specs.Tree.{json_tokens}
use Rattle.zjson.specs.Objects.{object_of, pairs_of}
use Rattle.zjson.proofs.Lines.{reads}
use Rattle.zjson.proofs.object.line_of.Goals as goal

pub returns-clause-reads : goal.returns-clause-reads
returns-clause-reads c =
    let all = c.in_ok-write_object.ensures.tokens ∙ ap (λ ts. ts ++ json_tokens (object_of (pairs_of c.args.members.now))) c.new-writer.ensures.tokens in
    reads c.args.members.now (subst (λ ts. tokens (print ts) ≡ ts) all c.into_inner-line.ensures.reads_back)

use Rattle.std.proofs.Common.{◌∙◌, List, Option, ℕ, codes, subst}
use Rattle.std.specs.Prelude.{option_map}
use Rattle.zperform.specs.Checking.{Judges}
use Rattle.zperform.specs.Devices.{held}
use Rattle.zperform.specs.Each.{certificate_for}
use Rattle.zperform.specs.Verdicts.{IsVerdictText}
use Rattle.zperform.specs.declared.blame.Blame.{Blame}
use Rattle.zperform.proofs.SeekLemmas.{either_of_others}
use Rattle.zperform.proofs.checking.tell_object.Goals as goal

pub returns-in-Ok-verdict_text-clause-tells : goal.returns-in-Ok-verdict_text-clause-tells
returns-in-Ok-verdict_text-clause-tells g c =
    let of = held g.F.Files.known g.F.Files.failures g.F.Files.can_fail g.F.Files.blamed in
    let from = of c.args.files.now in
    let mid = of c.facts_of.new.files in
    let name = c.args.name.now in
    let file = certificate_for (option_map (λ f. f.now) c.args.certificate) name in
    let known = c.facts_of.ensures in
    let judged = c.judge_story-answer.ensures in
    let answer = c.judge_story-answer.result in
    record {
      kept = judged.kept ∙ known.kept;
      alike = judged.alike ∙ known.alike;
      answer = answer;
      judges = subst (λ (k : List ℕ → Option (List ℕ)). Judges (k name) (k file) answer) known.kept judged.judges;
      could = λ is. either_of_others from mid name file known.kept known.alike (judged.could is);
      blamed = judged.blamed;
      ended_is = c.ended_of.ensures.ended;
      told = (c.in-Ok.facts, c.in-Ok.ensures.are, subst (λ (blame : Option Blame). IsVerdictText name c.in-Ok.facts (codes "accepted") answer blame c.in-Ok-verdict_text.text.items) c.blame.ensures c.in-Ok-verdict_text.ensures);
    }

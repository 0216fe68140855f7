use Rattle.std.proofs.Common.{◌≡◌, inr, refl, rules, subst, Option, List, ℕ}
use Rattle.zperform.specs.Informing.{IsBeside, IsNoInfo, name_of_certificate}
use Rattle.zperform.proofs.AcceptLemmas.{handed_on}
use Rattle.zperform.proofs.InfoLemmas.{untold_so}
use Rattle.zperform.proofs.informing.informed.Goals as goal

pub returns-in_err-facts-clause-refused : goal.returns-in_err-facts-clause-refused
returns-in_err-facts-clause-refused g c = handed_on (IsNoInfo (g.F.Files.known c.args.files.now c.args.name.now)) c.from_residual-in_err-facts.result _ c.from_residual-in_err-facts.ensures (inr refl)

pub returns-in_err-certificate-clause-refused : goal.returns-in_err-certificate-clause-refused
returns-in_err-certificate-clause-refused g c = handed_on (IsNoInfo (g.F.Files.known c.args.files.now c.args.name.now)) c.from_residual-in_err-certificate.result _ c.from_residual-in_err-certificate.ensures (inr refl)

pub returns-in_err-beside-clause-refused : goal.returns-in_err-beside-clause-refused
returns-in_err-beside-clause-refused g c =
    handed_on (IsNoInfo (g.F.Files.known c.args.files.now c.args.name.now)) c.from_residual-in_err-beside.result _ c.from_residual-in_err-beside.ensures (untold_so _ c.in_err-beside.field-0.0 c.in_err-beside.ensures.untold)

pub returns-in_err-text-clause-refused : goal.returns-in_err-text-clause-refused
returns-in_err-text-clause-refused g c = handed_on (IsNoInfo (g.F.Files.known c.args.files.now c.args.name.now)) c.from_residual-in_err-text.result _ c.from_residual-in_err-text.ensures (inr refl)

pub returns-clause-informed : goal.returns-clause-informed
returns-clause-informed g c =
    let name = c.args.name.now in
    let known = g.F.Files.known c.args.files.now in
    let beside : c.as_str.result.now ≡ name_of_certificate name = search rules in
    let kept = c.open_digested.ensures.files.kept in
    let stands = subst (λ (n : List ℕ). IsBeside (g.F.Files.known c.open_digested.new.files n) c.in_ok-story.story c.in_ok-beside.beside) beside c.in_ok-beside.ensures.beside in
    record {
      story = c.in_ok-story.story;
      digest = _;
      holds = c.in_ok-story.ensures.held;
      facts = c.in_ok-facts.facts;
      are = c.in_ok-facts.ensures;
      beside = c.in_ok-beside.beside;
      stands = subst (λ (k : List ℕ → Option (List ℕ)). IsBeside (k (name_of_certificate name)) c.in_ok-story.story c.in_ok-beside.beside) kept stands;
      lines = search rules;
    }

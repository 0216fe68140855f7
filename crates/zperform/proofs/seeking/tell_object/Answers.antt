use Rattle.std.proofs.Common.{◌∙◌, rules, inl, inr, refl, subst, sym, Bool, Err, List, Option, Ok, codes, ℕ}
use Rattle.zperform.specs.Contents.{SparesOthers}
use Rattle.zperform.specs.Devices.{held}
use Rattle.zperform.specs.Each.{certificate_for}
use Rattle.zperform.specs.Seeking.{IsFoundSo, IsKeptSo, IsUnfoundSo, IsUnkept, lowered}
use Rattle.zperform.specs.Verdicts.{IsVerdictText}
use Rattle.zperform.specs.declared.blame.Blame.{Blame}
use Rattle.std.specs.Prelude.{option_map}
use Rattle.zperform.proofs.SeekLemmas.{of_others}
use Rattle.zperform.proofs.seeking.tell_object.Goals as goal

pub returns-in-Ok-found_object-clause-tells : goal.returns-in-Ok-found_object-clause-tells
returns-in-Ok-found_object-clause-tells g c =
    let name = c.args.name.now in
    let answer = c.in-Ok-seek_story.answer in
    let search' = lowered c.args.seeking.search in
    let file = certificate_for (option_map (λ f. f.now) c.args.seeking.certificate) name in
    let known = g.F.Files.known c.args.files.now in
    let holds = g.F.Files.known c.seek_story.new.files in
    let same = c.facts_of.ensures.kept in
    let made = c.in-Ok-found_object.ensures in
    let object = subst (λ (blame : Option Blame). IsVerdictText name c.in-Ok.facts (codes "found") (Ok answer.marks) blame made.0) c.blame.ensures made.1 in
    let told = subst (λ (json : Bool). IsFoundSo json name (known name) (g.F.Files.can_fail c.args.files.now name) (g.F.Files.blamed c.seek_story.new.files) answer.text.items answer.marks c.in-Ok-found_object.text.items) (sym c.requires.object) (c.in-Ok.facts, made.0, c.in-Ok.ensures.are, object, made.2) in
    let kept = subst (λ (k : List ℕ → Option (List ℕ)). IsKeptSo search' c.args.seeking.force file name k holds answer.bytes.items answer.text.items answer.marks) same c.in-Ok-seek_story.ensures.kept in
    (subst (λ (k : List ℕ → Option (List ℕ)). SparesOthers file k holds) same c.seek_story.ensures.spared, c.seek_story.ensures.alike ∙ c.facts_of.ensures.alike, inl (record { bytes = answer.bytes.items; said = answer.text.items; marks = answer.marks; kept_so = kept; ended_is = refl; told = told }))

pub returns-in-Ok-verdict_text-clause-tells : goal.returns-in-Ok-verdict_text-clause-tells
returns-in-Ok-verdict_text-clause-tells g c =
    let name = c.args.name.now in
    let problem = c.in-Err.problem in
    let search' = lowered c.args.seeking.search in
    let file = certificate_for (option_map (λ f. f.now) c.args.seeking.certificate) name in
    let known = g.F.Files.known c.args.files.now in
    let holds = g.F.Files.known c.seek_story.new.files in
    let same = c.facts_of.ensures.kept in
    let of = held g.F.Files.known g.F.Files.failures g.F.Files.can_fail g.F.Files.blamed in
    let from = of c.args.files.now in
    let then = of c.facts_of.new.files in
    let text = c.in-Ok-verdict_text.text.items in
    let object = subst (λ (blame : Option Blame). IsVerdictText name c.in-Ok.facts (codes "found") (Err problem) blame text) c.blame-in-Err.ensures c.in-Ok-verdict_text.ensures in
    let told = subst (λ (json : Bool). IsUnfoundSo json name (known name) (g.F.Files.can_fail c.args.files.now name) (g.F.Files.blamed c.seek_story.new.files) problem text) (sym c.requires.object) (c.in-Ok.facts, c.in-Ok.ensures.are, object) in
    let why = subst (λ (k : List ℕ → Option (List ℕ)). IsUnkept search' c.args.seeking.force (k name) (k file) problem) same c.in-Err.ensures.unkept in
    (subst (λ (k : List ℕ → Option (List ℕ)). SparesOthers file k holds) same c.seek_story.ensures.spared, c.seek_story.ensures.alike ∙ c.facts_of.ensures.alike, inr (record { problem = problem; why = why; kept = λ other. c.in-Err.ensures.left other ∙ same; could = λ is. of_others search' from then name file same c.facts_of.ensures.alike (c.in-Err.ensures.could (search (rules, is))); blamed = λ is. c.in-Err.ensures.blamed (search (rules, is)); ended_is = c.ended_by.ensures.ended; told = told }))

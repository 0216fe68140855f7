use Rattle.std.proofs.Common.{Err, ◌≡◌, ◌++◌, ◌∷◌, ◌∙◌, [], ap, inl, inr, refl, rules, subst, sym, Bool, List, Option, ℕ}
use Rattle.zperform.specs.Each.{heading_text}
use Rattle.zperform.specs.Seeking.{IsFoundSo, IsUnfoundSo}
use Rattle.zperform.specs.Wording.{first_words}
use Rattle.zperform.specs.declared.blame.Blame.{Blame}
use Rattle.zperform.proofs.seeking.tell_lines.Goals as goal

pub returns-in-Ok-found_lines-clause-tells : goal.returns-in-Ok-found_lines-clause-tells
returns-in-Ok-found_lines-clause-tells g c =
    let name = c.args.name.now in
    let answer = c.in-Ok.answer in
    let said : c.deref.result.now ≡ answer.text.items = search rules in
    let text : c.in-Ok-found_lines.text.items ≡ heading_text name ++ answer.text.items = c.in-Ok-found_lines.ensures ∙ ap (λ (told : List ℕ). heading_text name ++ told) said in
    let told = subst (λ (json : Bool). IsFoundSo json name (g.F.Files.known c.args.files.now name) (g.F.Files.can_fail c.args.files.now name) (g.F.Files.blamed c.seek_story.new.files) answer.text.items answer.marks c.in-Ok-found_lines.text.items) (sym c.requires.lines) text in
    (c.seek_story.ensures.spared, c.seek_story.ensures.alike, inl (record { bytes = answer.bytes.items; said = answer.text.items; marks = answer.marks; kept_so = c.in-Ok.ensures.kept; ended_is = refl; told = told }))

pub returns-in-Ok-problem_line-clause-tells : goal.returns-in-Ok-problem_line-clause-tells
returns-in-Ok-problem_line-clause-tells g c =
    let name = c.args.name.now in
    let problem = c.in-Err.problem in
    let text = c.in-Ok-problem_line.ensures ∙ ap (λ (blame : Option Blame). heading_text name ++ (first_words blame problem ++ 10 ∷ [])) c.blame.ensures in
    let told = subst (λ (json : Bool). IsUnfoundSo json name (g.F.Files.known c.args.files.now name) (g.F.Files.can_fail c.args.files.now name) (g.F.Files.blamed c.seek_story.new.files) problem c.in-Ok-problem_line.text.items) (sym c.requires.lines) text in
    (c.seek_story.ensures.spared, c.seek_story.ensures.alike, inr (record { problem = problem; why = c.in-Err.ensures.unkept; kept = c.in-Err.ensures.left; could = λ is. c.in-Err.ensures.could (search (rules, is)); blamed = λ is. c.in-Err.ensures.blamed (search (rules, is)); ended_is = c.ended_by.ensures.ended; told = told }))

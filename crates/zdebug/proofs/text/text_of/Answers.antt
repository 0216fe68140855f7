use Rattle.std.proofs.Common.{◌≡◌, ◌∙◌, ℕ, List, None, Some, Ok, ap, sym, rules}
use Rattle.std.proofs.lemmas.Result.{err_from_is_err_and}
use Rattle.zdebug.specs.Cutting.{cut, parts}
use Rattle.zdebug.specs.Words.{joined}
use Rattle.zdebug.proofs.Going.{refused_same}
use Rattle.zdebug.proofs.Series.{text_whole, text_in_two}
use Rattle.zdebug.proofs.text.text_of.Goals as goal
use Rattle.zdebug.proofs.text.text_of.Goals.{in-None+in_ok-extend_from_slice-in-None, in-Some+in_ok-extend_from_slice-in-Some+in_ok-push_parts-in-Some}

pub returns-in_err-push_parts-in-Some : goal.returns-in_err-push_parts-in-Some
returns-in_err-push_parts-in-Some c =
    let is : Some (c.in-Some.first.now, c.in-Some.others.now) ≡ cut 38 c.args.bytes.now = search rules in
    let front : c.extend_from_slice-in-Some.new.self.items ≡ c.in-Some.first.now = search rules in
    let p = err_from_is_err_and c.from_residual-in_err-push_parts-in-Some.result c.from_residual-in_err-push_parts-in-Some.ensures.1 in
    rw (p.1, p.2) (refused_same c.in_err-push_parts-in-Some.field-0.0 _ _ (text_in_two c.args.bytes.now c.in-Some.first.now c.in-Some.others.now is ∙ ap (λ (l : List ℕ). joined l (parts 38 c.in-Some.others.now)) (sym front)) c.in_err-push_parts-in-Some.ensures)

pub returns : goal.returns
returns c = elim c.match-cut.branch [
  | in-None+in_ok-extend_from_slice-in-None w ↦
      let is : None ≡ cut 38 c.args.bytes.now = search rules in
      let all : c.args.bytes.now ≡ c.match-cut.text.items = search rules in
      text_whole c.args.bytes.now is ∙ ap Ok all
  | in-Some+in_ok-extend_from_slice-in-Some+in_ok-push_parts-in-Some w ↦
      let is : Some (w.in-Some.first.now, w.in-Some.others.now) ≡ cut 38 c.args.bytes.now = search rules in
      let front : w.extend_from_slice-in-Some.new.self.items ≡ w.in-Some.first.now = search rules in
      let whole : joined w.extend_from_slice-in-Some.new.self.items (parts 38 w.in-Some.others.now) ≡ Ok c.match-cut.text.items = search rules in
      text_in_two c.args.bytes.now w.in-Some.first.now w.in-Some.others.now is ∙ (ap (λ (l : List ℕ). joined l (parts 38 w.in-Some.others.now)) (sym front) ∙ whole)
]

use Rattle.std.proofs.Common.{◌≡◌, ◌++◌, List, ℕ, [], subst, rules, tests}
use Rattle.std.proofs.lemmas.Result.{err_from_is_err_and}
use Rattle.std.proofs.lemmas.List.{nil_from_length}
use Rattle.zcert.specs.Streaming.{Leads, IsRefusal}
use Rattle.zcert.proofs.Follows.{leads_more, refusal_stays}
use Rattle.zcert.proofs.Pieces.{for_err, on_ok, from_none, more_kept, in_two}
use Rattle.zcert.proofs.reader.Reader.take.Goals as goal

pub returns-then-is_empty-clause-led : goal.returns-then-is_empty-clause-led
returns-then-is_empty-clause-led g c =
    let none : c.args.self.now.kept.items ≡ [] = nil_from_length c.args.self.now.kept.items (search (rules, tests)) in
    on_ok _ _ c.read_rest.result (λ h fed led. h (fed ++ c.args.piece.now) (from_none g.V.Spelled.format _ _ fed _ c.args.self.now.kept.items c.args.piece.now none led)) c.read_rest.ensures.led

pub returns-then-is_empty-clause-refused : goal.returns-then-is_empty-clause-refused
returns-then-is_empty-clause-refused g c =
    let none : c.args.self.now.kept.items ≡ [] = nil_from_length c.args.self.now.kept.items (search (rules, tests)) in
    for_err _ _ c.read_rest.result (λ e h fed led. h (fed ++ c.args.piece.now) (from_none g.V.Spelled.format _ _ fed _ c.args.self.now.kept.items c.args.piece.now none led)) c.read_rest.ensures.refused

pub returns-in_err-complete-clause-refused : goal.returns-in_err-complete-clause-refused
returns-in_err-complete-clause-refused g c =
    let p = err_from_is_err_and c.from_residual.result c.from_residual.ensures.1 in
    let piece = c.args.piece.now in
    let front = c.split_at.result.0.now in
    let back = c.split_at.result.1.now in
    rw (p.1, p.2) (λ fed led. subst (λ (l : List ℕ). IsRefusal g.V.Spelled.format l c.in_err-complete.field-0.0) (in_two fed piece front back _ c.split_at.ensures.front c.split_at.ensures.back) (refusal_stays g.V.Spelled.format (fed ++ front) back c.in_err-complete.field-0.0 (c.in_err-complete.ensures.refused fed led)))

pub returns-clause-led : goal.returns-clause-led
returns-clause-led g c =
    let piece = c.args.piece.now in
    let front = c.split_at.result.0.now in
    let back = c.split_at.result.1.now in
    on_ok _ _ c.read_rest-2.result (λ h fed led. subst (λ (l : List ℕ). Leads g.V.Spelled.format c.read_rest-2.new.self.stage c.read_rest-2.new.self.builder l (g.V.Spelled.turns.came c.read_rest-2.new.self.partial ++ c.read_rest-2.new.self.kept.items)) (in_two fed piece front back _ c.split_at.ensures.front c.split_at.ensures.back) (h ((fed ++ front) ++ back) (leads_more g.V.Spelled.format _ _ (fed ++ front) _ back (c.in_ok-complete.ensures.led fed led)))) c.read_rest-2.ensures.led

pub returns-clause-refused : goal.returns-clause-refused
returns-clause-refused g c =
    let piece = c.args.piece.now in
    let front = c.split_at.result.0.now in
    let back = c.split_at.result.1.now in
    for_err _ _ c.read_rest-2.result (λ e h fed led. subst (λ (l : List ℕ). IsRefusal g.V.Spelled.format l e) (in_two fed piece front back _ c.split_at.ensures.front c.split_at.ensures.back) (h ((fed ++ front) ++ back) (leads_more g.V.Spelled.format _ _ (fed ++ front) _ back (c.in_ok-complete.ensures.led fed led)))) c.read_rest-2.ensures.refused

pub returns-then-piece-missing-clause-led : goal.returns-then-piece-missing-clause-led
returns-then-piece-missing-clause-led g c =
    let kept = c.args.self.now.kept.items in
    let piece = c.args.piece.now in
    let whole : c.try_extend_from_slice-kept.new.self.items ≡ kept ++ piece = search rules in
    λ fed led. more_kept g.V.Spelled.format _ _ fed _ kept piece c.try_extend_from_slice-kept.new.self.items whole led

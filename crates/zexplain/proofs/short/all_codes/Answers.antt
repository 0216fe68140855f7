use Rattle.std.proofs.Common.{ℕ, List, ◌++◌, ◌∙◌, ap}
use Rattle.zexplain.specs.Short.{all_codes}
use Rattle.zexplain.proofs.Joined.{joined}
use Rattle.zexplain.proofs.short.all_codes.Goals as goal

pub returns : goal.returns
returns c =
    joined _ _ _ _ _ c.in_ok-push_stories.ensures c.in_ok-push_certificates.ensures c.in_ok-push_play.ensures c.in_ok-push_debugging.ensures
    ∙ ap (λ (l : List ℕ). l ++ all_codes) c.new-text.ensures.items

use Rattle.std.proofs.Common.{◌≢◌, ℕ, List, ◌++◌, lit<, subst}
use Rattle.std.proofs.lemmas.Str.{encode_ascii}
use Rattle.zexplain.proofs.Stops.{kept}
use Rattle.zexplain.proofs.short.without_stop.Goals as goal

pub returns-in-None : goal.returns-in-None
returns-in-None c = kept c.args.line.now (subst (λ (stop : List ℕ). (front : List ℕ) → c.args.line.now ≢ front ++ stop) (encode_ascii 46 (lit< tt)) c.in-None.ensures.cases)

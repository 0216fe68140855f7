use Rattle.std.proofs.Common.{◌≡◌, ◌++◌, [], ◌∷◌, take}
use Rattle.std.specs.Prelude.{flat_map}
use Rattle.json.specs.Token.{begin_object}
use Rattle.zjson.specs.Objects.{pair_of, pair_tokens}
use Rattle.zjson.proofs.object.write_object.Given as goal

-- the first members are written behind the opening bracket
abbrev pub invariant-loop-member : goal.invariant-loop-member
invariant-loop-member l =
    (l.writer.before ≡ l.fn.writer.before) × (l.writer.tokens ≡ (l.fn.writer.tokens ++ begin_object ∷ []) ++ flat_map (λ m. pair_tokens (pair_of m)) (take l.member-index l.members))

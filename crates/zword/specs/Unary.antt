-- The word that one word makes (Z 15). Words are natural numbers below 65,536 (Z 2.1).
use Rattle.std.specs.Prelude.{ℕ, ◌-◌}
use Rattle.zword.specs.declared.unary.UnaryOp.{UnaryOp}
use Rattle.zword.specs.declared.unary.UnaryOp.TheVariants.{Not, Keep}

-- each of the 16 bits turned (Z 15 not), or the word itself (Z 15 push)
abbrev pub transform : UnaryOp → ℕ → ℕ
transform Not x = 65535 - x
transform Keep x = x

use Rattle.std.proofs.Common.{◌↔◌, length}
use Rattle.ztext.specs.declared.plain.Open.TheVariants.{Letter}
use Rattle.ztext.specs.Words.{characters_in}
use Rattle.ztext.specs.Open.{IsPlainFrom}
use Rattle.ztext.proofs.plain.is_plain.Given as goal

abbrev pub invariant-loop-rest : goal.invariant-loop-rest
invariant-loop-rest l = record {
  left : IsPlainFrom Letter (characters_in l.words) ↔ IsPlainFrom l.begun (characters_in l.rest);
}

abbrev pub decreases-loop-rest : goal.decreases-loop-rest
decreases-loop-rest l = length l.rest

use Rattle.std.proofs.Common.{◌≤◌, length, vec_capacity, Some}
use Rattle.ztext.specs.Begun.{IsBegun}
use Rattle.ztext.specs.Words.{characters_in}
use Rattle.ztext.specs.Progress.{characters_printed, printed_from, LeadsOn}
use Rattle.ztext.proofs.writing.write_words.Given as goal

abbrev pub invariant-loop-rest : goal.invariant-loop-rest
invariant-loop-rest g l = record {
  grows : vec_capacity l.initial.text ≤ vec_capacity l.text;
  begun : IsBegun l.state;
  leads : LeadsOn (vec_capacity l.initial.text) l.initial.text.items l.text.items (Some l.state) (characters_printed (g.U.Uses.printed l.uses) (characters_in l.initial.rest)) (λ begun. printed_from (g.U.Uses.printed l.uses) begun (characters_in l.rest));
}

abbrev pub decreases-loop-rest : goal.decreases-loop-rest
decreases-loop-rest g l = length l.rest

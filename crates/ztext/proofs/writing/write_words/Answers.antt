use Rattle.std.proofs.Common.{arith, rules}
use Rattle.ztext.specs.Words.{characters_in}
use Rattle.ztext.proofs.Parts.{IsWritten-end}
use Rattle.ztext.proofs.Steps.{starts, words_left, word_more, word_stops}
use Rattle.ztext.proofs.writing.write_words.Goals as goal

pub loop-rest-init : goal.loop-rest-init
loop-rest-init g c = record {
  grows = omega arith;
  begun = search rules;
  leads = starts (g.U.Uses.printed c.args.uses.now) _ _ _ (characters_in c.args.words.now) c.start-state.ensures;
}

pub returns-in_err-state-clause-written : goal.returns-in_err-state-clause-written
returns-in_err-state-clause-written g c =
    word_stops (g.U.Uses.printed c.args.uses.now) _ _ _ _ _ _ _ _ _ _ c.in-len2-up.len_at_least c.from_be_bytes.ensures c.from_residual.ensures c.loop-rest.invariant.grows c.loop-rest.invariant.leads c.in_err-state.ensures.leads

pub loop-rest-preserved : goal.loop-rest-preserved
loop-rest-preserved g c = record {
  grows = omega arith;
  begun = search rules;
  leads = word_more (g.U.Uses.printed c.args.uses.now) _ _ _ _ _ _ _ _ _ _ c.in-len2-up.len_at_least c.from_be_bytes.ensures c.loop-rest.invariant.grows c.loop-rest.invariant.leads c.in_ok-state.ensures.leads;
}

pub returns-clause-written : goal.returns-clause-written
returns-clause-written g c =
    IsWritten-end _ _ _ _ _ _ _ (words_left (g.U.Uses.printed c.args.uses.now) _ _ c.loop-rest.invariant.begun c.in_default.len_below) c.loop-rest.invariant.leads

use Rattle.ztext.proofs.Steps.{word_first, word_second, word_third}
use Rattle.ztext.proofs.writing.write_word.Goals as goal

pub returns-in_err-state-clause-leads : goal.returns-in_err-state-clause-leads
returns-in_err-state-clause-leads g c zs =
    word_first _ _ _ _ _ _ _ _ _ _ _ _ zs c.characters_of-first.ensures.first c.characters_of-first.ensures.second c.characters_of-first.ensures.third c.from_residual.ensures c.in_err-state.ensures.leads

pub returns-in_err-state-2-clause-leads : goal.returns-in_err-state-2-clause-leads
returns-in_err-state-2-clause-leads g c zs =
    word_second _ _ _ _ _ _ _ _ _ _ _ _ _ _ _ zs c.characters_of-first.ensures.first c.characters_of-first.ensures.second c.characters_of-first.ensures.third c.from_residual-in_err-state-2.ensures c.in_ok-state.ensures.capacity c.in_ok-state.ensures.leads c.in_err-state-2.ensures.leads

pub returns-clause-leads : goal.returns-clause-leads
returns-clause-leads g c zs =
    word_third _ _ _ _ _ _ _ _ _ _ _ _ _ _ _ _ _ _ zs c.characters_of-first.ensures.first c.characters_of-first.ensures.second c.characters_of-first.ensures.third c.in_ok-state.ensures.capacity c.in_ok-state-2.ensures.capacity c.in_ok-state.ensures.leads c.in_ok-state-2.ensures.leads c.write_character-3.ensures.leads

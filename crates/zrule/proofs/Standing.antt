-- Effects that lead nowhere: of these nothing is done, but that a prompt leaves its mark and a restart begins anew.
use Rattle.std.proofs.Common.{◌≡◌, true, Some, None}
use Rattle.std.specs.Prelude.{pos}
use Rattle.zfault.specs.declared.item.Status.{Status as StatusLine}
use Rattle.zfault.specs.declared.pause.Need.{Need}
use Rattle.zstate.specs.Step.{Effect, on, restarting, showing}

-- a line is wanted, and a status line is shown
abbrev pub prompting : StatusLine → Effect
prompting line = record (showing line) { prompts = true }

pub data IsStill (effect : Effect) : Type 0 where
  a_quit : effect.needs ≡ None → effect.quits ≡ true → IsStill effect
  a_need : (need : Need) → effect.needs ≡ Some need → IsStill effect
  a_prompt : (line : StatusLine) → effect ≡ prompting line → IsStill effect
  a_restart : effect ≡ restarting → IsStill effect

pub record Still (effect : Effect) : Type 0 where
  pub tests : effect.tests ≡ None
  pub moves : effect.moves ≡ on (pos 0)
  pub why : IsStill effect

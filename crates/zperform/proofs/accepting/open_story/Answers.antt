use Rattle.zperform.specs.Playing.{IsUnloaded}
use Rattle.zperform.specs.declared.outcome.Failure.TheVariants.{File}
use Rattle.zperform.specs.declared.outcome.Problem.TheVariants.{Failed}
use Rattle.zperform.proofs.AcceptLemmas.{held_ok, no_reason, read_on, refused_err}
use Rattle.zperform.proofs.accepting.open_story.Goals as goal

pub returns-clause-held : goal.returns-clause-held
returns-clause-held g c = held_ok _ c.in_ok-file.file.items c.in_ok-file.ensures.read c.load.result c.load.ensures.loaded

pub returns-clause-refused : goal.returns-clause-refused
returns-clause-refused g c = refused_err _ c.in_ok-file.file.items c.in_ok-file.ensures.read c.load.result c.load.ensures.unloaded

pub returns-clause-files : goal.returns-clause-files
returns-clause-files g c = read_on _ _ _ _ _ _ _ c.in_ok-file.ensures.files (λ e. cc) (no_reason (IsUnloaded c.in_ok-file.file.items) (Failed File) c.load.result (λ none. none) c.load.ensures.unloaded)

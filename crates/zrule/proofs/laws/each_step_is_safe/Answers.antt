use Rattle.zrule.proofs.Opening.{opening_described}
use Rattle.zrule.proofs.Restarting.{restarted_described}
use Rattle.zrule.proofs.Steps.{step_safe}
use Rattle.std.proofs.Common.{refl}
use Rattle.zrule.proofs.Runs.{run_safe, run_safe_held, never_faults}
use Rattle.zrule.proofs.Alike.{run_alike}
use Rattle.zrule.proofs.laws.each_step_is_safe.Goals as goal

pub returns-clause-opening : goal.returns-clause-opening
returns-clause-opening g c = λ claims story limit loaded supports. opening_described g.V.Domain.operations claims story limit loaded supports

pub returns-clause-restart : goal.returns-clause-restart
returns-clause-restart g c = λ claims story limit s loaded supports count. restarted_described g.V.Domain.operations claims story loaded supports limit s count

pub returns-clause-step : goal.returns-clause-step
returns-clause-step g c = λ claims m s loaded supports listed d. step_safe g.V.Domain.operations g.met.V.Domain.sound claims m s loaded supports listed d refl

pub returns-clause-runs : goal.returns-clause-runs
returns-clause-runs g c = λ claims m inputs n s loaded supports listed fine d. run_safe g.V.Domain.operations g.met.V.Domain.sound claims m loaded supports listed inputs n s fine d

pub returns-clause-never_faults : goal.returns-clause-never_faults
returns-clause-never_faults g c = λ claims story limit inputs n loaded supports fine. never_faults g.V.Domain.operations g.met.V.Domain.sound claims story limit inputs n loaded supports fine

pub returns-clause-alike : goal.returns-clause-alike
returns-clause-alike g c = λ claims m wide inputs n s loaded supports listed listed_wide fine fine_there d. run_alike g.V.Domain.operations g.met.V.Domain.sound claims m wide loaded supports listed listed_wide inputs n s fine fine_there d

pub returns-clause-marked : goal.returns-clause-marked
returns-clause-marked g c = λ claims marked m inputs n s loaded supports listed fine d held. run_safe_held g.V.Domain.operations g.met.V.Domain.sound claims m loaded supports listed inputs n s fine d held

use Rattle.std.proofs.Common.{rules}
use Rattle.zfault.proofs.DeviceLemmas.{Appends-take-add, waits_after-take_add}
use Rattle.zfront.proofs.giving.write_some.Goals as goal

-- what was taken before, and then what this call took
pub loop-at-preserved : goal.loop-at-preserved
loop-at-preserved g c =
    record {
      within = search rules;
      taken = Appends-take-add _ _ _ _ _ _ c.loop-at.invariant.taken c.in-Ok.ensures.bytes;
      waits = waits_after-take_add _ _ _ c.loop-at.at _ c.args.bytes.now c.loop-at.invariant.waits c.in-Ok.ensures.waiting;
      quiet = search rules;
    }

use Rattle.std.proofs.Common.{rules, ◌∙◌}
use Rattle.zfault.proofs.DeviceLemmas.{Appends-take-add, not_below, on_err, still_waits, waits_after-take_add, waits_after-whole}
use Rattle.zfault.proofs.writing.write_whole.Goals as goal

-- what was taken before, and then what this call took
pub loop-at-preserved : goal.loop-at-preserved
loop-at-preserved g c =
    record {
      within = search rules;
      taken = Appends-take-add _ _ _ _ _ _ c.loop-at.invariant.taken c.in_ok-at.ensures.bytes;
      waits = waits_after-take_add _ _ _ c.loop-at.at _ c.args.bytes.now c.loop-at.invariant.waits c.in_ok-at.ensures.waiting;
      quiet = search rules;
      uncalled = λ none. absurd (not_below c.loop-at.at c.args.bytes.now c.loop-at-test.true none);
    }

pub returns-clause-waiting : goal.returns-clause-waiting
returns-clause-waiting g c = waits_after-whole _ _ _ _ c.loop-at-test.false c.loop-at.invariant.waits

pub returns-clause-unflushed : goal.returns-clause-unflushed
returns-clause-unflushed g c = still_waits _ _ _ c.loop-at.invariant.waits

pub returns-in_err-at-clause-unflushed : goal.returns-in_err-at-clause-unflushed
returns-in_err-at-clause-unflushed g c = still_waits _ _ _ (c.in_err-at.ensures.waiting ∙ c.loop-at.invariant.waits)

-- at a byte the call after those that were taken failed
pub returns-in_err-at-clause-broken_off : goal.returns-in_err-at-clause-broken_off
returns-in_err-at-clause-broken_off g c =
    on_err c.from_residual.result (record {
      taken = c.loop-at.at;
      short = c.loop-at-test.true;
      grown = search rules;
      waits = c.in_err-at.ensures.waiting ∙ c.loop-at.invariant.waits;
    })

pub returns-in_err-at-clause-none : goal.returns-in_err-at-clause-none
returns-in_err-at-clause-none g c = λ none. absurd (not_below c.loop-at.at c.args.bytes.now c.loop-at-test.true none)

pub returns-clause-none : goal.returns-clause-none
returns-clause-none g c = c.loop-at.invariant.uncalled

use Rattle.std.proofs.Common.{◌≡◌, ◌<◌, ◌≤◌, true, false, rules, arith, length}
use Rattle.zbatch.specs.Working.{is_unwritten}
use Rattle.zbatch.proofs.Goes.{all_counted, breaks, finishes, goes}
use Rattle.zbatch.proofs.work.work_through.Goals as goal

pub loop-name-preserved : goal.loop-name-preserved
loop-name-preserved g c =
    let within : c.loop-name.name-index < length c.args.names.now = search (rules, arith) in
    let written : is_unwritten c.work-ended.result ≡ false = search rules in
    goes g.W.Work.Does c.args.names.now c.args.work.now c.loop-name.name-index c.loop-name.tally c.loop-name.work c.loop-name.invariant _ c.work-ended.result c.work-ended.new.self c.count.new.self within c.count.ensures written c.work-ended.ensures

pub returns-then-is_unwritten-clause-runs : goal.returns-then-is_unwritten-clause-runs
returns-then-is_unwritten-clause-runs g c =
    let within : c.loop-name.name-index < length c.args.names.now = search (rules, arith) in
    let unwritten : is_unwritten c.work-ended.result ≡ true = search rules in
    breaks g.W.Work.Does c.args.names.now c.args.work.now c.loop-name.name-index c.loop-name.tally c.loop-name.work c.loop-name.invariant _ c.work-ended.result c.work-ended.new.self c.count.new.self within c.count.ensures unwritten c.work-ended.ensures

pub returns-then-is_unwritten-clause-counted : goal.returns-then-is_unwritten-clause-counted
returns-then-is_unwritten-clause-counted g c =
    let within : c.loop-name.name-index < length c.args.names.now = search (rules, arith) in
    let unwritten : is_unwritten c.work-ended.result ≡ true = search rules in
    let made = breaks g.W.Work.Does c.args.names.now c.args.work.now c.loop-name.name-index c.loop-name.tally c.loop-name.work c.loop-name.invariant _ c.work-ended.result c.work-ended.new.self c.count.new.self within c.count.ensures unwritten c.work-ended.ensures in
    all_counted g.W.Work.Does c.args.names.now c.args.work.now c.work-ended.new.self c.count.new.self made

pub returns-clause-runs : goal.returns-clause-runs
returns-clause-runs g c =
    let end : length c.args.names.now ≤ c.loop-name.name-index = search (rules, arith) in
    finishes g.W.Work.Does c.args.names.now c.args.work.now c.loop-name.name-index c.loop-name.tally c.loop-name.work c.loop-name.invariant end

pub returns-clause-counted : goal.returns-clause-counted
returns-clause-counted g c =
    let end : length c.args.names.now ≤ c.loop-name.name-index = search (rules, arith) in
    all_counted g.W.Work.Does c.args.names.now c.args.work.now c.loop-name.work c.loop-name.tally
    (finishes g.W.Work.Does c.args.names.now c.args.work.now c.loop-name.name-index c.loop-name.tally c.loop-name.work c.loop-name.invariant end)

use Rattle.std.proofs.Common.{◌≡◌, rules}
use Rattle.std.specs.Prelude.{Ok, ◌≢◌, pos}
use Rattle.zlist.specs.declared.owner.Label.TheVariants.{Nobody}
use Rattle.zlist.specs.Labels.{label_at}
use Rattle.zlist.specs.Listed.{spelled}
use Rattle.zlist.proofs.Faults.{computed_when}
use Rattle.zlist.proofs.Reached.{told_listed}
use Rattle.zlist.proofs.lister.is_computed.Goals as goal

pub returns-in-Ok : goal.returns-in-Ok
returns-in-Ok c =
    let story = c.args.story.now in
    let some : label_at c.args.walk.now c.args.address ≢ Nobody = search rules in
    let here : spelled story.memory (pos c.args.address) ≡ Ok c.in-Ok.instruction = search rules in
    record {
      memory = search rules;
      value = computed_when story (pos c.args.address) c.in-Ok.instruction c.jumps_by_variable.result (told_listed story c.args.walk.now c.requires.walked c.args.address some) here c.jumps_by_variable.ensures;
    }

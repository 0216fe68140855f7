use Rattle.std.proofs.Common.{◌≡◌, rules}
use Rattle.zlist.specs.declared.list_error.ListError.TheVariants.{TwoRoutines}
use Rattle.zlist.specs.Labels.{label_at}
use Rattle.zlist.proofs.Reached.{unlisted}
use Rattle.zlist.proofs.lister.owner_of.Goals as goal

pub returns-in_default : goal.returns-in_default
returns-in_default c =
    let is : c.label_at.result ≡ label_at c.args.walk.now c.args.address = search rules in
    record {
      some = tt;
      none = unlisted c.args.story.now c.args.walk.now c.requires.walked c.args.address c.label_at.result c.requires.inside is (λ it. c.requires.faultless (TwoRoutines c.args.address) it) c.in_default.not-One;
    }

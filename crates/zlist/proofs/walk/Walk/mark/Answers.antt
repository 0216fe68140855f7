use Rattle.std.proofs.Common.{rules}
use Rattle.zlist.specs.Listed.{IsListed}
use Rattle.zlist.proofs.Reaching.{so_listed}
use Rattle.zlist.proofs.walk.Walk.mark.Goals as goal

pub returns-in-Ok-2-clause-sound : goal.returns-in-Ok-2-clause-sound
returns-in-Ok-2-clause-sound c = λ story some so sound.
    let it : IsListed story c.args.at = so_listed story c.args.label c.args.at some so in
    c.note_beyond.ensures.sound story (search (rules, it)) sound

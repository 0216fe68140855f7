use Rattle.zlenient.proofs.Acted.{push_left}
use Rattle.zlenient.proofs.acting.push_back.Goals as goal

pub returns : goal.returns
returns c =
    let w = c.requires.way in
    push_left c.args.story.now c.args.word c.args.state.now _ w.0 w.1 w.2 c.requires.stack (c.leave_with.ensures w.0 w.1 w.2)

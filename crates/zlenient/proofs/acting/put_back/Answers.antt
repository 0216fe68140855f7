use Rattle.zlenient.proofs.Acted.{put_left}
use Rattle.zlenient.proofs.acting.put_back.Goals as goal

pub returns : goal.returns
returns c =
    let w = c.requires.way in
    put_left c.args.story.now c.args.variable c.args.word c.args.state.now _ _ w.0 w.1 w.2 c.requires.result c.requires.named (c.leave.ensures w.0 w.1 w.2) c.put_named.ensures

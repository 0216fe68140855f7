use Rattle.zengine.proofs.outside.Outside.lacks_event.Goals as goal

pub returns-in-Some : goal.returns-in-Some
returns-in-Some c = rw c.in-Some.is (c.is_no_word.ensures c.args.range)

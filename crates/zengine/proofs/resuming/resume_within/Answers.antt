use Rattle.zengine.proofs.Laying as by
use Rattle.zengine.proofs.resuming.resume_within.Goals as goal

pub lay_save-requires-clause-backs : goal.lay_save-requires-clause-backs
lay_save-requires-clause-backs c = by.many c.requires.fits.0 c.requires.fits.1 c.args.story.now c.args.save.now c.args.at c.args.backs.now c.requires.fits.2

pub returns-clause-on : goal.returns-clause-on
returns-clause-on c = λ game rows can.
    by.resumes game rows c.args.story.now c.args.save.now c.args.at c.args.backs.now can c.args.board.now c.lay_save.new.self c.lay_save.ensures.saved c.lay_save.new.self.words.items c.lay_save.ensures.laid c.lay_save.ensures.at c.lay_save.ensures.body c.lay_save.ensures.size

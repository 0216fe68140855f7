use Rattle.std.proofs.Common.{◌∙◌, ap, length}
use Rattle.zengine.specs.Body.{Body}
use Rattle.zengine.proofs.Laying as by
use Rattle.zengine.proofs.resuming.resume.Goals as goal

pub lay_save-requires-clause-backs : goal.lay_save-requires-clause-backs
lay_save-requires-clause-backs c = by.many c.requires.fits.0 c.requires.fits.1 c.args.story.now c.args.save.now c.args.at c.args.backs.now c.requires.fits.2

pub returns-clause-ok : goal.returns-clause-ok
returns-clause-ok c = λ game rows can.
    let grown = c.in_ok-fill_words.ensures.ok.2 in
    by.resumes game rows c.args.story.now c.args.save.now c.args.at c.args.backs.now can c.args.board.now c.lay_save.new.self c.lay_save.ensures.saved c.lay_save.new.self.words.items c.lay_save.ensures.laid c.lay_save.ensures.at
    (by.over_grown c.args.story.now c.args.save.now c.args.backs.now c.lay_save.new.self.words.items _ c.args.board.now c.fill_words.new.self c.lay_save.new.self grown c.lay_save.ensures.body)
    (c.lay_save.ensures.size ∙ ap (λ (b : Body). length b.memory) grown)

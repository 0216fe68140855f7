use Rattle.zfront.proofs.Paging.{fits, shows_piece}
use Rattle.zfront.proofs.pages.PagesSink.write.Goals as goal

pub shows-requires : goal.shows-requires
shows-requires g c = fits c.turn.new.self.page c.front.result c.in_ok-count.count c.args.piece.now c.in_ok-turn.ensures.room c.front.ensures.count c.in_ok-count.ensures.bound

pub returns-clause-ok : goal.returns-clause-ok
returns-clause-ok g c = λ some. shows_piece _ _ _ _ c.turn.new.self.page _ c.front.result c.in_ok-count.count c.args.piece.now c.in_ok-turn.ensures.ok c.in_ok-turn.ensures.room c.front.ensures.count c.in_ok-count.ensures.bound c.in_ok-count.ensures.takes c.front.ensures.some c.in_ok-count.ensures.bytes c.shows.ensures.lines c.shows.ensures.shown c.shows.ensures.stops some

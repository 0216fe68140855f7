use Rattle.std.proofs.Common.{◌≡◌, ◌<◌, length, rules, arith}
use Rattle.zperform.specs.Accepting.{IsNoCertificate}
use Rattle.zperform.proofs.AcceptLemmas.{handed_on}
use Rattle.zperform.proofs.FeedLemmas.{fed_end, fed_more, none_more}
use Rattle.zperform.proofs.feeding.feed_piece.Goals as goal

pub returns-in_err-feed-clause-refused : goal.returns-in_err-feed-clause-refused
returns-in_err-feed-clause-refused g c =
    let known = g.F.Files.known c.args.files.now c.args.name.now in
    handed_on (IsNoCertificate g.V.Spelled.format known) c.from_residual.result _ c.from_residual.ensures
    (none_more g.V.Spelled.format known c.args.at c.in-Some.count c.read_at.new.buffer _ c.in_err-feed.field-0.0 c.requires.version c.in-Some.ensures.bound c.requires.fed c.in-Some.ensures.bytes c.in_err-feed.ensures.refused)

pub returns-clause-more : goal.returns-clause-more
returns-clause-more g c =
    fed_more g.V.Spelled.format _ c.args.at c.in-Some.count c.read_at.new.buffer _ c.feed.new.self.stream c.requires.version c.in-Some.ensures.bound c.requires.fed c.in-Some.ensures.bytes c.in_ok-feed.ensures.fed

pub returns-clause-whole : goal.returns-clause-whole
returns-clause-whole g c =
    let some : 0 < length c.read_at.new.buffer = search (rules, arith) in
    λ end. fed_end g.V.Spelled.format _ c.args.at c.in-Some.count c.read_at.new.buffer _ c.feed.new.self.stream (let none : c.in-Some.count ≡ 0 = cc in none) some c.requires.version c.in-Some.ensures.bound c.requires.fed c.in-Some.ensures.bytes c.in_ok-feed.ensures.fed

use Rattle.std.proofs.Common.{subst}
use Rattle.std.specs.Prelude.{map, option_map}
use Rattle.zbatch.specs.declared.summary.Wording.TheVariants.{Found}
use Rattle.zperform.specs.Devices.{held}
use Rattle.zperform.specs.Each.{EachComesTo, last_text}
use Rattle.zperform.specs.Seeking.{TellsFind}
use Rattle.zperform.specs.declared.finding.Search.{Search}
use Rattle.zperform.proofs.SeekLemmas.{low_same}
use Rattle.zperform.proofs.seeking.find_each.Goals as goal

pub returns-clause-comes : goal.returns-clause-comes
returns-clause-comes g c =
    let files = held g.F.Files.known g.F.Files.failures g.F.Files.can_fail g.F.Files.blamed in
    let json = c.args.search.json in
    subst (λ (s : Search). EachComesTo (TellsFind s c.args.force (option_map (λ f. f.now) c.args.certificate)) json (last_text json Found) (map (λ story. story.now) c.args.stories.now) (files c.args.files.now) (files c.tell_each.new.files) (g.W.Sink.contents c.args.writer.now) (g.W.Sink.contents c.tell_each.new.writer) c.tell_each.result)
    (low_same c.args.search c.requires.low) c.tell_each.ensures.comes

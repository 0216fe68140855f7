use Rattle.std.proofs.Common.{◌<◌, ◌≤◌, [], length, refl, rules, arith}
use Rattle.zperform.specs.Accepting.{IsNoCertificate}
use Rattle.zperform.proofs.AcceptLemmas.{handed_on, read_and_handed, read_so_far, read_well}
use Rattle.zperform.proofs.FeedLemmas.{fed_bytes, fed_first, fed_short, none_first, unread_reads}
use Rattle.zperform.proofs.feeding.feed_certificate.Goals as goal

pub returns-in_err-feed-clause-refused : goal.returns-in_err-feed-clause-refused
returns-in_err-feed-clause-refused g c =
    let known = g.F.Files.known c.args.files.now c.args.name.now in
    handed_on (IsNoCertificate g.V.Spelled.format known) c.from_residual.result _ c.from_residual.ensures
    (none_first g.V.Spelled.format known c.args.first.now c.in_err-feed.field-0.0 c.requires.first c.requires.version (c.in_err-feed.ensures.refused [] c.new-stream.ensures.fed))

pub returns-in_err-feed-clause-files : goal.returns-in_err-feed-clause-files
returns-in_err-feed-clause-files g c = record { blamed = ((λ e. absurd (unread_reads c.from_residual.result _ c.from_residual.ensures e)), λ other. refl); kept = refl; alike = refl }

pub returns-in_err-feed-clause-could : goal.returns-in_err-feed-clause-could
returns-in_err-feed-clause-could g c = λ e. absurd (unread_reads c.from_residual.result _ c.from_residual.ensures e)

pub returns-then-first-lt-HEADING-clause-fed : goal.returns-then-first-lt-HEADING-clause-fed
returns-then-first-lt-HEADING-clause-fed g c =
    let short : length c.args.first.now < 5 = search (rules, arith) in
    fed_short g.V.Spelled.format (g.F.Files.known c.args.files.now c.args.name.now) c.args.first.now _ c.requires.first short c.requires.version (c.in_ok-feed.ensures.fed [] c.new-stream.ensures.fed)

pub pieces-init : goal.pieces-init
pieces-init g c =
    let long : 5 ≤ length c.args.first.now = search (rules, arith) in
    record {
      story = search rules;
      least = long;
      most = c.requires.few;
      fed = fed_first g.V.Spelled.format (g.F.Files.known c.args.files.now c.args.name.now) c.args.first.now _ c.requires.first c.requires.version (c.in_ok-feed.ensures.fed [] c.new-stream.ensures.fed);
      kept = refl;
      unfailed = refl;
      alike = refl;
    }

pub returns-in_err-count-clause-files : goal.returns-in_err-count-clause-files
returns-in_err-count-clause-files g c =
    let all = c.pieces.invariant in
    read_and_handed _ _ _ _ _ _ all.kept all.unfailed all.alike c.from_residual-in_err-count.result _ c.from_residual-in_err-count.ensures c.in_err-count.ensures.files

pub returns-then-count-eq0-clause-files : goal.returns-then-count-eq0-clause-files
returns-then-count-eq0-clause-files g c =
    let all = c.pieces.invariant in
    read_well _ _ _ _ _ _ all.kept all.unfailed all.alike _ _ c.in_ok-count.ensures.files (λ e. cc) (λ e. cc)

pub returns-clause-files : goal.returns-clause-files
returns-clause-files g c =
    let all = c.pieces.invariant in
    read_so_far _ _ _ _ _ _ all.kept all.unfailed all.alike (λ e. cc)

pub returns-clause-refused : goal.returns-clause-refused
returns-clause-refused g c =
    let some : 0 < c.pieces.at = search (rules, arith) in
    fed_bytes g.V.Spelled.format (g.F.Files.known c.args.files.now c.args.name.now) c.pieces.at c.pieces.stream.stream some c.pieces.invariant.fed

use Rattle.std.proofs.Common.{◌≡◌, ◌∙◌, ap, sym, true}
use Rattle.zstory.specs.LoadedStory.{identity_of}
use Rattle.zperform.specs.Informing.{IsNotKept}
use Rattle.zperform.proofs.AcceptLemmas.{handed_on, read_on}
use Rattle.zperform.proofs.InfoLemmas.{no_certificate_kept, stream_kept, stream_unkept}
use Rattle.zperform.proofs.informing.kept_by.Goals as goal

pub returns-in_err-stream-clause-refused : goal.returns-in_err-stream-clause-refused
returns-in_err-stream-clause-refused g c =
    let known = g.F.Files.known c.args.files.now c.args.name.now in
    handed_on (IsNotKept g.V.Spelled.format known c.args.story) c.from_residual.result _ c.from_residual.ensures
    (no_certificate_kept g.V.Spelled.format known c.args.story c.in_err-stream.field-0.0 c.in_err-stream.ensures.refused)

pub returns-in_err-story-clause-refused : goal.returns-in_err-story-clause-refused
returns-in_err-story-clause-refused g c =
    let known = g.F.Files.known c.args.files.now c.args.name.now in
    handed_on (IsNotKept g.V.Spelled.format known c.args.story) c.from_residual-in_err-story.result _ c.from_residual-in_err-story.ensures
    (stream_unkept g.V.Spelled.format known c.args.story _ c.in_err-story.field-0.0 c.in_ok-stream.ensures.fed c.in_err-story.ensures.unread)

pub returns-then-not-is_of-clause-files : goal.returns-then-not-is_of-clause-files
returns-then-not-is_of-clause-files g c = read_on _ _ _ _ _ _ _ c.in_ok-stream.ensures.files (λ e. cc) (λ e. cc)

pub returns-clause-files : goal.returns-clause-files
returns-clause-files g c = read_on _ _ _ _ _ _ _ c.in_ok-stream.ensures.files (λ e. cc) (λ e. cc)

pub returns-then-not-is_of-clause-refused : goal.returns-then-not-is_of-clause-refused
returns-then-not-is_of-clause-refused g c =
    let known = g.F.Files.known c.args.files.now c.args.name.now in
    let same : c.in_ok-story.story ≡ c.args.story = c.in_ok-story.ensures.story ∙ c.in_ok-stream.ensures.story in
    record {
      certificate = c.in_ok-story.certificate;
      read = stream_kept g.V.Spelled.format known c.args.story _ c.in_ok-story.certificate c.in_ok-stream.ensures.fed c.in_ok-story.ensures.read;
      other = λ own. let is : c.is_of.result ≡ true = c.is_of.ensures.1 (own ∙ ap identity_of (sym same)) in absurd cc;
    }

pub returns-clause-kept : goal.returns-clause-kept
returns-clause-kept g c =
    let known = g.F.Files.known c.args.files.now c.args.name.now in
    let same : c.in_ok-story.story ≡ c.args.story = c.in_ok-story.ensures.story ∙ c.in_ok-stream.ensures.story in
    let is : c.is_of.result ≡ true = cc in
    record {
      certificate = c.in_ok-story.certificate;
      read = stream_kept g.V.Spelled.format known c.args.story _ c.in_ok-story.certificate c.in_ok-stream.ensures.fed c.in_ok-story.ensures.read;
      own = c.is_of.ensures.0 is ∙ ap identity_of same;
      has = c.kept_of.ensures;
    }

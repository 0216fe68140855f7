use Rattle.std.proofs.Common.{◌≡◌, ◌∙◌, Option, List, ℕ, ap, sym, subst, true}
use Rattle.zcert.specs.Certificate.{edition_of}
use Rattle.zcert.specs.Format.{version_of}
use Rattle.zstory.specs.LoadedStory.{LoadedStory, identity_of}
use Rattle.zperform.specs.Accepting.{HoldsStory}
use Rattle.zperform.specs.Showing.{IsShown, IsUnshown}
use Rattle.zperform.specs.declared.outcome.Problem.{Problem}
use Rattle.zperform.proofs.AcceptLemmas.{handed_on, read_on}
use Rattle.zperform.proofs.ShowLemmas.{memory_reads, memory_unshown, no_certificate_shown, other_unshown, stream_read, stream_unshown}
use Rattle.zperform.proofs.showing.shown_by.Goals as goal

pub returns-in_err-stream-clause-refused : goal.returns-in_err-stream-clause-refused
returns-in_err-stream-clause-refused g c =
    let certificate_known = g.F.Files.known c.args.files.now c.args.certificate.now in
    handed_on (λ (problem : Problem). (known : Option (List ℕ)) → HoldsStory known c.args.story → IsUnshown g.V.Domain.operations g.V.Spelled.format known certificate_known problem) c.from_residual.result _ c.from_residual.ensures
    (λ known held. no_certificate_shown _ _ known certificate_known _ held c.in_err-stream.field-0.0 c.in_err-stream.ensures.refused)

pub returns-in_err-story-clause-refused : goal.returns-in_err-story-clause-refused
returns-in_err-story-clause-refused g c =
    let certificate_known = g.F.Files.known c.args.files.now c.args.certificate.now in
    handed_on (λ (problem : Problem). (known : Option (List ℕ)) → HoldsStory known c.args.story → IsUnshown g.V.Domain.operations g.V.Spelled.format known certificate_known problem) c.from_residual-in_err-story.result _ c.from_residual-in_err-story.ensures
    (λ known held. stream_unshown _ _ known certificate_known c.args.story held _ c.in_err-story.field-0.0 c.in_ok-stream.ensures.fed c.in_err-story.ensures.unread)

pub returns-then-not-is_of-clause-files : goal.returns-then-not-is_of-clause-files
returns-then-not-is_of-clause-files g c = read_on _ _ _ _ _ _ _ c.in_ok-stream.ensures.files (λ e. cc) (λ e. cc)

pub returns-in_err-claims_of-clause-refused : goal.returns-in_err-claims_of-clause-refused
returns-in_err-claims_of-clause-refused g c =
    let certificate_known = g.F.Files.known c.args.files.now c.args.certificate.now in
    handed_on (λ (problem : Problem). (known : Option (List ℕ)) → HoldsStory known c.args.story → IsUnshown g.V.Domain.operations g.V.Spelled.format known certificate_known problem) c.from_residual-in_err-claims_of.result _ c.from_residual-in_err-claims_of.ensures
    (λ known held. memory_unshown g.V.Domain.operations g.V.Spelled.format known certificate_known c.args.story held)

pub returns-in_err-claims_of-clause-files : goal.returns-in_err-claims_of-clause-files
returns-in_err-claims_of-clause-files g c = read_on _ _ _ _ _ _ _ c.in_ok-stream.ensures.files (λ e. cc) (memory_reads c.from_residual-in_err-claims_of.result c.from_residual-in_err-claims_of.ensures)

pub returns-clause-files : goal.returns-clause-files
returns-clause-files g c = read_on _ _ _ _ _ _ _ c.in_ok-stream.ensures.files (λ e. cc) (λ e. cc)

pub returns-then-not-is_of-clause-refused : goal.returns-then-not-is_of-clause-refused
returns-then-not-is_of-clause-refused g c = λ known held.
    let certificate_known = g.F.Files.known c.args.files.now c.args.certificate.now in
    let read = stream_read g.V.Domain.operations g.V.Spelled.format known certificate_known c.args.story held _ c.in_ok-story.certificate c.in_ok-stream.ensures.fed c.in_ok-story.ensures.read in
    let same : c.in_ok-story.story ≡ c.args.story = c.in_ok-story.ensures.story ∙ c.in_ok-stream.ensures.story in
    other_unshown g.V.Domain.operations g.V.Spelled.format known certificate_known c.args.story held c.in_ok-story.certificate read
    (λ own. let is : c.is_of.result ≡ true = c.is_of.ensures.1 (own ∙ ap identity_of (sym same)) in absurd cc)

pub returns-clause-shown : goal.returns-clause-shown
returns-clause-shown g c = λ known held.
    let certificate_known = g.F.Files.known c.args.files.now c.args.certificate.now in
    let same : c.in_ok-story.story ≡ c.args.story = c.in_ok-story.ensures.story ∙ c.in_ok-stream.ensures.story in
    let is : c.is_of.result ≡ true = cc in
    record {
      story = c.args.story;
      certificate = c.in_ok-story.certificate;
      held = held;
      read = stream_read g.V.Domain.operations g.V.Spelled.format known certificate_known c.args.story held _ c.in_ok-story.certificate c.in_ok-stream.ensures.fed c.in_ok-story.ensures.read;
      own = c.is_of.ensures.0 is ∙ ap identity_of same;
      shown = subst (λ (s : LoadedStory). IsShown g.V.Domain.operations g.V.Told.set_text s c.in_ok-story.certificate (version_of g.V.Spelled.format (edition_of c.in_ok-story.certificate)) g.V.Told.kind_text c.args.address c.in_ok-claims_of.field-0.items) same c.in_ok-claims_of.ensures;
    }

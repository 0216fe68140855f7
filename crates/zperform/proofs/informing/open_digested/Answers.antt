use Rattle.std.proofs.Common.{◌≡◌, ◌∙◌, ap, inl, inr, refl, rules, subst, ℕ, List}
use Rattle.zjson.specs.Digest.{digest_text}
use Rattle.zperform.specs.Informing.{IsNoInfo}
use Rattle.zperform.specs.Playing.{Holds, IsUnloaded}
use Rattle.zperform.proofs.AcceptLemmas.{handed_on, no_story}
use Rattle.zperform.proofs.InfoLemmas.{digested, unread_so}
use Rattle.zperform.proofs.informing.open_digested.Goals as goal

pub returns-in_err-file-clause-refused : goal.returns-in_err-file-clause-refused
returns-in_err-file-clause-refused g c =
    handed_on (IsNoInfo (g.F.Files.known c.args.files.now c.args.name.now)) c.from_residual.result _ c.from_residual.ensures (unread_so _ c.in_err-file.field-0.0 c.in_err-file.ensures.failed)

pub returns-in_err-story-clause-refused : goal.returns-in_err-story-clause-refused
returns-in_err-story-clause-refused g c =
    let same : c.deref.result.now ≡ c.in_ok-file.file.items = search rules in
    let unloaded = subst (λ (bytes : List ℕ). IsUnloaded bytes c.in_err-story.field-0.0) same c.in_err-story.ensures.unloaded in
    handed_on (IsNoInfo (g.F.Files.known c.args.files.now c.args.name.now)) c.from_residual-in_err-story.result _ c.from_residual-in_err-story.ensures
    (inl (no_story _ c.in_ok-file.file.items c.in_ok-file.ensures.read c.in_err-story.field-0.0 unloaded))

pub returns-in_err-digest-clause-refused : goal.returns-in_err-digest-clause-refused
returns-in_err-digest-clause-refused g c =
    handed_on (IsNoInfo (g.F.Files.known c.args.files.now c.args.name.now)) c.from_residual-in_err-digest.result _ c.from_residual-in_err-digest.ensures (inr refl)

pub returns-clause-held : goal.returns-clause-held
returns-clause-held g c =
    let loaded : c.deref.result.now ≡ c.in_ok-file.file.items = search rules in
    let hashed : c.deref-2.result.now ≡ c.in_ok-file.file.items = search rules in
    digested _ c.in_ok-file.file.items c.in_ok-file.ensures.read c.in_ok-story.story _ (subst (λ (bytes : List ℕ). Holds bytes c.in_ok-story.story) loaded c.in_ok-story.ensures.loaded)
    (c.in_ok-digest.ensures ∙ ap digest_text hashed)

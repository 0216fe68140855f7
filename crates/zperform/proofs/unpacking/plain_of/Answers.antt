use Rattle.std.proofs.Common.{◌≡◌, ap, inl, inr, List, Option, ℕ}
use Rattle.zperform.specs.Unpacking.{IsNotUnpacked, IsPacked}
use Rattle.zperform.proofs.AcceptLemmas.{for_reason, handed_on, read_behind}
use Rattle.zperform.proofs.UnpackLemmas.{unpacked_of}
use Rattle.zperform.proofs.unpacking.plain_of.Goals as goal

pub returns-in_err-story-clause-refused : goal.returns-in_err-story-clause-refused
returns-in_err-story-clause-refused g c =
    handed_on (IsNotUnpacked (g.F.Files.known c.args.files.now c.args.story.now) (g.F.Files.known c.args.files.now c.args.save.now)) c.from_residual.result _ c.from_residual.ensures (inl c.in_err-story.ensures.refused)

pub returns-clause-refused : goal.returns-clause-refused
returns-clause-refused g c =
    let story_known = g.F.Files.known c.args.files.now c.args.story.now in
    let save_known = g.F.Files.known c.args.files.now c.args.save.now in
    for_reason (IsPacked save_known c.in_ok-story.story) (IsNotUnpacked story_known save_known) c.plain_for.result (λ problem why. inr (c.in_ok-story.story, c.in_ok-story.ensures.held, why)) (rw (← c.open_story.ensures.files.kept) c.plain_for.ensures.refused)

pub returns-clause-unpacked : goal.returns-clause-unpacked
returns-clause-unpacked g c =
    let name = c.args.save.now in
    let opened = c.in_ok-story.ensures in
    let same : g.F.Files.known c.open_story.new.files name ≡ g.F.Files.known c.args.files.now name = ap (λ (known : List ℕ → Option (List ℕ)). known name) opened.files.kept in
    unpacked_of c.plain_for.result (λ plain. plain.items) (g.F.Files.known c.args.files.now c.args.story.now) c.in_ok-story.story _ _ opened.held same c.plain_for.ensures.unpacked

pub returns-clause-files : goal.returns-clause-files
returns-clause-files g c =
    let opened = c.in_ok-story.ensures.files in
    read_behind _ _ _ _ _ _ opened.kept (opened.blamed.1 (λ e. cc)) opened.alike _ _ c.plain_for.ensures.files (λ e. e) (λ e. e)

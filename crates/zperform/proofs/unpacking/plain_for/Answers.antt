use Rattle.std.proofs.Common.{◌≡◌, ap, Err, List, ℕ, rules, subst}
use Rattle.zunpack.specs.Causes.{IsCause, IsRefused}
use Rattle.zperform.specs.Unpacking.{IsPacked, IsUnpacked}
use Rattle.zperform.proofs.AcceptLemmas.{handed_on}
use Rattle.zperform.proofs.UnpackLemmas.{packed_for, save_read, unread_packed}
use Rattle.zperform.proofs.unpacking.plain_for.Goals as goal

pub returns-in_err-file-clause-refused : goal.returns-in_err-file-clause-refused
returns-in_err-file-clause-refused g c =
    let save_known = g.F.Files.known c.args.files.now c.args.save.now in
    let problem = c.in_err-file.field-0.0 in
    handed_on (IsPacked save_known c.args.story.now) c.from_residual.result _ c.from_residual.ensures
    (unread_packed save_known c.args.story.now problem c.in_err-file.ensures.failed (λ is. c.in_err-file.ensures.wanted (ap Err is)))

pub returns-in_err-plain-clause-refused : goal.returns-in_err-plain-clause-refused
returns-in_err-plain-clause-refused g c =
    let save_known = g.F.Files.known c.args.files.now c.args.save.now in
    let taken = c.in_ok-file.file.items in
    let same : c.deref.result.now ≡ taken = search rules in
    let error = c.in_err-plain.field-0.0 in
    handed_on (IsPacked save_known c.args.story.now) c.from_residual-in_err-plain.result _ c.from_residual-in_err-plain.ensures
    (packed_for save_known taken c.in_ok-file.ensures.read c.args.story.now error (subst (λ (bytes : List ℕ). IsRefused (IsCause c.args.story.now bytes) error) same c.in_err-plain.ensures.lowest_cause))

pub returns-clause-unpacked : goal.returns-clause-unpacked
returns-clause-unpacked g c =
    let save_known = g.F.Files.known c.args.files.now c.args.save.now in
    let taken = c.in_ok-file.file.items in
    let same : c.deref.result.now ≡ taken = search rules in
    (taken, save_read save_known taken c.in_ok-file.ensures.read, subst (λ (bytes : List ℕ). IsUnpacked c.args.story.now bytes c.in_ok-plain.plain.items) same c.in_ok-plain.ensures.found)

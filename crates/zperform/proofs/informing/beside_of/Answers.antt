use Rattle.std.proofs.Common.{◌≡◌, ap, false, Option, List, ℕ, rules}
use Rattle.zcert.specs.Format.{interval_format}
use Rattle.zcert.specs.Lists.{values_format}
use Rattle.zperform.proofs.AcceptLemmas.{first_read}
use Rattle.zperform.proofs.InfoLemmas.{beside_intervals, beside_lists, beside_unread, nothing_known, untold_beside}
use Rattle.zperform.proofs.informing.beside_of.Goals as goal

pub returns-then-not-is_there-clause-beside : goal.returns-then-not-is_there-clause-beside
returns-then-not-is_there-clause-beside g c =
    let none : c.is_there.result ≡ false = cc in
    nothing_known _ c.is_there.result c.is_there.ensures none

pub kept_by-requires-clause-first : goal.kept_by-requires-clause-first
kept_by-requires-clause-first g c =
    let same : c.in-Ok.first.items ≡ c.deref-then-has_lists.result.now = search rules in
    first_read _ _ c.args.name.now _ _ c.read_file.ensures.files.kept same c.in-Ok.ensures.read

pub kept_by-requires-else-has_lists-clause-first : goal.kept_by-requires-else-has_lists-clause-first
kept_by-requires-else-has_lists-clause-first g c =
    let same : c.in-Ok.first.items ≡ c.deref-else-has_lists.result.now = search rules in
    first_read _ _ c.args.name.now _ _ c.read_file.ensures.files.kept same c.in-Ok.ensures.read

pub returns-in-Err-clause-beside : goal.returns-in-Err-clause-beside
returns-in-Err-clause-beside g c = (beside_unread (g.F.Files.known c.args.files.now c.args.name.now) c.args.story c.in-Err.problem _ c.beside_by.ensures c.in-Err.ensures.failed).0

pub returns-in-Err-clause-untold : goal.returns-in-Err-clause-untold
returns-in-Err-clause-untold g c = (beside_unread (g.F.Files.known c.args.files.now c.args.name.now) c.args.story c.in-Err.problem _ c.beside_by.ensures c.in-Err.ensures.failed).1

pub returns-then-has_lists-clause-beside : goal.returns-then-has_lists-clause-beside
returns-then-has_lists-clause-beside g c =
    beside_lists _ _ c.args.story c.kept_by.result _ c.beside_by-then-has_lists.ensures (ap (λ (known : List ℕ → Option (List ℕ)). known c.args.name.now) c.read_file.ensures.files.kept) c.kept_by.ensures.kept c.kept_by.ensures.refused

pub returns-clause-beside : goal.returns-clause-beside
returns-clause-beside g c =
    beside_intervals _ _ c.args.story c.kept_by-else-has_lists.result _ c.beside_by-else-has_lists.ensures (ap (λ (known : List ℕ → Option (List ℕ)). known c.args.name.now) c.read_file.ensures.files.kept) c.kept_by-else-has_lists.ensures.kept c.kept_by-else-has_lists.ensures.refused

pub returns-then-has_lists-clause-untold : goal.returns-then-has_lists-clause-untold
returns-then-has_lists-clause-untold g c = untold_beside values_format _ c.args.story c.kept_by.result _ c.beside_by-then-has_lists.ensures c.kept_by.ensures.refused

pub returns-clause-untold : goal.returns-clause-untold
returns-clause-untold g c = untold_beside interval_format _ c.args.story c.kept_by-else-has_lists.result _ c.beside_by-else-has_lists.ensures c.kept_by-else-has_lists.ensures.refused

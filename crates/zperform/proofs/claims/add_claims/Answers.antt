use Rattle.std.proofs.Common.{◌≡◌, ℕ, List, ◌++◌, IfOk, codes, flat_map, subst, rules}
use Rattle.zcert.specs.Certificate.{edition_of}
use Rattle.zcert.specs.Format.{version_of}
use Rattle.zperform.specs.Numbered.{numbered}
use Rattle.zperform.specs.Showing.{claims_text, heading_text, limit_line, range_line, routine_line, set_line}
use Rattle.zperform.proofs.ShowLemmas.{five_added}
use Rattle.zperform.proofs.claims.add_claims.Goals as goal

pub returns : goal.returns
returns g c =
    let old = c.args.text.now.items in
    let certificate = c.args.certificate.now in
    let version = version_of g.V.Spelled.format (edition_of certificate) in
    let kind = g.V.Told.kind_text in
    let set_text = g.V.Told.set_text in
    let a = heading_text version kind in
    let b = limit_line certificate.limit in
    let d = flat_map range_line certificate.ranges in
    let e = numbered (set_line set_text (codes "global ")) 16 certificate.globals in
    let f = numbered (routine_line set_text) 1 certificate.routines in
    let heading : c.add_heading.new.text.items ≡ old ++ a = search rules in
    let limit : c.add_limit.new.text.items ≡ c.add_heading.new.text.items ++ b = search rules in
    let ranges : c.add_ranges.new.text.items ≡ c.add_limit.new.text.items ++ d = search rules in
    let sets : c.add_sets.new.text.items ≡ c.add_ranges.new.text.items ++ e = search rules in
    let all : c.add_sets.new.text.items ++ f ≡ old ++ claims_text set_text version kind certificate = rw (sets, ranges, limit, heading) (five_added old a b d e f) in
    let last : IfOk c.add_routines.result (λ u. c.add_routines.new.text.items ≡ c.add_sets.new.text.items ++ f) = search rules in
    subst (λ (xs : List ℕ). IfOk c.add_routines.result (λ u. c.add_routines.new.text.items ≡ xs)) all last

use Rattle.std.proofs.Common.{◌≡◌, ◌∷◌, [], ◌++◌, codes, decimal, pos, rules}
use Rattle.zperform.specs.Report.{place_text}
use Rattle.zperform.proofs.ShowLemmas.{four_added}
use Rattle.zperform.proofs.claims.add_unspelled.Goals as goal

pub returns : goal.returns
returns c =
    let old = c.args.text.now.items in
    let end = codes " no instruction" ++ 10 ∷ [] in
    let place : c.add_address.new.text.items ≡ old ++ place_text (pos c.args.address) = search rules in
    let space : c.push.new.self.items ≡ c.add_address.new.text.items ++ 32 ∷ [] = search rules in
    let number : c.extend_from_slice.new.self.items ≡ c.push.new.self.items ++ decimal c.args.routine = search rules in
    let last : c.extend_from_slice-2.new.self.items ≡ c.extend_from_slice.new.self.items ++ end = c.in_ok-extend_from_slice-2.ensures.items in
    rw (last, number, space, place) (four_added old (place_text (pos c.args.address)) (32 ∷ []) (decimal c.args.routine) end)

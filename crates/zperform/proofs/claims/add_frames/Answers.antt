use Rattle.std.proofs.Common.{◌≡◌, ◌∷◌, [], ◌++◌, codes, decimal, rules}
use Rattle.zperform.proofs.ShowLemmas.{three_added}
use Rattle.zperform.proofs.claims.add_frames.Goals as goal

pub returns : goal.returns
returns c =
    let old = c.args.text.now.items in
    let head = codes "frame limit " in
    let first : c.extend_from_slice.new.self.items ≡ old ++ head = c.in_ok-extend_from_slice.ensures.items in
    let number : c.extend_from_slice-2.new.self.items ≡ c.extend_from_slice.new.self.items ++ decimal c.args.limit = search rules in
    let last : c.push.new.self.items ≡ c.extend_from_slice-2.new.self.items ++ 10 ∷ [] = search rules in
    rw (last, number, first) (three_added old head (decimal c.args.limit) (10 ∷ []))

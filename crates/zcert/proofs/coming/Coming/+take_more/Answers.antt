use Rattle.std.proofs.Common.{rules, ◌≡◌, ◌<◌, ◌≤◌, [], ◌∷◌, ◌++◌, length}
use Rattle.zdomain.specs.Few.{turned}
use Rattle.zcert.specs.Numbers.{Word, HasRoom}
use Rattle.zcert.proofs.Words.{still_coming}
use Rattle.zcert.proofs.coming.Coming.+take_more.Goals as goal

pub invariant_of-self : goal.invariant_of-self
invariant_of-self t c =
    let it = c.args.self.now in
    let word = c.word_of-word.result in
    let room : HasRoom Word word = search rules in
    let place : c.from-place.result ≡ turned word = search rules in
    let high : it.floor ≤ turned word = search rules in
    let more : length (it.words.items ++ word ∷ []) < it.count = search rules in
    record { coming = rw (c.push.ensures.items, place) (still_coming it.count it.floor word it.words.items it.coming room high more) }

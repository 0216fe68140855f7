use Rattle.std.proofs.Common.{rules, refl, false, ◌≡◌, ◌<◌, ◌≤◌, ◌+◌, [], ◌∷◌, ◌++◌, length, ◌∙◌}
use Rattle.zdomain.specs.Few.{turned, is_scattered}
use Rattle.zcert.specs.Numbers.{Word, HasRoom}
use Rattle.zcert.proofs.Words.{none_came, order_refused, last_read, still_coming, made_list, no_list}
use Rattle.zcert.proofs.coming.Coming.take.Goals as goal

pub returns-then-place-self-clause-refused : goal.returns-then-place-self-clause-refused
returns-then-place-self-clause-refused c =
    let it = c.args.self.now in
    let room : HasRoom Word c.args.word = search rules in
    let low : turned c.args.word < it.floor = search rules in
    (order_refused it.count it.floor c.args.word it.words.items it.coming room low, λ e. absurd cc)

pub invariant_of-self : goal.invariant_of-self
invariant_of-self c =
    let it = c.args.self.now in
    let room : HasRoom Word c.args.word = search rules in
    let place : c.from-place.result ≡ turned c.args.word = search rules in
    let high : it.floor ≤ turned c.args.word = search rules in
    let more : length (it.words.items ++ c.args.word ∷ []) < it.count = search rules in
    record { coming = rw (c.push.ensures.items, place) (still_coming it.count it.floor c.args.word it.words.items it.coming room high more) }

pub invariant_of-self-2 : goal.invariant_of-self-2
invariant_of-self-2 c =
    let it = c.args.self.now in
    record { coming = rw c.clear.ensures (none_came it.count it.coming.some it.coming.few) }

pub returns-in-Some-clause-whole : goal.returns-in-Some-clause-whole
returns-in-Some-clause-whole c =
    let it = c.args.self.now in
    let word = c.args.word in
    let room : HasRoom Word word = search rules in
    let high : it.floor ≤ turned word = search rules in
    let all : it.count ≡ length it.words.items + 1 = search rules in
    let same : c.in-Some.list.few ≡ it.words.items ++ word ∷ [] = search rules in
    last_read it.count it.floor word it.words.items it.coming room high all ∙ rw (made_list c.in-Some.list (it.words.items ++ word ∷ []) same) refl

pub returns-in-None-clause-refused : goal.returns-in-None-clause-refused
returns-in-None-clause-refused c =
    let it = c.args.self.now in
    let word = c.args.word in
    let room : HasRoom Word word = search rules in
    let high : it.floor ≤ turned word = search rules in
    let all : it.count ≡ length it.words.items + 1 = search rules in
    let same : is_scattered (it.words.items ++ word ∷ []) ≡ false = search rules in
    (last_read it.count it.floor word it.words.items it.coming room high all ∙ rw (no_list (it.words.items ++ word ∷ []) same) refl, λ e. absurd cc)

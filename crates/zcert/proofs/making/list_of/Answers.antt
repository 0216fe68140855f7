use Rattle.std.proofs.Common.{◌≡◌, ◌++◌, List, ℕ, length, arith, sym, ap, ◌∙◌}
use Rattle.std.proofs.lemmas.Bool.{false≢true}
use Rattle.zdomain.specs.declared.values.Scattered.{Scattered}
use Rattle.zdomain.specs.Few.{is_scattered}
use Rattle.zcert.specs.FormatLaw.Sets.{is_true}
use Rattle.zcert.specs.Keeping.{Spell, words_in}
use Rattle.zcert.proofs.Fronts.{list_short, same_list, words_back}
use Rattle.zcert.proofs.making.list_of.Goals as goal

pub take_words-requires : goal.take_words-requires
take_words-requires c =
    let none : length c.new-words.result.items ≡ 0 = ap length c.new-words.ensures in
    let short = list_short c.requires.0 c.args.bytes.now c.requires.1 in
    omega (arith, none, short)

-- the words are those of the list
words : (bytes items : List ℕ) (list : Scattered) → Spell list.few bytes → items ≡ words_in bytes → items ≡ list.few
words bytes items list spell e = e ∙ ap words_in spell.are ∙ words_back list.few spell.have

pub unreachable-requires : goal.unreachable-requires
unreachable-requires c =
    let list = c.requires.0 in
    let items = c.as_slice.ensures.value ∙ c.take_words.ensures ∙ ap (λ (ws : List ℕ). ws ++ words_in c.args.bytes.now) c.new-words.ensures in
    let same = words c.args.bytes.now c.as_slice.result.now list c.requires.1 items in
    false≢true (sym c.in-None.ensures.none ∙ ap is_scattered same ∙ is_true (is_scattered list.few) list.scattered.is)

pub returns : goal.returns
returns c list spell =
    let items = c.as_slice.ensures.value ∙ c.take_words.ensures ∙ ap (λ (ws : List ℕ). ws ++ words_in c.args.bytes.now) c.new-words.ensures in
    same_list c.in-Some.list list (c.in-Some.ensures.some ∙ words c.args.bytes.now c.as_slice.result.now list spell items)

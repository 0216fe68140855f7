use Rattle.std.proofs.Common.{◌+◌, ◌*◌, ◌++◌, ◌∷◌, [], List, ℕ, get_or, sym, ap, ◌∙◌, append_assoc}
use Rattle.std.proofs.lemmas.List.{append-nil}
use Rattle.zcert.proofs.Fronts.{no_words, one_word_in}
use Rattle.zcert.proofs.making.+take_words.Goals as goal

pub returns-in_default : goal.returns-in_default
returns-in_default t c = rw (no_words c.args.bytes.now c.in_default.len_below) (sym (append-nil c.args.words.now.items))

pub returns-in-len2-up : goal.returns-in-len2-up
returns-in-len2-up t c =
    let bytes = c.args.bytes.now in
    let word = get_or bytes 0 0 * 256 + get_or bytes 1 0 in
    rw (c.take_words.ensures, c.push.ensures.items, c.from_be_bytes.ensures) (append_assoc c.args.words.now.items (word ∷ []) _ ∙ ap (λ (ws : List ℕ). c.args.words.now.items ++ ws) (one_word_in bytes c.in-len2-up.len_at_least))

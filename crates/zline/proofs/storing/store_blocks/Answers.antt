use Rattle.std.proofs.Common.{◌≡◌, ◌∙◌, ◌+◌, ◌-◌, ◌*◌, ap, arith, length, refl, take, sym}
use Rattle.zdict.specs.Left.{span_of, tokens_left}
use Rattle.zdict.specs.Tokens.{separators}
use Rattle.zline.specs.Storing.{block, with_blocks, words_of}
use Rattle.zline.proofs.Blocks.{all_left, blocks_begin, blocks_end, blocks_on, one_more, part_next, parts_begin, put_at, take_none}
use Rattle.zline.proofs.Keeping.{bytes_size}
use Rattle.zline.proofs.storing.store_blocks.Goals as goal

pub loop-count-init : goal.loop-count-init
loop-count-init c =
    let left = c.tokens-words.ensures in
    let words = words_of c.args.story.now.memory c.args.limit c.args.text.now in
    let same : words ≡ take c.args.limit (tokens_left c.tokens-words.result) = ap (take c.args.limit) (sym left) in
    record {
      few = omega arith;
      size = refl;
      parts = parts_begin (separators c.args.story.now.memory) c.args.text.now (tokens_left c.tokens-words.result) left;
      counted = all_left c.args.limit (tokens_left c.tokens-words.result) words same;
      same = blocks_begin c.args.story.now.memory c.args.place c.args.limit words (tokens_left c.tokens-words.result) c.args.memory.now same;
    }

pub returns-in_default-clause-memory : goal.returns-in_default-clause-memory
returns-in_default-clause-memory c =
    let none = c.in_default.ensures.steps.0 in
    blocks_end c.args.story.now.memory _ _ c.loop-count.memory _ (take_none (c.args.limit - c.loop-count.count) (tokens_left c.loop-count.words) none) c.loop-count.invariant.same

pub loop-count-preserved : goal.loop-count-preserved
loop-count-preserved c =
    let loop = c.loop-count in
    let story = c.args.story.now.memory in
    let step = c.in-Some.ensures.steps in
    let word = span_of c.in-Some.word in
    let begin = c.args.place + 4 * loop.count in
    let put = put_at c.args.place c.from.result loop.count c.block.result (block story word) loop.memory _ c.from.ensures c.block.ensures c.put_bytes.ensures in
    record {
      few = omega (arith, c.loop-count-test.true);
      size = ap length put ∙ bytes_size begin (block story word) loop.memory (omega (arith, c.loop-count-test.true, c.requires.room, loop.invariant.size)) ∙ loop.invariant.size;
      parts = (part_next c.args.text.now word (tokens_left c.next.new.self) (tokens_left loop.words) step loop.invariant.parts).1;
      counted = one_more c.args.limit loop.count _ word (tokens_left c.next.new.self) (tokens_left loop.words) c.loop-count-test.true step loop.invariant.counted;
      same = blocks_on story c.args.place c.args.limit loop.count word (tokens_left c.next.new.self) (tokens_left loop.words) loop.memory _ c.loop-count-test.true step loop.invariant.same ∙ ap (with_blocks story (c.args.place + 4 * (loop.count + 1)) (take (c.args.limit - (loop.count + 1)) (tokens_left c.next.new.self))) (sym put);
    }

pub returns-clause-memory : goal.returns-clause-memory
returns-clause-memory c =
    let none : c.args.limit - c.loop-count.count ≡ 0 = omega (arith, c.loop-count-test.false) in
    blocks_end c.args.story.now.memory _ _ c.loop-count.memory _ (ap (λ k. take k (tokens_left c.loop-count.words)) none) c.loop-count.invariant.same

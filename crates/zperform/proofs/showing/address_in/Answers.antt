use Rattle.std.proofs.Common.{◌∙◌, ◌≤◌, length, arith, rules, sym}
use Rattle.zperform.proofs.AddressLemmas.{address_read}
use Rattle.zperform.proofs.showing.address_in.Goals as goal

pub returns : goal.returns
returns c =
    let few : length c.args.word.now ≤ 5 = search (rules, arith) in
    c.ok.ensures.value ∙ address_read c.args.word.now c.from_str_radix.result few (sym c.has_plus.ensures ∙ c.if-has_plus.false) c.from_str_radix.ensures.value

use Rattle.std.proofs.Common.{◌≡◌, ◌++◌, codes, length, List, ℕ, rules, subst, sym}
use Rattle.std.specs.Prelude.{OnOk, string_bytes}
use Rattle.zinfo.specs.Text.{line_of}
use Rattle.zinfo.proofs.Entries.{some_there, none_there}
use Rattle.zinfo.proofs.text.push_entries.Goals as goal

pub returns-then-is_empty : goal.returns-then-is_empty
returns-then-is_empty c =
    let empty : length c.args.entries.now ≡ 0 = search rules in
    subst (λ (l : List ℕ). OnOk c.push_line.result (string_bytes c.push_line.new.text ≡ string_bytes c.args.text.now ++ line_of (codes "opcodes not played") l)) (sym (none_there c.args.entries.now empty)) c.push_line.ensures

pub returns-else-is_empty : goal.returns-else-is_empty
returns-else-is_empty c =
    let there : length c.args.entries.now ≡ 0 → ⊥ = search rules in
    subst (λ (l : List ℕ). OnOk c.push_line-else-is_empty.result (string_bytes c.push_line-else-is_empty.new.text ≡ string_bytes c.args.text.now ++ line_of (codes "opcodes not played") l)) (sym (some_there c.args.entries.now there)) c.push_line-else-is_empty.ensures

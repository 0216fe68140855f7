use Rattle.std.proofs.Common.{◌≡◌, ◌==◌, ◌||◌, ◌++◌, ◌∙◌, List, ℕ, [], ◌∷◌, true, false, not, string_bytes, append_assoc, ap, rules}
use Rattle.zdebug.specs.Shown.{is_plain, shown_byte}
use Rattle.zdebug.proofs.Escaped.{as_it_is, with_backslash}
use Rattle.zdebug.proofs.shown.push_escaped_byte.Goals as goal
use Rattle.zdebug.proofs.shown.push_escaped_byte.Goals.{then-begins_escaped+in_ok-push_str, else-begins_escaped}

pub returns : goal.returns
returns c = elim c.if-begins_escaped.branch [
  | then-begins_escaped+in_ok-push_str w ↦
      let is : (c.args.byte == 34 || not (is_plain c.args.byte)) ≡ true = search rules in
      let front : string_bytes c.if-begins_escaped.text ≡ string_bytes c.args.text.now ++ 92 ∷ [] = search rules in
      let behind : string_bytes c.push_byte.new.text ≡ string_bytes c.if-begins_escaped.text ++ shown_byte c.args.byte = search rules in
      rw (with_backslash c.args.byte c.ranges.byte.fits is) (behind ∙ (ap (λ (l : List ℕ). l ++ shown_byte c.args.byte) front ∙ append_assoc (string_bytes c.args.text.now) (92 ∷ []) (shown_byte c.args.byte)))
  | else-begins_escaped w ↦
      let is : (c.args.byte == 34 || not (is_plain c.args.byte)) ≡ false = search rules in
      rw (as_it_is c.args.byte c.ranges.byte.fits is) (search rules)
]

use Rattle.std.proofs.Common.{◌≡◌, ◌++◌, ℕ, List, append_assoc, subst}
use Rattle.std.specs.Prelude.{OnOk}
use Rattle.zcert.specs.declared.parts.Fact.{Fact}
use Rattle.zcert.specs.declared.parts.Range.{Range}
use Rattle.zcert.specs.Numbers as numbers
use Rattle.zcert.specs.Spelling.{counted, facts_bytes, range_bytes, values_bytes}
use Rattle.zcert.specs.View.{content_of}
use Rattle.zcert.proofs.writing.put_all.Goals as goal

-- what was put, part by part
all_put : (old front ranges values routines instructions facts a b c d : List ℕ) → a ≡ old ++ front → b ≡ a ++ ranges → c ≡ b ++ values → d ≡ c ++ (routines ++ instructions) → d ++ facts ≡ old ++ (front ++ ranges ++ values ++ routines ++ instructions ++ facts)
all_put old front ranges values routines instructions facts a b c d ea eb ec ed = rw (ed, ec, eb, ea) (simp append_assoc)

pub returns : goal.returns
returns g c =
    let format = g.V.Spelled.format in
    let contents = content_of c.args.contents.now in
    let ranges = subst (λ (rs : List Range). c.put_ranges.new.out.items ≡ c.put_front.new.out.items ++ counted numbers.RangeCount range_bytes rs) c.deref.ensures.value c.in_ok-put_ranges.ensures in
    let values = subst (λ (vs : List _). c.put_values.new.out.items ≡ c.put_ranges.new.out.items ++ values_bytes format vs) c.deref-2.ensures.value c.in_ok-put_values.ensures in
    let stated = subst (λ (fs : List (Fact _)). OnOk c.put_stated.result (c.put_stated.new.out.items ≡ c.put_code.new.out.items ++ facts_bytes format contents.stating fs)) c.deref-3.ensures.value c.put_stated.ensures in
    subst (λ (bytes : List ℕ). OnOk c.put_stated.result (c.put_stated.new.out.items ≡ bytes)) (all_put c.args.out.now.items _ _ _ _ _ _ _ _ _ _ c.in_ok-put_front.ensures ranges values c.in_ok-put_code.ensures) stated

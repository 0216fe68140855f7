use Rattle.std.proofs.Common.{◌≡◌, true, false, refl, sym, ◌∙◌, rules, tests}
use Rattle.std.specs.Prelude.{is_some}
use Rattle.zquetzal.specs.declared.limits.TheConstants.{UMEM}
use Rattle.zquetzal.specs.Causes.{of_kind}
use Rattle.zunpack.specs.View.{seen_parts, the_only}
use Rattle.zunpack.proofs.Made.{both_there, none_due, packed_twice, parts_so, some_due}
use Rattle.zunpack.proofs.parts.parts_of.Goals as goal

pub returns-then-is_some-clause-twice : goal.returns-then-is_some-clause-twice
returns-then-is_some-clause-twice c =
    let given : is_some c.only.result ≡ true = sym c.is_some.ensures ∙ search (rules, tests) in (
      refl,
      λ chunks cut.
          let due = some_due (λ x. x.now) c.only.result (the_only (of_kind UMEM chunks)) (c.only.ensures chunks cut) given in
          both_there c.args.body.now due.0 chunks c.requires cut due.1,
    )

pub returns-in_default-only-clause-twice : goal.returns-in_default-only-clause-twice
returns-in_default-only-clause-twice c = (refl, λ chunks cut. packed_twice c.args.body.now chunks c.requires cut (c.in_default-only.ensures chunks cut))

pub returns-clause-found : goal.returns-clause-found
returns-clause-found c = λ chunks cut.
    let none : is_some c.only.result ≡ false = sym c.is_some.ensures ∙ search (rules, tests) in
    let plain = none_due (λ x. x.now) c.only.result (the_only (of_kind UMEM chunks)) (c.only.ensures chunks cut) none in
    let p = seen_parts (record { header = c.in-Some.header; packed = c.in-Some-only.packed; stacks = c.in-Some-only-2.stacks }) in
    parts_so c.args.body.now p chunks c.requires cut plain (c.in-Some.ensures chunks cut) (c.in-Some-only.ensures chunks cut) (c.in-Some-only-2.ensures chunks cut)

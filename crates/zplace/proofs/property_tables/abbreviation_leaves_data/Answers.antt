use Rattle.std.proofs.Common.{ℕ, ◌≡◌, ◌+◌, ◌*◌, refl, sym, subst, arith}
use Rattle.zstory.specs.LoadedStory.{abbreviations}
use Rattle.zplace.specs.declared.places.Places.TheVariants.{Run}
use Rattle.zplace.specs.Places.{LeavesData, TextLeavesData}
use Rattle.zplace.proofs.property_tables.abbreviation_leaves_data.Goals as goal

pub returns-then-leaves_data : goal.returns-then-leaves_data
returns-then-leaves_data c =
    let at : c.abbreviations.result + 2 * c.from.result ≡ abbreviations c.args.story.now + 2 * c.args.number = (let a = c.abbreviations.ensures.value in let b = c.from.ensures in omega (arith, a, b)) in (
      λ yes. record {
        entry = subst (λ (k : ℕ). LeavesData c.args.story.now (Run k 2)) at (c.if-leaves_data.ensures.0 refl);
        text = subst (TextLeavesData c.args.story.now) at (c.text_leaves_data.ensures.0 yes);
      },
      λ leaves. c.text_leaves_data.ensures.1 (subst (TextLeavesData c.args.story.now) (sym at) leaves.text),
    )

pub returns-else-leaves_data : goal.returns-else-leaves_data
returns-else-leaves_data c =
    let at : c.abbreviations.result + 2 * c.from.result ≡ abbreviations c.args.story.now + 2 * c.args.number = (let a = c.abbreviations.ensures.value in let b = c.from.ensures in omega (arith, a, b)) in
    (λ yes. absurd (let e = c.if-leaves_data.false in cc), λ leaves. c.leaves_data.ensures.1 (subst (λ (k : ℕ). LeavesData c.args.story.now (Run k 2)) (sym at) leaves.entry))

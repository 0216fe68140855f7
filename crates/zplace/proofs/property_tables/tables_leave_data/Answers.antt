use Rattle.std.proofs.Common.{ℕ, refl, sym, subst}
use Rattle.zplace.specs.declared.places.Places.TheVariants.{Run}
use Rattle.zplace.specs.Places.{LeavesData}
use Rattle.zplace.proofs.property_tables.tables_leave_data.Goals as goal

pub returns-then-leaves_data : goal.returns-then-leaves_data
returns-then-leaves_data c = (
  λ yes. (
    subst (λ (from : ℕ). LeavesData c.args.story.now (Run from 480)) c.globals.ensures.value (c.if-leaves_data.ensures.0 refl),
    subst (LeavesData c.args.story.now) c.object_entries.ensures (c.leaves_data-then-leaves_data.ensures.0 yes),
  ),
  λ both. c.leaves_data-then-leaves_data.ensures.1 (subst (LeavesData c.args.story.now) (sym c.object_entries.ensures) both.1),
)

pub returns-else-leaves_data : goal.returns-else-leaves_data
returns-else-leaves_data c = (
  λ yes. absurd (let e = c.if-leaves_data.false in cc),
  λ both. c.leaves_data.ensures.1 (subst (λ (from : ℕ). LeavesData c.args.story.now (Run from 480)) (sym c.globals.ensures.value) both.0),
)

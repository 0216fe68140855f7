use Rattle.std.proofs.Common.{rules, ◌≡◌, refl, subst, w32, ℤ, of_z, to_z}
use Rattle.std.specs.Int.{cast_signed}
use Rattle.zdomain.specs.Values.{values_operations}
use Rattle.zcert.specs.Listed.{seen}
use Rattle.zfind.specs.declared.error.Obstacle.TheVariants.{Place}
use Rattle.zfind.specs.Finding.{IsBrokenIn}
use Rattle.zfind.proofs.Telling.{broken_where_listed}
use Rattle.zfind.proofs.obstacles.certain_obstacle.Goals as goal

pub returns-in-loop-index : goal.returns-in-loop-index
returns-in-loop-index c =
    let listed = c.instruction-listed in
    let same : cast_signed w32 listed.result.address ≡ to_z w32 (of_z w32 c.cast_signed.result) = search rules in
    subst (λ (z : ℤ). IsBrokenIn values_operations c.args.story.now c.args.certificate.now (Place z c.in-Err.rule)) same (broken_where_listed c.args.story.now c.args.certificate.now (seen listed.result) c.in-Err.rule listed.ensures.listed c.in-Err.ensures.broken (c.if-is_certain.ensures refl))

use Rattle.std.proofs.Common.{◌≡◌, ◌∙◌, ◌∷◌, ◌++◌, [], List, ℕ, ap, rules}
use Rattle.zfront.specs.Sourced.{known_of, member_told, object_told}
use Rattle.zfront.proofs.Lines.{object_cut}
use Rattle.zfront.proofs.members.push_object.Goals as goal

-- a part is told behind those before it
pub loop-part-preserved : goal.loop-part-preserved
loop-part-preserved c =
    let grown : (c.loop-part.told.items ++ member_told (known_of c.args.info.now) c.in-Some.part.now) ++ 44 ∷ [] ≡ c.push.new.self.items = search rules in
    c.loop-part.invariant ∙ object_cut (known_of c.args.info.now) c.loop-part.told.items c.loop-part.rest.now c.in-Some.part.now c.in-Some.behind.now c.in-Some.ensures.parts
    ∙ ap (λ (l : List ℕ). l ++ object_told (known_of c.args.info.now) c.in-Some.behind.now) grown

use Rattle.std.proofs.Common.{◌≡◌, ◌<◌, ◌≤◌, ◌∙◌, ◌+◌, ◌-◌, ◌++◌, List, ℕ, length, take, drop, ap, sym, subst}
use Rattle.zfront.specs.Wrapping.{Wrapping}
use Rattle.zfront.proofs.Taking.{letter_breaks_fed}
use Rattle.zfront.proofs.wrapper.Wrapper.break_line.Goals as goal

pub returns-clause-fed : goal.returns-clause-fed
returns-clause-fed c =
    let some : 0 < length c.self.inside.held.items = subst (λ (w : Wrapping). 0 < length w.held) (sym c.self.view_is) c.requires.held in
    let full : c.self.inside.width ≤ c.self.inside.column + length c.self.inside.held.items = subst (λ (w : Wrapping). w.width ≤ w.column + length w.held) (sym c.self.view_is) c.requires.full in
    let moved : c.append.new.out.items ≡ c.push_reserved.new.self.items ++ take (length c.self.inside.held.items - 1) (drop 1 c.self.inside.held.items) =
    c.append.ensures.items ∙ ap (λ (bytes : List ℕ). c.push_reserved.new.self.items ++ take (length bytes - 1) (drop 1 bytes)) c.deref.ensures.value in
    letter_breaks_fed _ c.args.self.now c.self.view_is c.args.byte c.requires.letter c.args.out.now.items c.push_reserved-2.new.self.items c.len.result c.clear.new.self.items c.push_reserved.new.self.items c.append.new.out.items
    c.self.invariant.fits some full c.push_reserved.ensures.items moved c.push_reserved-2.ensures.items (c.len.ensures ∙ c.self.inside.held.ok.0) c.clear.ensures.items

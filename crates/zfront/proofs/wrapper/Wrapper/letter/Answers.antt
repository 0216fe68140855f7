use Rattle.std.proofs.Common.{◌<◌, ◌+◌, ◌∙◌, inl, refl, length, sym, arith}
use Rattle.zfront.proofs.Taking.{letter_full_fed, letter_held_fed, letter_passes_fed, none_of, some_of}
use Rattle.zfront.proofs.wrapper.Wrapper.letter.Goals as goal

pub returns-then-self-clause-fed : goal.returns-then-self-clause-fed
returns-then-self-clause-fed c =
    letter_passes_fed _ c.args.self.now c.self.view_is c.args.byte c.requires.letter c.args.out.now.items c.push_reserved.new.self.items _
    (none_of _ c.self.inside.held.items c.self.inside.held.ok.0 (sym c.is_empty.ensures ∙ c.if-is_empty.true)) (inl refl) c.push_reserved.ensures.items

pub returns-else-self-clause-fed : goal.returns-else-self-clause-fed
returns-else-self-clause-fed c =
    letter_full_fed _ c.args.self.now c.self.view_is c.args.byte c.requires.letter c.args.out.now.items c.push_reserved.new.self.items
    (none_of _ c.self.inside.held.items c.self.inside.held.ok.0 (sym c.is_empty.ensures ∙ c.if-is_empty.true)) c.if-self.false c.push_reserved.ensures.items

pub returns-then-from-len-clause-fed : goal.returns-then-from-len-clause-fed
returns-then-from-len-clause-fed c =
    let some = some_of _ c.self.inside.held.items c.self.inside.held.ok.0 (sym c.is_empty.ensures ∙ c.if-is_empty.false) in
    let fits : c.self.inside.column + length c.self.inside.held.items < c.self.inside.width = omega (arith, c.if-from-len.true, c.from.ensures, c.len.ensures, c.from-else-is_empty.ensures, c.self.inside.held.ok.0) in
    letter_held_fed _ c.args.self.now c.self.view_is c.args.byte c.requires.letter c.args.out.now.items c.args.out.now.items c.push_reserved-then-from-len.new.self.items c.self.invariant.fits some fits c.push_reserved-then-from-len.ensures.items

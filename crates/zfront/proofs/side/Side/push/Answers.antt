use Rattle.std.proofs.Common.{◌∙◌, ◌++◌, ◌∷◌, [], List, ℕ, ap, sym}
use Rattle.zfront.specs.Frames.{cut}
use Rattle.zfront.proofs.Sides.{push_full, push_room}
use Rattle.zfront.proofs.side.Side.push.Goals as goal

pub returns-then-self-lt255 : goal.returns-then-self-lt255
returns-then-self-lt255 c =
    push_room c.self.inside.bytes c.self.inside.count c.from.result c.args.byte c.self.told c.if-self-lt255.true c.from.ensures ∙ ap (λ (bytes : List ℕ). cut (bytes ++ c.args.byte ∷ [])) c.self.view_is

pub returns-else-self-lt255 : goal.returns-else-self-lt255
returns-else-self-lt255 c =
    sym c.self.view_is ∙ push_full c.self.inside.bytes c.self.inside.count c.args.byte c.self.told c.if-self-lt255.false ∙ ap (λ (bytes : List ℕ). cut (bytes ++ c.args.byte ∷ [])) c.self.view_is

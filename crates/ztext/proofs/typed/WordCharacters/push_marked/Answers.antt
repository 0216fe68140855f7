use Rattle.std.proofs.Common.{◌≡◌, ◌∙◌, ℕ, ◌/◌, ◌%◌, List, [], ◌∷◌, ◌++◌, None, drop, take, ap}
use Rattle.ztext.specs.Alphabets.{marks}
use Rattle.ztext.specs.Typed.{character_in}
use Rattle.ztext.proofs.Typing.{escape_pushed}
use Rattle.ztext.proofs.typed.WordCharacters.push_marked.Goals as goal

pub returns-in_default : goal.returns-in_default
returns-in_default c =
    let code = c.args.code in
    let none : None ≡ character_in 8 (drop 2 marks) code = c.in_default.ensures.character in
    let high = c.push-in_default-2.ensures ∙ ap (λ (front : List ℕ). take 6 (front ++ code / 32 ∷ [])) c.push-in_default.ensures in
    let low = c.push-in_default-3.ensures ∙ ap (λ (front : List ℕ). take 6 (front ++ code % 32 ∷ [])) high in
    low ∙ escape_pushed c.args.self.now code none

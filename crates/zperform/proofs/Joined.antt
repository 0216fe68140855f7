-- Four lists one behind another, and five.
use Rattle.std.proofs.Common.{◌≡◌, ℕ, List, ◌++◌, ap, ◌∙◌, append_assoc}

pub joined : (old a b c d : List ℕ) {one two three four : List ℕ} → one ≡ old ++ a → two ≡ one ++ b → three ≡ two ++ c → four ≡ three ++ d → four ≡ old ++ (a ++ b ++ c ++ d)
joined old a b c d first second third last =
    last ∙ ap (λ (l : List ℕ). l ++ d) (third ∙ ap (λ (l : List ℕ). l ++ c) (second ∙ ap (λ (l : List ℕ). l ++ b) first ∙ append_assoc old a b) ∙ append_assoc old (a ++ b) c) ∙ append_assoc old (a ++ b ++ c) d

pub joined_with : (old a b c d e : List ℕ) {one two three four five : List ℕ} → one ≡ old ++ a → two ≡ one ++ b → three ≡ two ++ c → four ≡ three ++ d → five ≡ four ++ e → five ≡ old ++ (a ++ b ++ c ++ d ++ e)
joined_with old a b c d e first second third fourth last = last ∙ ap (λ (l : List ℕ). l ++ e) (joined old a b c d first second third fourth) ∙ append_assoc old (a ++ b ++ c ++ d) e

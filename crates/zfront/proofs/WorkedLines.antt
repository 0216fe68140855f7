-- Values of the definitions of lines, computed.
use Rattle.std.proofs.Common.{◌≡◌, ℕ, Bool, true, false, Some, [], ◌∷◌, length, Result, Ok, Err, refl, ap, arith}
use Rattle.std.specs.Prelude.{codes}
use Rattle.zfront.specs.ReadAhead.{IsAhead, IsOneLine, ReadsAhead, line_within}
use Rattle.zfront.proofs.Lining.{one_line}

-- a line with its end, all where no line ends, and no more than there is room for
within : (line_within 9 (codes "look\nwait\n") ≡ codes "look\n") × (line_within 9 (codes "look") ≡ codes "look") × (line_within 3 (codes "look\n") ≡ codes "loo") × (line_within 5 (codes "look\nwait") ≡ codes "look\n") × (line_within 9 (codes "\n\n") ≡ codes "\n") × (line_within 0 (codes "look") ≡ [])
within = (refl, refl, refl, refl, refl, refl)

-- a line may have no end, and no byte; nothing is behind an end
lines : IsOneLine (codes "look\n") × IsOneLine (codes "look") × IsOneLine [] × (IsOneLine (codes "\n\n") → ⊥) × (IsOneLine (codes "a\nb") → ⊥)
lines = (one_line (codes "look\n"), one_line (codes "look"), one_line [], λ one. omega (arith, ap length (one [] (10 ∷ []) refl)), λ one. omega (arith, ap length (one (97 ∷ []) (98 ∷ []) refl)))

outcome : Bool → Result Unit ℕ
outcome true = Ok tt
outcome false = Err 0

-- what is read is held; nothing is read only at the end; and at an error nothing is read
reads : ReadsAhead (Some (codes "ab")) (Some (codes "b")) (outcome true) (codes "a") × ReadsAhead (Some []) (Some []) (outcome true) [] × ReadsAhead (Some (codes "a")) (Some (codes "a")) (outcome false) []
unfolding outcome
reads = ((refl, λ none. absurd (omega (arith, ap length none))), (refl, λ none. refl), (refl, refl))

unread : (ReadsAhead (Some (codes "ab")) (Some (codes "ab")) (outcome true) [] → ⊥) × (ReadsAhead (Some (codes "ab")) (Some []) (outcome true) (codes "a") → ⊥) × (ReadsAhead (Some (codes "a")) (Some []) (outcome false) [] → ⊥)
unfolding outcome
unread = (λ r. omega (arith, ap length (r.1 refl)), λ r. omega (arith, ap length r.0), λ r. omega (arith, ap length r.1))

-- 256 bytes are held at most
ahead : IsAhead 0 256 × IsAhead 3 3 × (IsAhead 0 257 → ⊥) × (IsAhead 4 3 → ⊥)
ahead = ((omega arith, omega arith), (omega arith, omega arith), λ is. omega (arith, is.1), λ is. omega (arith, is.0))

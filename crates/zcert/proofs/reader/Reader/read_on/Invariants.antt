use Rattle.std.proofs.Common.{◌≡◌, ◌++◌, ℕ, List, length}
use Rattle.zcert.specs.Streaming.{Leads}
use Rattle.zcert.specs.Turns.{IsPartOf}
use Rattle.zcert.proofs.reader.Reader.read_on.Given as goal

-- what led to the first of the bytes leads to what is left
abbrev pub invariant-loop-after : goal.invariant-loop-after
invariant-loop-after g l = record {
  led : (fed : List ℕ) → Leads g.V.Spelled.format l.fn.self.stage l.fn.self.builder fed (g.V.Spelled.turns.came l.fn.self.partial ++ l.fn.bytes) → Leads g.V.Spelled.format l.self.stage l.self.builder fed (g.V.Spelled.turns.came l.self.partial ++ l.rest);
  part : IsPartOf g.V.Spelled.turns l.self.stage l.self.builder.turn l.self.partial;
  kept : l.self.kept ≡ l.fn.self.kept;
}

abbrev pub decreases-loop-after : goal.decreases-loop-after
decreases-loop-after g l = length l.rest

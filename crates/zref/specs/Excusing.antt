-- What comes of a step that is a fault, in lenient play.
use Rattle.std.specs.Prelude.{◌≡◌, ℕ, suc, [], Ok, Err}
use Rattle.zstate.specs.State.{Setting, State}
use Rattle.zstate.specs.Step.{Done}
use Rattle.zlenient.specs.declared.front.Front.{Front}
use Rattle.zlenient.specs.Front.{front_after}
use Rattle.zlenient.specs.Step.{lenient_step}
use Rattle.zref.specs.declared.excusing.Excuse.{Excuse}
use Rattle.zref.specs.declared.excusing.Excuse.TheVariants as excuses

-- the lenient step was made, of those that are left, and gives nothing out; or none is left for it; or something keeps it from being made
abbrev pub Excuses : Setting → Excuse → State → State → Front → Front → ℕ → ℕ → Type 0
Excuses m excuses.Done s t f g left now = (lenient_step m s ≡ Ok (record { state = t; items = [] })) × (g ≡ front_after m s f) × (left ≡ suc now)
Excuses m excuses.Spent s t f g left now = ((d : Done) × (lenient_step m s ≡ Ok d)) × (t ≡ s) × (g ≡ f) × (left ≡ 0) × (now ≡ 0)
Excuses m (excuses.Halted h) s t f g left now = (lenient_step m s ≡ Err h) × (t ≡ s) × (g ≡ f) × (now ≡ left)

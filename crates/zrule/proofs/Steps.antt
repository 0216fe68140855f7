-- Every step from a described state.
use Rattle.std.proofs.Common.{◌≡◌, ◌⊎◌, ℕ, Bool, false, Ok, Err}
use Rattle.zfault.specs.declared.pause.Need.{Need}
use Rattle.zdomain.specs.Domain.{SetOperations, AreSound}
use Rattle.zstate.specs.declared.halt.Halt.TheVariants as halts
use Rattle.zstate.specs.State.{State, Setting}
use Rattle.zstate.specs.Run.{IsFull}
use Rattle.zstate.specs.Step.{Done, step}
use Rattle.zrule.specs.declared.rule.Rule.TheVariants as rules
use Rattle.zrule.specs.Claims.{Claims}
use Rattle.zrule.specs.Rules.{SupportsWhere}
use Rattle.zrule.specs.Described.{Described, IsListedWhere, IsLoadedStory, IsSafe}
use Rattle.zrule.proofs.Safety.{safe_there}
use Rattle.zrule.proofs.Able.{able_there}

-- a step from a described state is no fault, and leads to a described state
pub step_safe : {V : Type 0} (o : SetOperations V) (lawful : AreSound o) (claims : Claims V) (m : Setting) (s : State) → IsLoadedStory m.story → {marked : ℕ → Bool} → SupportsWhere o claims marked m.story → IsListedWhere o claims marked m.scope → (d : Described o claims m.limit m.story s) → marked d.at ≡ false → IsSafe o claims m.limit m.story (step m s)
step_safe o lawful claims m s loaded {marked} supports listed d plain =
    let found = supports.each d.at d.entry d.listed plain rules.Decodes in
    safe_there o lawful claims m loaded supports listed s d plain found.0 found.1

-- low stacks have room: it is made, or it is `quit`, or it needs an event, or is a call where there are as many frames as there may be
pub step_able : {V : Type 0} (o : SetOperations V) (lawful : AreSound o) (claims : Claims V) (m : Setting) (s : State) → IsLoadedStory m.story → {marked : ℕ → Bool} → SupportsWhere o claims marked m.story → IsListedWhere o claims marked m.scope → (d : Described o claims m.limit m.story s) → marked d.at ≡ false → ((x : Done) × (step m s ≡ Ok x)) ⊎ ((step m s ≡ Err halts.Quit) ⊎ (((need : Need) × (step m s ≡ Err (halts.Need need))) ⊎ ((step m s ≡ Err halts.FrameLimit) × IsFull m s)))
step_able o lawful claims m s loaded {marked} supports listed d plain =
    let found = supports.each d.at d.entry d.listed plain rules.Decodes in
    able_there o lawful claims m loaded supports listed s d plain found.0 found.1

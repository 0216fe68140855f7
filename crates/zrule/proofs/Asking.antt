-- What a rule asks of a place, by the one instruction that is there.
use Rattle.std.proofs.Common.{◌≡◌, ◌↔◌, ℕ, ◌+◌, Bool, true, false, refl, sym, ap, subst, ◌∙◌}
use Rattle.std.specs.Prelude.{IfSome, IsTrue, not}
use Rattle.std.specs.Bool.{OnTrue}
use Rattle.zstory.specs.LoadedStory.{LoadedStory}
use Rattle.zcode.specs.declared.opcode.Opcode.{Opcode}
use Rattle.zcode.specs.declared.opcode.Opcode.TheVariants.{Print, PrintRet}
use Rattle.zcode.specs.Opcodes.{prints_text}
use Rattle.zcode.specs.Instruction.{Instruction}
use Rattle.zcode.specs.Operation.{operation_of, target}
use Rattle.zdomain.specs.Domain.{SetOperations}
use Rattle.zflow.specs.declared.parts.Demands.{Demands}
use Rattle.zflow.specs.declared.flow.Flow.{Flow}
use Rattle.zflow.specs.Transfer.{demands_of, read_set, argument_sets}
use Rattle.zflow.specs.Flow.{IsFlow}
use Rattle.zrule.specs.declared.rule.Rule.{Rule}
use Rattle.zrule.specs.declared.rule.Rule.TheVariants.{Decodes, Height, Local, Successor, Object, Attribute, Property, Divisor, Write, Read, Text, Called, Returned, Buffers, Known, Stored, High, Status}
use Rattle.zrule.specs.Claims.{Entry, Claims, frozen_in, told_of, globals_at}
use Rattle.zrule.specs.Rules.{IsThere, demands_at, IsKnown, Divides, KnowsAnswers, NamesFixed, PrintsFixed, Reads, CallsBegin, Asks, Keeps}
use Rattle.zpairs.specs.Frozen.{FrozenStory, frozen_by}
use Rattle.zruns.specs.Names.{AreFixedNames}
use Rattle.zruns.specs.Texts.{AreFixedTexts, HasFixedText}
use Rattle.zrule.specs.Edges.{EdgesKeep}
use Rattle.zrule.proofs.Whatever.{leads_on, called, returned, stored, high}

-- a place has one instruction
one_there : (story : LoadedStory) (p : ℕ) (i j : Instruction) → IsThere story p i → IsThere story p j → i ≡ j
one_there story p i j a b = let x = a.decodes in let y = b.decodes in cc

-- what is asked of a text is asked of an opcode that prints one
pub text_asked : {V : Type 0} (o : SetOperations V) (arg : ℕ → V) (op : Opcode) → (demands_of o (operation_of op) arg).has_text ≡ true → prints_text op ≡ true
unfolding operation_of demands_of
text_asked o arg Print h = refl
text_asked o arg PrintRet h = refl
text_asked o arg _ h = absurd cc

pub on_true : (b c : Bool) (P : Type 0) → (b ≡ true → c ≡ true) → OnTrue c P → OnTrue b P
on_true true true P follows h = h
on_true true false P follows h = absurd (let f = follows refl in cc)
on_true false c P follows h = tt

module _ {V : Type 0} (o : SetOperations V) (claims : Claims V) (story : LoadedStory) (p : ℕ) (e : Entry V) (i : Instruction) (there : IsThere story p i) where
  -- what one rule asks is what a rule asks that is the same
  pub same_asked : (rule other : Rule) (b : Bool) → rule ≡ other → IsTrue b ↔ Asks o claims story p e i other → IsTrue b ↔ Asks o claims story p e i rule
  same_asked rule other b is asked = subst (λ (r : Rule). IsTrue b ↔ Asks o claims story p e i r) (sym is) asked

  -- where a variable isn't known, nothing is asked of heights and locals
  pub height_unknown : (rule : Rule) (b : Bool) → rule ≡ Height → (IsKnown o claims p i e.shape → IsTrue b) → b ≡ false → IsTrue (not b) ↔ Asks o claims story p e i rule
  height_unknown rule b is known unknown = rw (is, unknown) (λ t k. absurd (let f = known k in cc), λ a. refl)

  pub local_unknown : (rule : Rule) (b : Bool) → rule ≡ Local → (IsKnown o claims p i e.shape → IsTrue b) → b ≡ false → IsTrue (not b) ↔ Asks o claims story p e i rule
  local_unknown rule b is known unknown = rw (is, unknown) (λ t k. absurd (let f = known k in cc), λ a. refl)

  -- and what a text is asked is so of every opcode that prints the one behind it
  pub text_fixed : (rule : Rule) (b : Bool) → rule ≡ Text → OnTrue (prints_text i.opcode) (HasFixedText story (frozen_in claims) (p + 1)) → IsTrue b ↔ PrintsFixed o claims p story i e.shape × NamesFixed o claims p story i e.shape → IsTrue b ↔ Asks o claims story p e i rule
  text_fixed rule b is fixed printed = rw is (λ t. let both = printed.0 t in (on_true _ _ _ (text_asked o (read_set o (globals_at claims p) i e.shape) i.opcode) fixed, both.0, both.1), λ a. printed.1 (a.1, a.2))

  -- by the tables and by what is known of the instruction
  pub prints_told : (told : FrozenStory) → told ≡ told_of claims story → (flow : Flow V) → IsFlow o (globals_at claims p) (told_of claims story) i e.shape flow → (b : Bool) → IsTrue b ↔ IfSome flow.demands.texts (λ x. AreFixedTexts o told.story (frozen_by told.ranges) x.addressing x.places) × IfSome flow.demands.named (AreFixedNames o told.story (frozen_by told.ranges)) → IsTrue b ↔ PrintsFixed o claims p story i e.shape × NamesFixed o claims p story i e.shape
  prints_told told is flow are b asked =
      let here = subst (λ (t : FrozenStory). IsTrue b ↔ IfSome flow.demands.texts (λ x. AreFixedTexts o t.story (frozen_by t.ranges) x.addressing x.places) × IfSome flow.demands.named (AreFixedNames o t.story (frozen_by t.ranges))) is asked in
      subst (λ (d : Demands V). IsTrue b ↔ IfSome d.texts (λ x. AreFixedTexts o story (frozen_in claims) x.addressing x.places) × IfSome d.named (AreFixedNames o story (frozen_in claims))) are.demands here

  -- what is asked of edges
  module _ (flow : Flow V) (are : IsFlow o (globals_at claims p) (told_of claims story) i e.shape flow) (rule : Rule) (b : Bool) (keep : IsTrue b ↔ EdgesKeep o claims story (globals_at claims p) (argument_sets o (globals_at claims p) i e.shape) e.routine (p + i.size) (target i) rule flow) where
    as_is : (r : Rule) → rule ≡ r → IsTrue b ↔ EdgesKeep o claims story (globals_at claims p) (argument_sets o (globals_at claims p) i e.shape) e.routine (p + i.size) (target i) r flow
    as_is r is = subst (λ (r : Rule). IsTrue b ↔ EdgesKeep o claims story (globals_at claims p) (argument_sets o (globals_at claims p) i e.shape) e.routine (p + i.size) (target i) r flow) is keep

    pub successor_asked : rule ≡ Successor → (d g : Bool) → (IsTrue d → Divides o claims p i e.shape) → (IsTrue d → Reads o claims p story i e.shape) → (IsTrue d → KnowsAnswers o claims p story i e.shape) → d ≡ true → (IsTrue g → CallsBegin o claims p story i e.shape) → g ≡ true → flow.demands.certain ≡ true → IsTrue b ↔ Asks o claims story p e i rule
    successor_asked is d g divides reads knows there begin begun certain =
        let kept = as_is Successor is in
        let edges = leads_on o claims story p i e.shape flow are (argument_sets o (globals_at claims p) i e.shape) e.routine (p + i.size) in
        let known : demands_at o claims p i e.shape ≡ flow.demands = sym are.demands in
        let sure : (demands_at o claims p i e.shape).certain ≡ true = ap (λ (x : Demands V). x.certain) known ∙ certain in
        subst (λ (r : Rule). IsTrue b ↔ Asks o claims story p e i r) (sym is) (λ t _ _ _ _. (sure, edges.0 (kept.0 t)), λ h. kept.1 (edges.1 (h (divides there) (reads there) (knows there) (begin begun)).1))

    -- where it isn't known how far a jump goes
    pub uncertain_asked : (d g : Bool) → (IsTrue d → Divides o claims p i e.shape) → (IsTrue d → Reads o claims p story i e.shape) → (IsTrue d → KnowsAnswers o claims p story i e.shape) → d ≡ true → (IsTrue g → CallsBegin o claims p story i e.shape) → g ≡ true → flow.demands.certain ≡ false → IsTrue flow.demands.certain ↔ Asks o claims story p e i Successor
    uncertain_asked d g divides reads knows there begin begun uncertain =
        (λ t. absurd (let u = uncertain in cc), λ h. subst (λ (x : Demands V). IsTrue x.certain) (sym are.demands) (h (divides there) (reads there) (knows there) (begin begun)).0)

    -- what is called
    pub calls_asked : rule ≡ Called → IsTrue b ↔ CallsBegin o claims p story i e.shape
    calls_asked is =
        let kept = as_is Called is in
        let edges = called o claims story p i e.shape flow are (argument_sets o (globals_at claims p) i e.shape) e.routine (p + i.size) in
        (λ t. edges.0 (kept.0 t), λ h. kept.1 (edges.1 h))

    pub called_asked : rule ≡ Called → IsTrue b ↔ Asks o claims story p e i rule
    called_asked is = subst (λ (r : Rule). IsTrue b ↔ Asks o claims story p e i r) (sym is) (calls_asked is)

    pub returned_asked : rule ≡ Returned → IsTrue b ↔ Asks o claims story p e i rule
    returned_asked is =
        let kept = as_is Returned is in
        let edges = returned o claims story p i e.shape flow are (argument_sets o (globals_at claims p) i e.shape) e.routine (p + i.size) in
        subst (λ (r : Rule). IsTrue b ↔ Asks o claims story p e i r) (sym is) (λ t. edges.0 (kept.0 t), λ h. kept.1 (edges.1 h))

    pub stored_asked : rule ≡ Stored → IsTrue b ↔ Asks o claims story p e i rule
    stored_asked is =
        let kept = as_is Stored is in
        let edges = stored o claims story p i e.shape flow are (argument_sets o (globals_at claims p) i e.shape) e.routine (p + i.size) in
        subst (λ (r : Rule). IsTrue b ↔ Asks o claims story p e i r) (sym is) (λ t. edges.0 (kept.0 t), λ h. kept.1 (edges.1 h))

    pub high_asked : rule ≡ High → IsTrue b ↔ Asks o claims story p e i rule
    high_asked is =
        let kept = as_is High is in
        let edges = high o claims story p i e.shape flow are (argument_sets o (globals_at claims p) i e.shape) e.routine (p + i.size) in
        subst (λ (r : Rule). IsTrue b ↔ Asks o claims story p e i r) (sym is) (λ t. edges.0 (kept.0 t), λ h. kept.1 (edges.1 h))

  -- what is asked of every instruction that is there is asked of this one
  every : (P : Instruction → Type 0) → P i ↔ ((j : Instruction) → IsThere story p j → P j)
  every P = (λ h j other. subst P (one_there story p i j there other) h, λ all. all i there)

  pub asks_keeps : (rule : Rule) → Asks o claims story p e i rule ↔ Keeps o claims story p e rule
  asks_keeps Decodes = (λ h. (i, there), λ k. tt)
  asks_keeps Height = every (λ j. Asks o claims story p e j Height)
  asks_keeps Local = every (λ j. Asks o claims story p e j Local)
  asks_keeps Successor = every (λ j. Asks o claims story p e j Successor)
  asks_keeps Object = every (λ j. Asks o claims story p e j Object)
  asks_keeps Attribute = every (λ j. Asks o claims story p e j Attribute)
  asks_keeps Property = every (λ j. Asks o claims story p e j Property)
  asks_keeps Divisor = every (λ j. Asks o claims story p e j Divisor)
  asks_keeps Write = every (λ j. Asks o claims story p e j Write)
  asks_keeps Read = every (λ j. Asks o claims story p e j Read)
  asks_keeps Text = every (λ j. Asks o claims story p e j Text)
  asks_keeps Called = every (λ j. Asks o claims story p e j Called)
  asks_keeps Returned = every (λ j. Asks o claims story p e j Returned)
  asks_keeps Buffers = every (λ j. Asks o claims story p e j Buffers)
  asks_keeps Known = every (λ j. Asks o claims story p e j Known)
  asks_keeps Stored = every (λ j. Asks o claims story p e j Stored)
  asks_keeps High = every (λ j. Asks o claims story p e j High)
  asks_keeps Status = every (λ j. Asks o claims story p e j Status)

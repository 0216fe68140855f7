-- What is known of routines that begin at packed addresses side by side, so that a rule is asked of all of them at once (own).
use Rattle.std.specs.Prelude.{◌≡◌, ℕ, ◌+◌, ◌*◌, ◌<◌, ◌≤◌, List, [], ◌∷◌, IfSome, Some, slice_get}
use Rattle.zstory.specs.LoadedStory.{LoadedStory}
use Rattle.zdomain.specs.Domain.{SetOperations, Within}
use Rattle.zstate.specs.Step.{unpacked}
use Rattle.zrule.specs.declared.arguments.Arguments.{Arguments}
use Rattle.zrule.specs.declared.arguments.Arguments.TheVariants.{Zero, One, Two, Three}
use Rattle.zrule.specs.declared.blocks.Block.{Block}
use Rattle.zrule.specs.declared.wanted.Wanted.{Wanted}
use Rattle.zrule.specs.declared.wanted.Wanted.TheVariants.{Begin, Give}
use Rattle.zrule.specs.Claims.{Claims}
use Rattle.zrule.specs.Rules.{Begins, result_at}

-- the sets of the arguments, in their order
abbrev pub sets_of : {V : Type 0} → Arguments V → List V
sets_of Zero = []
sets_of (One a) = a ∷ []
sets_of (Two a b) = a ∷ b ∷ []
sets_of (Three a b c) = a ∷ b ∷ c ∷ []

-- something holds of each of so many packed addresses from a base on
abbrev pub InBlock : ℕ → ℕ → (ℕ → Type 0) → Type 0
InBlock count base P = (x : ℕ) → base ≤ x → x < base + count → P x

module _ {V : Type 0} (o : SetOperations V) (claims : Claims V) where
  -- whatever the routine gives that begins there lies in a set
  abbrev pub EachGives : ℕ → ℕ → V → Type 0
  EachGives count base gives = InBlock count base (λ x. Within o (result_at o claims (unpacked x)) gives)

  module _ (story : LoadedStory) where
    -- a routine begins there, with these arguments
    abbrev pub EachBegins : ℕ → ℕ → Arguments V → Type 0
    EachBegins count base arguments = InBlock count base (λ x. Begins o claims story (sets_of arguments) (unpacked x))

    -- what a block says is so, of so many addresses from its base on
    pub record IsBlock (count base : ℕ) (block : Block V) : Type 0 where
      pub gives : EachGives count base block.gives
      pub zero : IfSome block.zero (EachBegins count base)
      pub one : IfSome block.one (EachBegins count base)
      pub two : IfSome block.two (EachBegins count base)
      pub three : IfSome block.three (EachBegins count base)

    -- the first block begins at 0, and each other behind the one before
    abbrev pub AreInTurn : ℕ → List (Block V) → Type 0
    AreInTurn count blocks = (k : ℕ) (block : Block V) → slice_get blocks k ≡ Some block → IsBlock count (count * k) block

    -- blocks of 64 addresses, and wide ones of 4,096
    abbrev pub AreBlocks : List (Block V) × List (Block V) → Type 0
    AreBlocks blocks = AreInTurn 64 blocks.0 × AreInTurn 4096 blocks.1

    -- the routine at a place is as it is wanted to be
    abbrev pub IsAsWanted : Wanted V → ℕ → Type 0
    IsAsWanted (Begin arguments) p = Begins o claims story (sets_of arguments) p
    IsAsWanted (Give set) p = Within o (result_at o claims p) set

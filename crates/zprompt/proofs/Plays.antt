-- Plays of a machine that moved, prompt by prompt.
use Rattle.std.proofs.Common.{◌≡◌, ℕ, suc, ◌++◌, ◌-◌, ◌^◌, List, [], Option, None, Some, Result, Ok, Err, inl, inr, refl}
use Rattle.std.specs.Io.KnownBytes.{prepend_known}
use Rattle.zquetzal.specs.declared.error.SaveError.{SaveError}
use Rattle.zstate.specs.State.{Setting, State}
use Rattle.zplayer.specs.declared.end.End.{End}
use Rattle.zplayer.specs.declared.end.End.TheVariants as ends
use Rattle.zplayer.specs.declared.end.Options.{Options}
use Rattle.zplayer.specs.declared.end.PlayError.{PlayError}
use Rattle.zprompt.specs.Given.{given_of}
use Rattle.zprompt.specs.Prompts.{Answers, At, Comes, ComesFromPrompts, ComesOfLine, ComesPrompted, ComesWith, Plays, played_of}
use Rattle.zprompt.specs.Turns.{Keeps}
use Rattle.zprompt.proofs.Calls.{one_after}

-- where nothing was read ahead, all of the input is left
pub all_left : (input : Option (List ℕ)) → prepend_known [] input ≡ input
all_left None = refl
all_left (Some bytes) = refl

-- a line was given to the story, and play went on by it
pub of_turn : (m : Setting) (Takes wants : State → Type 0) (options : Options) (line : List ℕ) (a b : At) (result : Result (Option End) PlayError) → Keeps a.state a.turns b.turns
    → Plays m Takes wants options (given_of line) a b (played_of result) → ComesOfLine m Takes wants options line None a b result
of_turn m Takes wants options line a b (Ok None) keeps plays = (keeps, plays)
of_turn m Takes wants options line a b (Ok (Some end)) keeps plays = (keeps, plays)
of_turn m Takes wants options line a b (Err error) keeps plays = (keeps, plays)

-- ---- by the calls that a store got

module _ {S : Type 0} (Follows : S → S → List SaveError → Type 0) (through : (old now new : S) (first then : List SaveError) → Follows old now first → Follows now new then → Follows old new (then ++ first)) where
  -- of a machine that is played in a setting, and takes saves so
  module _ (Wants : Setting → State → Type 0) (options : Options) (m : Setting) (Takes : State → Type 0) where
    -- no more was done than to hear no line, often enough
    pub heard_out : (old new : S) (n : ℕ) (a b : List SaveError → At) (turns : List State) (input : Option (List ℕ)) → n ≡ 2 ^ 64 - 1
        → ComesWith Follows old new (λ before after. Comes m Takes (Wants m) options n (a before) (record (b after) { turns = turns; input = input }))
        → ComesWith Follows old new (λ before after. ComesFromPrompts m Takes (Wants m) options (a before) (b after) (Ok ends.NoInput))
    heard_out old new n a b turns input most comes =
        (comes.0, comes.1, λ before. (n, record (b (comes.0 ++ before)) { turns = turns; input = input }, comes.2 before, turns, input, inr (most, refl, refl)))

    -- and which moved since
    module _ (n : Setting) (Takes_now : State → Type 0) where
      -- one prompt more was answered
      pub one_more : ((a b : At) (result : Result (Option End) PlayError) → Answers n Takes_now (Wants n) options a b result → Answers m Takes (Wants m) options a b result) → (old now new : S) (count : ℕ) (a c b : List SaveError → At)
          → ComesWith Follows old now (λ before after. Comes m Takes (Wants m) options count (a before) (c after))
          → ComesWith Follows now new (λ before after. Answers n Takes_now (Wants n) options (c before) (b after) (Ok None))
          → ComesWith Follows old new (λ before after. Comes m Takes (Wants m) options (suc count) (a before) (b after))
      one_more same old now new count a c b =
          one_after Follows through old now new
          (λ before after. Comes m Takes (Wants m) options count (a before) (c after))
          (λ before after. Answers n Takes_now (Wants n) options (c before) (b after) (Ok None))
          (λ before after. Comes m Takes (Wants m) options (suc count) (a before) (b after))
          (λ before between after came answers. (c between, came, same (c between) (b after) (Ok None) answers))

      -- play ended at a prompt
      pub ended_there : ((a b : At) (result : Result (Option End) PlayError) → Answers n Takes_now (Wants n) options a b result → Answers m Takes (Wants m) options a b result) → (old now new : S) (count : ℕ) (a c b : List SaveError → At) (turns : List State) (input : Option (List ℕ)) (end : End)
          → ComesWith Follows old now (λ before after. Comes m Takes (Wants m) options count (a before) (c after))
          → ComesWith Follows now new (λ before after. Answers n Takes_now (Wants n) options (c before) (record (b after) { turns = turns; input = input }) (Ok (Some end)))
          → ComesWith Follows old new (λ before after. ComesFromPrompts m Takes (Wants m) options (a before) (b after) (Ok end))
      ended_there same old now new count a c b turns input end =
          one_after Follows through old now new
          (λ before after. Comes m Takes (Wants m) options count (a before) (c after))
          (λ before after. Answers n Takes_now (Wants n) options (c before) (record (b after) { turns = turns; input = input }) (Ok (Some end)))
          (λ before after. ComesFromPrompts m Takes (Wants m) options (a before) (b after) (Ok end)) (λ before between after came answers. (
            count,
            c between,
            came,
            turns,
            input,
            inl (same (c between) (record (b after) { turns = turns; input = input }) (Ok (Some end)) answers),
          ))

      -- play broke off at a prompt
      pub broke_there : ((a b : At) (result : Result (Option End) PlayError) → Answers n Takes_now (Wants n) options a b result → Answers m Takes (Wants m) options a b result) → (old now new : S) (count : ℕ) (a c b : List SaveError → At) (turns : List State) (input : Option (List ℕ)) (error : PlayError)
          → ComesWith Follows old now (λ before after. Comes m Takes (Wants m) options count (a before) (c after))
          → ComesWith Follows now new (λ before after. Answers n Takes_now (Wants n) options (c before) (record (b after) { turns = turns; input = input }) (Err error))
          → ComesWith Follows old new (λ before after. ComesFromPrompts m Takes (Wants m) options (a before) (b after) (Err error))
      broke_there same old now new count a c b turns input error =
          one_after Follows through old now new
          (λ before after. Comes m Takes (Wants m) options count (a before) (c after))
          (λ before after. Answers n Takes_now (Wants n) options (c before) (record (b after) { turns = turns; input = input }) (Err error))
          (λ before after. ComesFromPrompts m Takes (Wants m) options (a before) (b after) (Err error)) (λ before between after came answers. (
            count,
            c between,
            came,
            turns,
            input,
            same (c between) (record (b after) { turns = turns; input = input }) (Err error) answers,
          ))

      -- play came to the first prompt, and went on
      pub from_first : ((a b : At) (result : Result End PlayError) → ComesFromPrompts n Takes_now (Wants n) options a b result → ComesFromPrompts m Takes (Wants m) options a b result) → (old now new : S) (a c b : List SaveError → At) (result : Result End PlayError) → ((after : List SaveError) → (c after).turns ≡ []) → ((before after : List SaveError) → (c after).input ≡ (a before).input)
          → ComesWith Follows old now (λ before after. Plays m Takes (Wants m) options [] (a before) (c after) (Ok ends.NoInput))
          → ComesWith Follows now new (λ before after. ComesFromPrompts n Takes_now (Wants n) options (c before) (b after) result)
          → ComesWith Follows old new (λ before after. ComesPrompted m Takes (Wants m) options (a before) (b after) result)
      from_first same old now new a c b result none unheard =
          one_after Follows through old now new
          (λ before after. Plays m Takes (Wants m) options [] (a before) (c after) (Ok ends.NoInput))
          (λ before after. ComesFromPrompts n Takes_now (Wants n) options (c before) (b after) result)
          (λ before after. ComesPrompted m Takes (Wants m) options (a before) (b after) result) (λ before between after plays comes. inr (
            c between,
            plays,
            none between,
            unheard before between,
            same (c between) (b after) result comes,
          ))

-- Calls one after another, with what the store was told.
use Rattle.std.proofs.Common.{List, ◌++◌, append_assoc, subst, sym}
use Rattle.zquetzal.specs.declared.error.SaveError.{SaveError}
use Rattle.zprompt.specs.Prompts.{ComesWith}

module _ {S : Type 0} (Follows : S → S → List SaveError → Type 0) where
  -- calls after calls
  pub one_after : ((old now new : S) (first then : List SaveError) → Follows old now first → Follows now new then → Follows old new (then ++ first)) → (old now new : S) (First Then Whole : List SaveError → List SaveError → Type 0)
      → ((before between after : List SaveError) → First before between → Then between after → Whole before after)
      → ComesWith Follows old now First → ComesWith Follows now new Then → ComesWith Follows old new Whole
  one_after through old now new First Then Whole join first then =
      let between = λ (before : List SaveError). first.0 ++ before in (
        then.0 ++ first.0,
        through old now new first.0 then.0 first.1 then.1,
        λ before. subst (Whole before) (sym (append_assoc then.0 first.0 before)) (join before (between before) (then.0 ++ between before) (first.2 before) (then.2 (between before))),
      )

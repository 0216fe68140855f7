-- What becomes of the certificate beside a story that is played with none named.
use Rattle.std.proofs.Common.{◌≡◌, ◌≢◌, ◌⊎◌, inl, inr, ℕ, Bool, true, false, List, [], Option, None, Some, ap, refl, subst, sym}
use Rattle.zquetzal.specs.declared.error.SaveError.{SaveError}
use Rattle.zplayer.specs.World.{World}
use Rattle.zprompt.specs.declared.manner.Manner.{Manner}
use Rattle.zperform.specs.Accepting.{IsAcceptedStory, IsNoStory, IsUnacceptedStory, PlayComesTo}
use Rattle.zperform.specs.Beside.{Absent, CountsUnread, IsUnused, PlaysBeside, Unsought, Unused, Used, is_failing, spared_beside, wants_memory}
use Rattle.zperform.specs.Contents.{HasBytes}
use Rattle.zperform.specs.Devices.{Held}
use Rattle.zperform.specs.Informing.{name_of_certificate}
use Rattle.zperform.specs.Playing.{ComesTo}
use Rattle.zperform.specs.declared.accepting.AcceptedStory.{AcceptedStory}
use Rattle.zperform.specs.declared.blame.Blame.{Blame}
use Rattle.zperform.specs.declared.outcome.Failure.TheVariants.{File, Memory, Read, Write}
use Rattle.zperform.specs.declared.outcome.Problem.{Problem}
use Rattle.zperform.specs.declared.outcome.Problem.TheVariants.{Refused, Unreadable, BreaksStory, BreaksInstruction, Unlisted, Unfound, Occupied, Failed, Packed}
use Rattle.zperform.specs.declared.outcome.Outcome.{Outcome}
use Rattle.zperform.specs.declared.outcome.Outcome.TheVariants.{Stopped}

-- why a story's file couldn't be read
pub unread_story : (known : Option (List ℕ)) (problem : Problem) → (problem ≡ Failed File) ⊎ (problem ≡ Failed Memory) → (problem ≡ Failed Memory → HasBytes known) → IsNoStory known problem
unread_story known problem (inl e) wanted = subst (IsNoStory known) (sym e) tt
unread_story known problem (inr e) wanted = subst (IsNoStory known) (sym e) (wanted e)

-- a play with no certificate named has a file of which a failure needn't end it
pub spared_always : (save : Option (List ℕ)) (story : List ℕ) → spared_beside save story ≢ None
spared_always None story e = absurd cc
spared_always (Some name) story e = absurd cc

-- want of memory stops a play of a file with bytes
pub wanted : (known : Option (List ℕ)) (problem : Problem) → wants_memory problem ≡ true → HasBytes known → IsNoStory known problem
wanted known (Refused error) is some = absurd cc
wanted known (Unreadable error) is some = absurd cc
wanted known (BreaksStory rule) is some = absurd cc
wanted known (BreaksInstruction address rule) is some = absurd cc
wanted known (Unlisted error) is some = absurd cc
wanted known (Unfound error broken) is some = absurd cc
wanted known (Occupied purpose) is some = absurd cc
wanted known (Packed error) is some = absurd cc
wanted known (Failed File) is some = absurd cc
wanted known (Failed Read) is some = absurd cc
wanted known (Failed Write) is some = absurd cc
wanted known (Failed Memory) is some = some

-- and isn't a failure of files
pub wants_no_file : (problem : Problem) → wants_memory problem ≡ true → problem ≢ Failed File
wants_no_file problem is e = absurd (let none : wants_memory (Failed File) ≡ true = subst (λ (p : Problem). wants_memory p ≡ true) e is in cc)

-- files weren't blamed for a certificate whose file didn't fail
pub uncounted : (old new : ℕ) (blame : Option Blame) (problem : Problem) → CountsUnread old new problem → is_failing (Unused blame problem) ≡ false → new ≡ old
uncounted old new blame (Refused error) h still = h
uncounted old new blame (Unreadable error) h still = h
uncounted old new blame (BreaksStory rule) h still = h
uncounted old new blame (BreaksInstruction address rule) h still = h
uncounted old new blame (Unlisted error) h still = h
uncounted old new blame (Unfound error broken) h still = h
uncounted old new blame (Occupied purpose) h still = h
uncounted old new blame (Packed error) h still = h
uncounted old new blame (Failed File) h still = absurd cc
uncounted old new blame (Failed Read) h still = h
uncounted old new blame (Failed Write) h still = h
uncounted old new blame (Failed Memory) h still = h

-- what is told of a certificate that isn't used rests on what is known of files, and on which can fail
pub unused_before : (files later : Held) (story : List ℕ) (blame : Option Blame) (problem : Problem) → later.known ≡ files.known → later.can_fail ≡ files.can_fail → IsUnused later story blame problem → IsUnused files story blame problem
unused_before files later story blame problem kept alike unused = record {
  why = subst (λ (known : List ℕ → Option (List ℕ)). IsUnacceptedStory (known story) (known (name_of_certificate story)) problem) kept unused.why;
  meant = unused.meant;
  could = λ is. subst (λ (can : List ℕ → Bool). can (name_of_certificate story) ≡ true) alike (unused.could is);
  blamed = unused.blamed;
}

module _ (files later : Held) (story : List ℕ) (save : Option (List ℕ)) (manner : Manner) (given : World) (before : Option (List ℕ)) where
  -- nothing is played, and no certificate is looked for
  pub not_played : (problem : Problem) → IsNoStory (files.known story) problem → (problem ≢ Failed File → later.failures ≡ files.failures) → PlaysBeside files later story save Unsought manner given [] before before (Stopped problem)
  not_played problem why unfailed = record { comes = (problem, refl, why, refl, refl); unfailed = λ _ _ other. unfailed (λ e. other (ap (λ (p : Problem). Stopped p) e)) }

  module _ (refusals : List SaveError) (now : Option (List ℕ)) (outcome : Outcome) where
    -- by the certificate
    pub plays_used : (a : AcceptedStory) → IsAcceptedStory (files.known story) (files.known (name_of_certificate story)) a → PlayComesTo (files.known story) (files.known (name_of_certificate story)) manner given refusals before now outcome
        → (save ≡ None → later.failures ≡ files.failures) → PlaysBeside files later story save Used manner given refusals before now outcome
    plays_used a accepted comes unfailed = record { comes = ((a, accepted), comes); unfailed = λ _ none _. unfailed none }

    -- with none there
    pub plays_absent : files.known (name_of_certificate story) ≡ None → ComesTo (files.known story) manner given refusals before now outcome → (save ≡ None → later.failures ≡ files.failures)
        → PlaysBeside files later story save Absent manner given refusals before now outcome
    plays_absent absent comes unfailed = record { comes = (absent, comes); unfailed = λ _ none _. unfailed none }

    -- with one that isn't used
    pub plays_unused : (blame : Option Blame) (problem : Problem) → IsUnused files story blame problem → ComesTo (files.known story) manner given refusals before now outcome
        → (is_failing (Unused blame problem) ≡ false → save ≡ None → later.failures ≡ files.failures) → PlaysBeside files later story save (Unused blame problem) manner given refusals before now outcome
    plays_unused blame problem unused comes unfailed = record { comes = (unused, comes); unfailed = λ still none _. unfailed still none }

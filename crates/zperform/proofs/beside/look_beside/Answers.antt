use Rattle.std.proofs.Common.{◌≡◌, false, true, subst, rules, List, ℕ}
use Rattle.zperform.specs.Accepting.{IsAcceptedStory, IsNoStory, IsUnacceptedStory}
use Rattle.zperform.specs.Beside.{wants_memory}
use Rattle.zperform.specs.Blaming.{IsUnread}
use Rattle.zperform.specs.Informing.{name_of_certificate}
use Rattle.zperform.specs.declared.outcome.Failure.TheVariants.{Memory}
use Rattle.zperform.specs.declared.outcome.Problem.TheVariants.{Failed}
use Rattle.zperform.proofs.AcceptLemmas.{handed_on, no_story, story_bytes, story_held}
use Rattle.zperform.proofs.BesideLemmas.{wanted}
use Rattle.zperform.proofs.InfoLemmas.{nothing_known}
use Rattle.zperform.proofs.beside.look_beside.Goals as goal

pub returns-in_err-story-clause-refused : goal.returns-in_err-story-clause-refused
returns-in_err-story-clause-refused g c =
    let known = g.F.Files.known c.args.files.now c.args.name.now in
    handed_on (IsNoStory known) c.from_residual.result _ c.from_residual.ensures (no_story known c.args.file.now c.requires.read c.in_err-story.field-0.0 c.in_err-story.ensures.unloaded)

pub returns-in_err-certificate-clause-refused : goal.returns-in_err-certificate-clause-refused
returns-in_err-certificate-clause-refused g c =
    let known = g.F.Files.known c.args.files.now c.args.name.now in
    let held = story_held known c.args.file.now c.requires.read c.in_ok-story.story c.in_ok-story.ensures.loaded in
    handed_on (IsNoStory known) c.from_residual-in_err-certificate.result (Failed Memory) c.from_residual-in_err-certificate.ensures (story_bytes known c.in_ok-story.story held)

pub returns-then-not-is_there-clause-found : goal.returns-then-not-is_there-clause-found
returns-then-not-is_there-clause-found g c =
    let known = g.F.Files.known c.args.files.now in
    let none : c.is_there.result ≡ false = cc in
    let beside : c.as_str.result.now ≡ name_of_certificate c.args.name.now = search rules in
    nothing_known (known (name_of_certificate c.args.name.now)) c.is_there.result (rw (← beside) c.is_there.ensures) none

pub returns-in-Ok-clause-found : goal.returns-in-Ok-clause-found
returns-in-Ok-clause-found g c =
    let known = g.F.Files.known c.args.files.now in
    let name = c.args.name.now in
    let held = story_held (known name) c.args.file.now c.requires.read c.in_ok-story.story c.in_ok-story.ensures.loaded in
    let beside : c.as_str-2.result.now ≡ name_of_certificate name = search rules in
    subst (λ (n : List ℕ). IsAcceptedStory (known name) (known n) c.in-Ok.accepted) beside (c.in-Ok.ensures.accepted (known name) held)

pub returns-then-wants_memory-clause-refused : goal.returns-then-wants_memory-clause-refused
returns-then-wants_memory-clause-refused g c =
    let known = g.F.Files.known c.args.files.now c.args.name.now in
    let held = story_held known c.args.file.now c.requires.read c.in_ok-story.story c.in_ok-story.ensures.loaded in
    let is : wants_memory c.in-Err.problem ≡ true = cc in
    wanted known c.in-Err.problem is (story_bytes known c.in_ok-story.story held)

pub returns-else-wants_memory-clause-found : goal.returns-else-wants_memory-clause-found
returns-else-wants_memory-clause-found g c =
    let known = g.F.Files.known c.args.files.now in
    let name = c.args.name.now in
    let held = story_held (known name) c.args.file.now c.requires.read c.in_ok-story.story c.in_ok-story.ensures.loaded in
    let beside : c.as_str-2.result.now ≡ name_of_certificate name = search rules in (
      search rules,
      record {
        why = subst (λ (n : List ℕ). IsUnacceptedStory (known name) (known n) c.in-Err.problem) beside (c.in-Err.ensures.refused (known name) held);
        meant = cc;
        could = λ is. subst (λ (n : List ℕ). g.F.Files.can_fail c.args.files.now n ≡ true) beside (c.in-Err.ensures.could (search (rules, is)));
        blamed = λ is. subst (λ (n : List ℕ). IsUnread n (g.F.Files.blamed c.accept_loaded.new.files)) beside (c.in-Err.ensures.blamed (search (rules, is)));
      },
    )

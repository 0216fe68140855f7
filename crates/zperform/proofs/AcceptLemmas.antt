-- What was read of files, as what is known of them.
use Rattle.std.proofs.Common.{◌≡◌, ◌≢◌, ◌⊎◌, inl, inr, ◌∙◌, true≢false, ℕ, zero, suc, Bool, List, Option, Some, None, ◌<◌, refl, sym, ap, subst, take, length, length-take, arith}
use Rattle.std.specs.Prelude.{IfOk, IfErr, IfSome, IsErr, IsErrAnd, IsErrOf, Result, Ok, Err}
use Rattle.zstory.specs.LoadedStory.{LoadedStory}
use Rattle.zperform.specs.declared.outcome.Failure.TheVariants.{File, Read, Write, Memory}
use Rattle.zperform.specs.declared.outcome.Problem.{Problem}
use Rattle.zperform.specs.declared.outcome.Problem.TheVariants.{Refused, Unreadable, BreaksStory, BreaksInstruction, Unlisted, Unfound, Occupied, Failed, Packed}
use Rattle.zstory.specs.Refusal.{HasNone, IsCause}
use Rattle.zstory.specs.declared.load_error.LoadError.TheVariants.{TooShort}
use Rattle.zdomain.specs.Domain.{SetOperations}
use Rattle.zcert.specs.Certificate.{Certificate}
use Rattle.zcert.specs.Format.{Format}
use Rattle.zcheck.specs.Judged.{JudgedOver, IsUnjudged, marks_in}
use Rattle.zcheck.specs.declared.judged.Judged.TheVariants.{Whole, Marked}
use Rattle.zcheck.specs.Passes.{IsLowestStoryRule}
use Rattle.zcheck.specs.declared.refusal.StoryRule.{StoryRule}
use Rattle.zcheck.specs.declared.refusal.Refusal.{Refusal}
use Rattle.zcheck.specs.declared.refusal.Refusal.TheVariants as refusals
use Rattle.zperform.specs.Report.{problem_of_checking}
use Rattle.zfault.specs.Devices.{RisesByOne}
use Rattle.zperform.specs.Contents.{HasBytes}
use Rattle.zperform.specs.Devices.{ReadsUnless}
use Rattle.zperform.specs.Playing.{Holds, IsRefused, IsUnloaded}
use Rattle.zperform.specs.Accepting.{HoldsCertificate, HoldsStory, IsJudgedOf, IsNoCertificate, IsNoStory, IsUnaccepted}
use Rattle.zperform.proofs.StoryFiles.{holds_whole, reads, refused_whole}

-- a story that nothing speaks against has bytes
pub sound_bytes : (file : List ℕ) → HasNone (IsCause file) → 0 < length file
sound_bytes file none =
    let long : ¬ (length file < 64) = none TooShort (omega arith) in
    omega (arith, long)

-- a file has bytes of which a part has some
pub part_bytes : (known : Option (List ℕ)) (most : ℕ) (taken : List ℕ) → ((file : List ℕ) → known ≡ Some file → taken ≡ take most file) → 0 < length taken → HasBytes known
part_bytes None most taken part some = tt
part_bytes (Some file) most taken part some = omega (arith, ap length (part file refl), length-take most file)

-- a file that holds a story has bytes
pub story_bytes : (known : Option (List ℕ)) (story : LoadedStory) → HoldsStory known story → HasBytes known
story_bytes None story held = tt
story_bytes (Some file) story (same_file, same, holds) = subst (λ (bytes : List ℕ). 0 < length bytes) same (sound_bytes same_file holds.no_cause)

-- whether a certificate marks something is known
marks_nothing : (n : ℕ) → (n ≡ 0) ⊎ (n ≢ 0)
marks_nothing zero = inl refl
marks_nothing (suc n) = inr (λ e. omega (arith, e))

-- a rule of the story that is broken first is a reason, whatever is marked
pub unjudged_story : {V : Type 0} (o : SetOperations V) (story : LoadedStory) (c : Certificate V) (rule : StoryRule) → IsLowestStoryRule o story c rule → IsUnjudged o story c (refusals.Story rule)
unjudged_story o story c rule why = go (marks_nothing (marks_in c))
  where
    go : (marks_in c ≡ 0) ⊎ (marks_in c ≢ 0) → IsUnjudged o story c (refusals.Story rule)
    go (inl none) = inl (none, why)
    go (inr some) = inr (some, why)

module _ {V : Type 0} (o : SetOperations V) (format : Format V) (story_known certificate_known : Option (List ℕ)) where
  -- what is refused of a story and a certificate is refused of their files
  pub refused_of : (story : LoadedStory) (c : Certificate V) → HoldsStory story_known story → HoldsCertificate format certificate_known c
      → (refusal : Refusal) → IsUnjudged o story c refusal → IsUnaccepted o format story_known certificate_known (problem_of_checking refusal)
  refused_of story c held read (refusals.Story rule) why = record { story = story; certificate = c; held = held; read = read; why = why }
  refused_of story c held read (refusals.Instruction address rule) why = record { story = story; certificate = c; held = held; read = read; why = why }
  refused_of story c held read refusals.OutOfMemory why = story_bytes story_known story held

  -- what is accepted has bytes, with marks or without
  pub judged_bytes : (j : JudgedOver V) → IsJudgedOf o format story_known certificate_known j → HasBytes story_known
  judged_bytes (Whole a) accepted = story_bytes story_known a.story accepted.story
  judged_bytes (Marked m) marked = story_bytes story_known m.story marked.story

  -- no story is a story that isn't accepted
  pub no_story_refuses : (problem : Problem) → IsNoStory story_known problem → IsUnaccepted o format story_known certificate_known problem
  no_story_refuses (Refused error) h = h
  no_story_refuses (Unreadable error) h = absurd h
  no_story_refuses (BreaksStory rule) h = absurd h
  no_story_refuses (BreaksInstruction address rule) h = absurd h
  no_story_refuses (Unlisted error) h = absurd h
  no_story_refuses (Unfound error broken) h = absurd h
  no_story_refuses (Occupied purpose) h = absurd h
  no_story_refuses (Packed error) h = absurd h
  no_story_refuses (Failed File) h = tt
  no_story_refuses (Failed Read) h = absurd h
  no_story_refuses (Failed Write) h = absurd h
  no_story_refuses (Failed Memory) h = h

  -- nor is one with no certificate
  pub no_certificate_refuses : (story : LoadedStory) → HoldsStory story_known story → (problem : Problem) → IsNoCertificate format certificate_known problem → IsUnaccepted o format story_known certificate_known problem
  no_certificate_refuses story held (Refused error) h = absurd h
  no_certificate_refuses story held (Unreadable error) h = ((story, held), h)
  no_certificate_refuses story held (BreaksStory rule) h = absurd h
  no_certificate_refuses story held (BreaksInstruction address rule) h = absurd h
  no_certificate_refuses story held (Unlisted error) h = absurd h
  no_certificate_refuses story held (Unfound error broken) h = absurd h
  no_certificate_refuses story held (Occupied purpose) h = absurd h
  no_certificate_refuses story held (Packed error) h = absurd h
  no_certificate_refuses story held (Failed File) h = tt
  no_certificate_refuses story held (Failed Read) h = absurd h
  no_certificate_refuses story held (Failed Write) h = absurd h
  no_certificate_refuses story held (Failed Memory) h = story_bytes story_known story held

-- the first bytes of a certificate's file, which were read
pub first_read : (before after : List ℕ → Option (List ℕ)) (name items first : List ℕ) → after ≡ before → items ≡ first → ((bytes : List ℕ) → before name ≡ Some bytes → items ≡ take 5 bytes) → IfSome (after name) (λ file. first ≡ take 5 file)
first_read before after name items first same is read = go (after name) refl
  where
    go : (known : Option (List ℕ)) → after name ≡ known → IfSome known (λ file. first ≡ take 5 file)
    go None e = tt
    go (Some file) e = sym is ∙ read file (ap (λ (known : List ℕ → Option (List ℕ)). known name) (sym same) ∙ e)

module _ {V : Type 0} (o : SetOperations V) (format : Format V) (story_known certificate_known : Option (List ℕ)) where
  -- they failed to be read
  pub first_unread : (story : LoadedStory) → HoldsStory story_known story → (problem : Problem) → (problem ≡ Failed File) ⊎ (problem ≡ Failed Memory) → IsUnaccepted o format story_known certificate_known problem
  first_unread story held problem (inl is) = subst (IsUnaccepted o format story_known certificate_known) (sym is) tt
  first_unread story held problem (inr is) = subst (IsUnaccepted o format story_known certificate_known) (sym is) (story_bytes story_known story held)

-- an error that is handed on
pub handed_on : {T : Type 0} (P : Problem → Type 0) (r : Result T Problem) (problem : Problem) → IsErr r × IsErrAnd r (λ q. q ≡ problem) → P problem → IfErr r P
handed_on P (Ok x) problem (is, same) h = tt
handed_on P (Err q) problem (is, same) h = subst P (sym same) h

-- what holds of a value, of what follows from it
pub for_value : {T E : Type 0} (P Q : T → Type 0) (r : Result T E) → ((value : T) → P value → Q value) → IfOk r P → IfOk r Q
for_value P Q (Ok value) follows h = follows value h
for_value P Q (Err e) follows h = tt

-- another reason for an error
pub for_reason : {T : Type 0} (P Q : Problem → Type 0) (r : Result T Problem) → ((problem : Problem) → P problem → Q problem) → IfErr r P → IfErr r Q
for_reason P Q (Ok x) follows h = tt
for_reason P Q (Err problem) follows h = follows problem h

-- what there is no reason for isn't the error
pub no_reason : {T : Type 0} (P : Problem → Type 0) (problem : Problem) (r : Result T Problem) → (P problem → ⊥) → IfErr r P → r ≢ Err problem
no_reason P problem (Ok x) none h e = absurd cc
no_reason P problem (Err other) none h e = none (subst P (let is : other ≡ problem = cc in is) h)

-- files that were read, and then nothing more of them
pub read_on : {F : Type 0} (known : F → List ℕ → Option (List ℕ)) (failures : F → ℕ) (can_fail : F → List ℕ → Bool) (old new : F) (failed fails : Type 0) → ReadsUnless known failures can_fail old new failed → ¬ failed → ¬ fails → ReadsUnless known failures can_fail old new fails
read_on known failures can_fail old new failed fails files well still = record { blamed = ((λ is. absurd (still is)), λ other. files.blamed.1 well); kept = files.kept; alike = files.alike }

-- files of which nothing failed
pub read_so_far : {F : Type 0} (known : F → List ℕ → Option (List ℕ)) (failures : F → ℕ) (can_fail : F → List ℕ → Bool) (old new : F) (fails : Type 0) → known new ≡ known old → failures new ≡ failures old → can_fail new ≡ can_fail old → ¬ fails → ReadsUnless known failures can_fail old new fails
read_so_far known failures can_fail old new fails kept unfailed alike still = record { blamed = ((λ is. absurd (still is)), λ other. unfailed); kept = kept; alike = alike }

-- files of which nothing failed so far, and then more of them
module _ {F : Type 0} (known : F → List ℕ → Option (List ℕ)) (failures : F → ℕ) (can_fail : F → List ℕ → Bool) (old mid new : F) (kept : known mid ≡ known old) (unfailed : failures mid ≡ failures old) (alike : can_fail mid ≡ can_fail old) where
  pub read_behind : (failed fails : Type 0) → ReadsUnless known failures can_fail mid new failed → (fails → failed) → (failed → fails) → ReadsUnless known failures can_fail old new fails
  read_behind failed fails files on back = record {
    blamed = ((λ is. subst (λ (n : ℕ). RisesByOne n (failures new)) unfailed (files.blamed.0 (on is))), λ other. files.blamed.1 (λ is. other (back is)) ∙ unfailed);
    kept = files.kept ∙ kept;
    alike = files.alike ∙ alike;
  }

  -- with no failure
  pub read_well : (failed fails : Type 0) → ReadsUnless known failures can_fail mid new failed → ¬ failed → ¬ fails → ReadsUnless known failures can_fail old new fails
  read_well failed fails files well still = read_behind failed fails files (λ is. absurd (still is)) (λ is. absurd (well is))

  -- an error that is handed on
  pub read_and_handed : {A T : Type 0} (r : Result T Problem) (problem : Problem) → IsErr r × IsErrAnd r (λ q. q ≡ problem) → ReadsUnless known failures can_fail mid new (IsErrOf {T = A} (Err problem) (Failed File)) → ReadsUnless known failures can_fail old new (IsErrOf r (Failed File))
  read_and_handed (Ok x) problem (is, same) files = absurd (true≢false (sym is))
  read_and_handed (Err q) problem (is, same) files = read_behind _ _ files (λ e. ap Err (sym same ∙ (let file : q ≡ Failed File = cc in file))) (λ e. ap Err (same ∙ (let file : problem ≡ Failed File = cc in file)))

module _ (known : Option (List ℕ)) (taken : List ℕ) (part : (file : List ℕ) → known ≡ Some file → taken ≡ take 131073 file) where
  -- the part that was read holds a story, and so does the file
  pub story_held : (story : LoadedStory) → Holds taken story → HoldsStory known story
  story_held story holds = reads known 131073 taken (λ file. Holds file story) part (λ file e p. holds_whole 131073 taken file (omega arith) e story p) holds

  -- or it holds none, nor does the file
  pub no_story : (problem : Problem) → IsUnloaded taken problem → IsNoStory known problem
  no_story (Refused error) h = reads known 131073 taken (λ file. IsRefused file error) part (λ file e p. refused_whole 131073 taken file (omega arith) e error p) h
  no_story (Unreadable error) h = absurd h
  no_story (BreaksStory rule) h = absurd h
  no_story (BreaksInstruction address rule) h = absurd h
  no_story (Unlisted error) h = absurd h
  no_story (Unfound error broken) h = absurd h
  no_story (Occupied purpose) h = absurd h
  no_story (Packed error) h = absurd h
  no_story (Failed File) h = absurd h
  no_story (Failed Read) h = absurd h
  no_story (Failed Write) h = absurd h
  no_story (Failed Memory) h = part_bytes known 131073 taken part (sound_bytes taken h)

  pub held_ok : (r : Result LoadedStory Problem) → IfOk r (Holds taken) → IfOk r (HoldsStory known)
  held_ok (Ok story) h = story_held story h
  held_ok (Err problem) h = tt

  pub refused_err : (r : Result LoadedStory Problem) → IfErr r (IsUnloaded taken) → IfErr r (IsNoStory known)
  refused_err (Ok story) h = tt
  refused_err (Err problem) h = no_story problem h

-- What is shown of a certificate, and why one isn't.
use Rattle.std.specs.List.{slice_get}
use Rattle.std.proofs.lemmas.Option.{get_or_from_slice_get, slice_get_within}
use Rattle.std.proofs.Common.{◌≡◌, ◌≢◌, ◌⊎◌, ◌==◌, inl, inr, ◌∙◌, ℕ, suc, ◌+◌, ◌<◌, ◌≤◌, false, not, List, [], ◌∷◌, ◌++◌, length, Option, Some, None, Ok, refl, sym, ap, subst, take, drop, get_or, add-one, append_assoc, arith}
use Rattle.std.specs.Prelude.{IfNone, IfSome, IsErr, IsErrAnd, Result, Err, flat_map, option_map}
use Rattle.std.specs.List.{prefix_len}
use Rattle.std.proofs.Math.Seq.{drop-cons, take-suc}
use Rattle.std.proofs.lemmas.List.{append-nil, length-take-le}
use Rattle.zstory.specs.LoadedStory.{LoadedStory, identity_of}
use Rattle.zcode.specs.Instruction.{Instruction as Spelled}
use Rattle.zdomain.specs.Domain.{SetOperations}
use Rattle.zcert.specs.Certificate.{Certificate, Instruction}
use Rattle.zcert.specs.Facts.{facts_at}
use Rattle.zcert.specs.Format.{Format}
use Rattle.zcert.specs.Listed.{listed_at}
use Rattle.zcert.specs.Reading.{reading}
use Rattle.zcert.specs.Streaming.{Stream, IsFed, IsUnread as IsUnreadBytes}
use Rattle.zcert.specs.declared.error.CertError.{CertError}
use Rattle.zcert.specs.declared.error.CertError.TheVariants as errors
use Rattle.zrule.specs.Claims.{Entry, claims_of, entry_of}
use Rattle.zrule.specs.Rules.{IsLowestBroken, IsThere, Keeps}
use Rattle.zrule.specs.declared.rule.Rule.{Rule}
use Rattle.zcheck.specs.Numbers.{number_of}
use Rattle.zcheck.specs.declared.refusal.StoryRule.{StoryRule}
use Rattle.zcheck.specs.declared.refusal.StoryRule.TheVariants as rules
use Rattle.zperform.specs.Accepting.{HoldsCertificate, HoldsStory, IsFedWhole, IsNoCertificate, IsNoStory, version_of}
use Rattle.zperform.specs.Playing.{Reads}
use Rattle.zperform.specs.Report.{problem_of_reading}
use Rattle.zperform.specs.Numbered.{numbered}
use Rattle.zperform.specs.Showing.{IsAnswer, IsSpelled, IsToldOf, IsUnshown, answer_line, fact_line, first_line, frame_text, told_line}
use Rattle.zperform.specs.declared.outcome.Failure.TheVariants.{File, Read, Write, Memory}
use Rattle.zperform.specs.declared.outcome.Problem.{Problem}
use Rattle.zperform.specs.declared.outcome.Problem.TheVariants.{Refused, Unreadable, BreaksStory, BreaksInstruction, Unlisted, Unfound, Occupied, Failed, Packed}
use Rattle.zperform.proofs.AcceptLemmas.{story_bytes, unjudged_story}

-- ---- lines

-- what is added piece by piece
pub three_added : (old a b d : List ℕ) → old ++ a ++ b ++ d ≡ old ++ (a ++ b ++ d)
three_added old a b d = simp append_assoc

pub four_added : (old a b d e : List ℕ) → old ++ a ++ b ++ d ++ e ≡ old ++ (a ++ b ++ d ++ e)
four_added old a b d e = simp append_assoc

pub five_added : (old a b d e f : List ℕ) → old ++ a ++ b ++ d ++ e ++ f ≡ old ++ (a ++ b ++ d ++ e ++ f)
five_added old a b d e f = simp append_assoc

-- one element more
pub taken_more : {A : Type 0} (xs : List A) (k : ℕ) (x : A) → slice_get xs k ≡ Some x → take (k + 1) xs ≡ take k xs ++ x ∷ []
taken_more xs k x found = ap (λ (m : ℕ). take m xs) (add-one k) ∙ take-suc xs k x (slice_get_within xs k x found) ∙ ap (λ z. take k xs ++ z ∷ []) (get_or_from_slice_get xs k x x found)

-- one line more
numbered_with : {A : Type 0} (line : ℕ → A → List ℕ) (n : ℕ) (xs : List A) (x : A) → numbered line n (xs ++ x ∷ []) ≡ numbered line n xs ++ line (n + length xs) x
numbered_with line n [] x = append-nil (line n x) ∙ ap (λ (m : ℕ). line m x) (let is : n ≡ n + 0 = omega arith in is)
numbered_with line n (y ∷ ys) x =
    ap (λ (rest : List ℕ). line n y ++ rest) (numbered_with line (suc n) ys x) ∙ sym (append_assoc (line n y) (numbered line (suc n) ys) (line (suc n + length ys) x))
    ∙ ap (λ (m : ℕ). (line n y ++ numbered line (suc n) ys) ++ line m x) (let is : suc n + length ys ≡ n + suc (length ys) = omega arith in is)

pub numbered_more : {A : Type 0} (line : ℕ → A → List ℕ) (n k : ℕ) (xs : List A) (x : A) → k < length xs → x ≡ get_or xs k x → numbered line n (take (k + 1) xs) ≡ numbered line n (take k xs) ++ line (n + k) x
numbered_more line n k xs x below is =
    let longer : take (k + 1) xs ≡ take k xs ++ x ∷ [] = ap (λ (m : ℕ). take m xs) (add-one k) ∙ take-suc xs k x below ∙ ap (λ z. take k xs ++ z ∷ []) (sym is) in
    let few : k ≤ length xs = omega (arith, below) in
    ap (numbered line n) longer ∙ numbered_with line n (take k xs) x ∙ ap (λ (m : ℕ). numbered line n (take k xs) ++ line (n + m) x) (length-take-le k xs few)

-- one byte more of a first line
first_with : (b : ℕ) (rest : List ℕ) → (b == 10) ≡ false → first_line (b ∷ rest) ≡ b ∷ first_line rest
first_with b rest other = rw other (ap (λ (m : ℕ). take m (b ∷ rest)) (let is : 1 + prefix_len (λ byte. not (byte == 10)) rest ≡ suc (prefix_len (λ byte. not (byte == 10)) rest) = omega arith in is))

pub first_more : (lines : List ℕ) (k b : ℕ) → k < length lines → b ≡ get_or lines k b → (b == 10) ≡ false → first_line (drop k lines) ≡ b ∷ first_line (drop (k + 1) lines)
first_more lines k b below is other =
    let split : drop k lines ≡ b ∷ drop (k + 1) lines = drop-cons lines k b below ∙ ap (λ (z : ℕ). z ∷ drop (suc k) lines) (sym is) ∙ ap (λ (m : ℕ). b ∷ drop m lines) (sym (add-one k)) in
    ap first_line split ∙ first_with b (drop (k + 1) lines) other

-- ---- one instruction

-- what stands at an address
pub spelled_so : {V : Type 0} (o : SetOperations V) (story : LoadedStory) (c : Certificate V) (address : ℕ) (spelled : Option Spelled) → IfNone spelled ((s : Spelled) → IsThere story address s → ⊥) → IfSome spelled (IsThere story address)
    → IsSpelled o story c address spelled
spelled_so o story c address None none some = none
spelled_so o story c address (Some s) none some = some

module _ {V : Type 0} (o : SetOperations V) (set_text : V → List ℕ) (story : LoadedStory) (c : Certificate V) (address : ℕ) (i : Instruction V) (listed : listed_at c.instructions address ≡ Some i) where
  answered : (answer : Option Rule) → IfNone answer ((entry : Entry V) → (claims_of o c).entry address ≡ Some entry → (rule : Rule) → Keeps o (claims_of o c) story address entry rule)
      → IfSome answer (λ rule. (entry : Entry V) × ((claims_of o c).entry address ≡ Some entry) × IsLowestBroken o (claims_of o c) story address entry rule) → IsAnswer o story c address i answer
  answered None kept broken = kept (entry_of i) (ap (option_map entry_of) listed)
  answered (Some rule) kept (entry, there, lowest) =
      let entered : option_map entry_of (listed_at c.instructions address) ≡ Some (entry_of i) = ap (option_map entry_of) listed in
      let same : entry ≡ entry_of i = cc in
      subst (λ (e : Entry V). IsLowestBroken o (claims_of o c) story address e rule) same lowest

  -- what is told of it
  pub told_there : (spelled : Option Spelled) (answer : Option Rule) → IfNone spelled ((s : Spelled) → IsThere story address s → ⊥) → IfSome spelled (IsThere story address)
      → IfNone answer ((entry : Entry V) → (claims_of o c).entry address ≡ Some entry → (rule : Rule) → Keeps o (claims_of o c) story address entry rule)
      → IfSome answer (λ rule. (entry : Entry V) × ((claims_of o c).entry address ≡ Some entry) × IsLowestBroken o (claims_of o c) story address entry rule)
      → IsToldOf o set_text story c address (listed_at c.instructions address) (told_line i spelled ++ frame_text set_text i ++ flat_map (fact_line set_text) (facts_at c.facts address) ++ answer_line answer)
  told_there spelled answer none some kept broken =
      subst (λ (l : Option (Instruction V)). IsToldOf o set_text story c address l (told_line i spelled ++ frame_text set_text i ++ flat_map (fact_line set_text) (facts_at c.facts address) ++ answer_line answer)) (sym listed)
      (record { spelled = spelled; there = spelled_so o story c address spelled none some; answer = answer; judged = answered answer kept broken; lines = refl })

-- ---- why a certificate isn't shown

-- no rule comes before the first
none_before : (rule : StoryRule) → number_of rule < 1 → ⊥
none_before rules.Identity below = omega (arith, below)
none_before rules.FirstPlace below = omega (arith, below)
none_before rules.RoutineHeads below = omega (arith, below)
none_before rules.FirstGlobals below = omega (arith, below)
none_before rules.PropertyTables below = omega (arith, below)
none_before rules.Tree below = omega (arith, below)
none_before rules.Abbreviations below = omega (arith, below)
none_before rules.Tables below = omega (arith, below)

module _ {V : Type 0} (o : SetOperations V) (format : Format V) (story_known certificate_known : Option (List ℕ)) where
  -- there is no story
  pub no_story_shown : (problem : Problem) → IsNoStory story_known problem → IsUnshown o format story_known certificate_known problem
  no_story_shown (Refused error) h = h
  no_story_shown (Unreadable error) h = absurd h
  no_story_shown (BreaksStory rule) h = absurd h
  no_story_shown (BreaksInstruction address rule) h = absurd h
  no_story_shown (Unlisted error) h = absurd h
  no_story_shown (Unfound error broken) h = absurd h
  no_story_shown (Occupied purpose) h = absurd h
  no_story_shown (Packed error) h = absurd h
  no_story_shown (Failed File) h = tt
  no_story_shown (Failed Read) h = absurd h
  no_story_shown (Failed Write) h = absurd h
  no_story_shown (Failed Memory) h = h

  -- a writer isn't blamed for what isn't shown
  pub unshown_unwritten : (problem : Problem) → IsUnshown o format story_known certificate_known problem → problem ≢ Failed Write
  unshown_unwritten (Refused error) h e = cc
  unshown_unwritten (Unreadable error) h e = cc
  unshown_unwritten (BreaksStory rule) h e = cc
  unshown_unwritten (BreaksInstruction address rule) h e = cc
  unshown_unwritten (Unlisted error) h e = cc
  unshown_unwritten (Unfound error broken) h e = cc
  unshown_unwritten (Occupied purpose) h e = cc
  unshown_unwritten (Packed error) h e = cc
  unshown_unwritten (Failed File) h e = cc
  unshown_unwritten (Failed Read) h e = cc
  unshown_unwritten (Failed Write) h e = h
  unshown_unwritten (Failed Memory) h e = cc

  module _ (story : LoadedStory) (held : HoldsStory story_known story) where
    -- there is no certificate
    pub no_certificate_shown : (problem : Problem) → IsNoCertificate format certificate_known problem → IsUnshown o format story_known certificate_known problem
    no_certificate_shown (Refused error) h = absurd h
    no_certificate_shown (Unreadable error) h = ((story, held), h)
    no_certificate_shown (BreaksStory rule) h = absurd h
    no_certificate_shown (BreaksInstruction address rule) h = absurd h
    no_certificate_shown (Unlisted error) h = absurd h
    no_certificate_shown (Unfound error broken) h = absurd h
    no_certificate_shown (Occupied purpose) h = absurd h
    no_certificate_shown (Packed error) h = absurd h
    no_certificate_shown (Failed File) h = tt
    no_certificate_shown (Failed Read) h = absurd h
    no_certificate_shown (Failed Write) h = absurd h
    no_certificate_shown (Failed Memory) h = story_bytes story_known story held

    -- its first bytes failed to be read
    pub first_unshown : (problem : Problem) → (problem ≡ Failed File) ⊎ (problem ≡ Failed Memory) → IsUnshown o format story_known certificate_known problem
    first_unshown problem (inl is) = subst (IsUnshown o format story_known certificate_known) (sym is) tt
    first_unshown problem (inr is) = subst (IsUnshown o format story_known certificate_known) (sym is) (story_bytes story_known story held)

    -- its bytes aren't read
    unread_shown : (e : CertError) → Reads certificate_known (λ file. (version_of file ≡ format.version) × IsUnreadBytes format file e) → IsUnshown o format story_known certificate_known (problem_of_reading e)
    unread_shown errors.OutOfMemory read = story_bytes story_known story held
    unread_shown errors.Truncated read = ((story, held), read)
    unread_shown errors.Magic read = ((story, held), read)
    unread_shown errors.Version read = ((story, held), read)
    unread_shown errors.Trailing read = ((story, held), read)
    unread_shown errors.Order read = ((story, held), read)
    unread_shown errors.EmptyInterval read = ((story, held), read)
    unread_shown errors.Limit read = ((story, held), read)
    unread_shown errors.ListForm read = ((story, held), read)

    pub stream_unshown : (stream : Stream V) (e : CertError) → IsFedWhole format certificate_known stream → ((fed : List ℕ) → IsFed format stream fed → IsUnreadBytes format fed e) → IsUnshown o format story_known certificate_known (problem_of_reading e)
    stream_unshown stream e (file, is, (version, came)) why = unread_shown e (file, is, (version, why file came))

    -- what a stream reads
    pub stream_read : (stream : Stream V) (c : Certificate V) → IsFedWhole format certificate_known stream → ((fed : List ℕ) → IsFed format stream fed → reading format fed ≡ Ok c) → HoldsCertificate format certificate_known c
    stream_read stream c (file, is, (version, came)) read = (file, is, read file came)

    -- the certificate is of another story
    pub other_unshown : (c : Certificate V) → HoldsCertificate format certificate_known c → (c.identity ≡ identity_of story → ⊥) → IsUnshown o format story_known certificate_known (BreaksStory rules.Identity)
    other_unshown c read other = record {
      story = story;
      certificate = c;
      held = held;
      read = read;
      why = unjudged_story o story c rules.Identity (record { broken = other; before = λ rule below. absurd (none_before rule below) });
    }

    -- memory was refused
    pub memory_unshown : IsUnshown o format story_known certificate_known (Failed Memory)
    memory_unshown = story_bytes story_known story held

-- of either version
pub story_unwritten : {V W : Type 0} (o : SetOperations V) (format : Format V) (p : SetOperations W) (other : Format W) (story_known certificate_known : Option (List ℕ)) (problem : Problem)
    → IsUnshown o format story_known certificate_known problem ⊎ IsUnshown p other story_known certificate_known problem → problem ≢ Failed Write
story_unwritten o format p other story_known certificate_known problem (inl h) = unshown_unwritten o format story_known certificate_known problem h
story_unwritten o format p other story_known certificate_known problem (inr h) = unshown_unwritten p other story_known certificate_known problem h

-- want of memory is no failure of a file
pub memory_reads : {T : Type 0} (r : Result T Problem) → IsErr r × IsErrAnd r (λ q. q ≡ Failed Memory) → r ≢ Err (Failed File)
memory_reads (Ok x) (is, same) e = cc
memory_reads (Err q) (is, same) e = cc

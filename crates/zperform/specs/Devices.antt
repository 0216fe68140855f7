-- What is seen of devices, and what calls say of those that they use (own).
use Rattle.std.specs.Prelude.{◌≡◌, ◌≢◌, ◌⊎◌, ℕ, Bool, false, List, [], ◌∷◌, Option, None, Some, MatchResult, Result}
use Rattle.std.specs.Io.KnownBytes.{Appends}
use Rattle.zfault.specs.Devices.{AppendsBeginning, RisesByOne}
use Rattle.zplayer.specs.Outside.{Blames}
use Rattle.zperform.specs.declared.blame.Blame.{Blame}
use Rattle.zperform.specs.declared.outcome.Failure.TheVariants.{Write}
use Rattle.zperform.specs.declared.outcome.Problem.TheVariants.{Failed}
use Rattle.zperform.specs.declared.outcome.Outcome.{Outcome}
use Rattle.zperform.specs.declared.outcome.Outcome.TheVariants.{Stopped}

-- ---- what is seen of them

-- what is seen of a sink: the bytes that it took, where they are known, its count of failures, and whether bytes wait for a flush
pub record Seen : Type 0 where
  pub contents : Option (List ℕ)
  pub failures : ℕ
  pub waits : Bool

abbrev pub seen : {Sink : Type 0} → (Sink → Option (List ℕ)) → (Sink → ℕ) → (Sink → Bool) → Sink → Seen
seen contents failures waits sink = record { contents = contents sink; failures = failures sink; waits = waits sink }

-- what is told of a source: the bytes that it has left, where they are known, and its count of failures
pub record Told : Type 0 where
  pub remaining : Option (List ℕ)
  pub failures : ℕ

abbrev pub told : {Source : Type 0} → (Source → Option (List ℕ)) → (Source → ℕ) → Source → Told
told remaining failures source = record { remaining = remaining source; failures = failures source }

-- what is told of files: the bytes of each, by its name, where they are known, their count of failures, which can fail, and which failed last
pub record Held : Type 0 where
  pub known : List ℕ → Option (List ℕ)
  pub failures : ℕ
  pub can_fail : List ℕ → Bool
  pub blamed : Option Blame

abbrev pub held : {Files : Type 0} → (Files → List ℕ → Option (List ℕ)) → (Files → ℕ) → (Files → List ℕ → Bool) → (Files → Option Blame) → Files → Held
held known failures can_fail blamed files = record { known = known files; failures = failures files; can_fail = can_fail files; blamed = blamed files }

-- the files, the reader, the writer, and the errors
pub record Devices : Type 0 where
  pub files : Held
  pub reader : Told
  pub writer : Seen
  pub errors : Seen

abbrev pub devices : Held → Told → Seen → Seen → Devices
devices files reader writer errors = record { files = files; reader = reader; writer = writer; errors = errors }

-- ---- calls that may fail

-- A writer is blamed just where writing fails. Else what was written is flushed, or the writer wasn't called.
pub record FlushesUnless {W : Type 0} (failures : W → ℕ) (waits : W → Bool) (old new : W) (fails : Type 0) : Type 0 where
  pub blamed : Blames fails (failures old) (failures new)
  pub flushed : ¬ fails → (waits new ≡ false) ⊎ (new ≡ old)

-- files are blamed just where reading one fails, and each has the bytes that it had, and can fail where it could
pub record ReadsUnless {F : Type 0} (known : F → List ℕ → Option (List ℕ)) (failures : F → ℕ) (can_fail : F → List ℕ → Bool) (old new : F) (fails : Type 0) : Type 0 where
  pub blamed : Blames fails (failures old) (failures new)
  pub kept : known new ≡ known old
  pub alike : can_fail new ≡ can_fail old

-- Files are blamed where this fails, and nowhere else while none is for saves: with one, they may fail and a play goes on. Each has the
-- bytes that it had, but the one that may be written.
pub record UsesUnless {F : Type 0} (known : F → List ℕ → Option (List ℕ)) (failures : F → ℕ) (old new : F) (saves writes : Option (List ℕ)) (fails : Type 0) : Type 0 where
  pub unread : fails → RisesByOne (failures old) (failures new)
  pub unfailed : saves ≡ None → ¬ fails → failures new ≡ failures old
  pub kept : writes ≡ None → known new ≡ known old
  pub spared : (other : List ℕ) → writes ≢ Some other → known new other ≡ known old other

-- ---- texts that are written

-- a text was taken whole and flushed, with no failure
pub record Takes (old new : Seen) (text : List ℕ) : Type 0 where
  pub whole : Appends old.contents new.contents text
  pub quiet : new.failures ≡ old.failures
  pub flushed : new.waits ≡ false

-- a failure broke a text off, or its flush
pub record Breaks (old new : Seen) (text : List ℕ) : Type 0 where
  pub begun : AppendsBeginning old.contents new.contents text
  pub blamed : RisesByOne old.failures new.failures

-- a text was taken, or its writing failed
abbrev pub Writes : {A E : Type 0} → Seen → Seen → List ℕ → Result A E → Type 0
Writes old new text result = MatchResult result (λ _. Takes old new text) (λ _. Breaks old new text)

-- a text was said, as far as the sink took it; with nothing to say the sink isn't called
abbrev pub Says : Seen → Seen → List ℕ → Type 0
Says old new [] = new ≡ old
Says old new (byte ∷ bytes) = Takes old new (byte ∷ bytes) ⊎ Breaks old new (byte ∷ bytes)

-- a text was taken, and this is the outcome of that, or its writing failed
abbrev pub Ends : Seen → Seen → List ℕ → Outcome → Outcome → Type 0
Ends old new text done outcome = ((outcome ≡ done) × Takes old new text) ⊎ ((outcome ≡ Stopped (Failed Write)) × Breaks old new text)

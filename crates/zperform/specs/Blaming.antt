-- Which file failed last, and why, in words (own).
use Rattle.std.specs.Prelude.{◌≡◌, ◌⊎◌, ℕ, List, ◌++◌, take, Option, None, Some, codes}
use Rattle.zperform.specs.declared.blame.Action.{Action}
use Rattle.zperform.specs.declared.blame.Action.TheVariants.{Read, Write}
use Rattle.zperform.specs.declared.blame.Cause.{Cause}
use Rattle.zperform.specs.declared.blame.Cause.TheVariants.{Missing, Denied, Folder, NoFolder, Full, BadName, NotEmpty, Other}
use Rattle.zperform.specs.declared.blame.Blame.{Blame}

-- the file of a name is blamed for what was asked of it
pub record IsBlameOf (name : List ℕ) (action : Action) (blame : Blame) : Type 0 where
  pub name_is : blame.name.items ≡ take 4096 name
  pub action_is : blame.action ≡ action

-- a failure is that of the file of a name, of which this was asked
abbrev pub IsOf : List ℕ → Action → Option Blame → Type 0
IsOf name action None = ⊥
IsOf name action (Some blame) = IsBlameOf name action blame

-- a failure is that of the file of a name, which was to be read
abbrev pub IsUnread : List ℕ → Option Blame → Type 0
IsUnread name blamed = IsOf name Read blamed

-- or of one of two, a story's and a certificate's
abbrev pub IsUnreadOf : List ℕ → List ℕ → Option Blame → Type 0
IsUnreadOf story certificate blamed = IsOf story Read blamed ⊎ IsOf certificate Read blamed

-- or of one that was to be read, or another that was to be written
abbrev pub IsUnreadOrUnwritten : List ℕ → List ℕ → Option Blame → Type 0
IsUnreadOrUnwritten story certificate blamed = IsOf story Read blamed ⊎ IsOf certificate Write blamed

abbrev pub asked_text : Action → List ℕ
asked_text Read = codes "cannot read"
asked_text Write = codes "cannot write"

-- where a file is to be written, it is a folder that there isn't
abbrev pub missing_text : Action → List ℕ
missing_text Read = codes "no such file"
missing_text Write = codes "no such folder"

abbrev pub cause_text : Action → Cause → List ℕ
cause_text action Missing = missing_text action
cause_text action Denied = codes "permission denied"
cause_text action Folder = codes "it is a folder"
cause_text action NoFolder = codes "a part of its path is no folder"
cause_text action Full = codes "the device is full"
cause_text action BadName = codes "no file can have this name"
cause_text action NotEmpty = codes "it is not empty"
cause_text action Other = codes "the system failed"

-- as `cannot read 'nofile.z3': no such file`
abbrev pub blame_text : Blame → List ℕ
blame_text blame = asked_text blame.action ++ codes " '" ++ blame.name.items ++ codes "': " ++ cause_text blame.action blame.cause

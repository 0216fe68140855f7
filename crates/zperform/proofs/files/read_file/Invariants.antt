use Rattle.std.proofs.Common.{◌≡◌, ◌≤◌, ◌-◌, ℕ, List, Some, vec_len}
use Rattle.zperform.specs.Contents.{IsBeginning}
use Rattle.zperform.proofs.files.read_file.Given as goal

-- the bytes read so far are the first of the file, and no call has failed
abbrev pub invariant-pieces : goal.invariant-pieces
invariant-pieces g l = record {
  within : vec_len l.file ≤ l.most;
  kept : g.F.Files.known l.files ≡ g.F.Files.known l.initial.files;
  unfailed : g.F.Files.failures l.files ≡ g.F.Files.failures l.initial.files;
  alike : g.F.Files.can_fail l.files ≡ g.F.Files.can_fail l.initial.files;
  read : (bytes : List ℕ) → g.F.Files.known l.initial.files l.name ≡ Some bytes → IsBeginning l.file.items bytes;
}

abbrev pub decreases-pieces : goal.decreases-pieces
decreases-pieces g l = l.most - vec_len l.file

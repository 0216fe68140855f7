use Rattle.std.proofs.Common.{◌≡◌, ◌+◌, ◌<◌, drop, length}
use Rattle.zfront.specs.Pages.{page_front}
use Rattle.zfront.proofs.page.page_length.Given as goal

-- what is left to be looked at, with room for so many lines
abbrev pub invariant-loop-at : goal.invariant-loop-at
invariant-loop-at l = record {
  some : 0 < l.left;
  same : length (page_front l.room l.piece) ≡ l.at + length (page_front l.left (drop l.at l.piece));
}

use Rattle.std.proofs.Common.{◌≡◌, ◌≤◌, ◌+◌, ◌*◌}
use Rattle.zperform.specs.Accepting.{IsFedTo}
use Rattle.zperform.proofs.feeding.feed_certificate.Given as goal

-- the bytes fed so far are the first of the file, with at least one of each piece behind those that tell the version, and no call has failed
abbrev pub invariant-pieces : goal.invariant-pieces
invariant-pieces g l = record {
  story : l.stream.story ≡ l.fn.story;
  least : 5 + l._piece ≤ l.at;
  most : l.at ≤ 4096 * l._piece + 5;
  fed : IsFedTo g.V.Spelled.format (g.F.Files.known l.initial.files l.name) l.at l.stream.stream;
  kept : g.F.Files.known l.files ≡ g.F.Files.known l.initial.files;
  unfailed : g.F.Files.failures l.files ≡ g.F.Files.failures l.initial.files;
  alike : g.F.Files.can_fail l.files ≡ g.F.Files.can_fail l.initial.files;
}

use Rattle.std.proofs.Common.{false, ◌≡◌, ◌≤◌, take, length, vec_capacity, vec_len}
use Rattle.std.specs.List.{AllZip}
use Rattle.zcheck.specs.Acceptance.{IsRecordOf}
use Rattle.zcheck.proofs.Places.{KeepsFirst}
use Rattle.zcheck.proofs.listing.each_judged.Given as goal

abbrev pub invariant-loop-index : goal.invariant-loop-index
invariant-loop-index g l = record {
  kept : KeepsFirst g.V.Domain.operations l.story l.certificate (λ i. false) l.index;
  made : AllZip (IsRecordOf l.story) (take l.index l.certificate.instructions) l.records.items;
  count : vec_len l.records ≡ l.index;
  room : length l.certificate.instructions ≤ vec_capacity l.records;
  same : l.ends ≡ l.story.memory;
}

use Rattle.zunpack.proofs.Runs.{unpacked_again, unpacked_takes, packs_plainly, packed_again}
use Rattle.zunpack.proofs.Made.{one}
use Rattle.zunpack.proofs.laws.memory_is_packed.Goals as goal

pub returns-clause-read : goal.returns-clause-read
returns-clause-read c = unpacked_again

pub returns-clause-only : goal.returns-clause-only
returns-clause-only c = unpacked_takes

pub returns-clause-packed : goal.returns-clause-packed
returns-clause-packed c = packs_plainly

pub returns-clause-again : goal.returns-clause-again
returns-clause-again c = packed_again

pub returns-clause-one : goal.returns-clause-one
returns-clause-one c = one

-- What a contract sees of a `FromRead` and of a `ToWrite`.
use Rattle.std.specs.Prelude.{ℕ, Bool}
use Rattle.zfault.specs.declared.adapters.FromRead.{FromRead}
use Rattle.zfault.specs.declared.adapters.ToWrite.{ToWrite}

-- the reader under a source
abbrev pub reader_of : {R : Type 0} → FromRead R → R
reader_of source = source.reader

-- how many of its reads failed
abbrev pub read_failures : {R : Type 0} → FromRead R → ℕ
read_failures source = source.failed_reads

-- the writer under a sink
abbrev pub writer_of : {W : Type 0} → ToWrite W → W
writer_of sink = sink.writer

-- how many of its writes and flushes failed
abbrev pub write_failures : {W : Type 0} → ToWrite W → ℕ
write_failures sink = sink.failed_calls

-- whether it took bytes since its last flush
abbrev pub unflushed : {W : Type 0} → ToWrite W → Bool
unflushed sink = sink.unflushed

use Rattle.std.proofs.Common.{◌≡◌, map, string_bytes, take}
use Rattle.clap.specs.Walk.{texts}
use Rattle.zpc.proofs.words_of.Given as goal

-- a word for each argument so far
abbrev pub invariant-loop-argument : goal.invariant-loop-argument
invariant-loop-argument l = texts l.words.items ≡ map string_bytes (take l.argument-index l.arguments)

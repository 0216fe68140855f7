use Rattle.std.proofs.Common.{codes}
use Rattle.std.specs.Str.Parse.{ExplainsUnsignedError, HasUnsignedDigitsIfOk, ParsesUnsigned}
use Rattle.clap.specs.Words.{found_of}
use Rattle.zcommand.specs.CommandLine.{is_limit}
use Rattle.zcommand.proofs.Matched.{fitting_given, small_limit}
use Rattle.zcommand.proofs.words.frames_of.Goals as goal

pub returns : goal.returns
returns c =
    fitting_given is_limit small_limit (codes "frames") (λ bs r. ParsesUnsigned 16 10 bs r × ExplainsUnsignedError 10 bs r × HasUnsignedDigitsIfOk bs r) (found_of c.args.matches.now) _ _
    c.get_one.ensures.none c.get_one.ensures.value (λ t x given. given.0) c.limit_of.ensures

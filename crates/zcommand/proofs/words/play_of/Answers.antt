use Rattle.std.proofs.Common.{codes, refl}
use Rattle.std.specs.Str.Parse.{ExplainsUnsignedError, HasUnsignedDigitsIfOk, ParsesUnsigned}
use Rattle.clap.specs.Words.{found_of}
use Rattle.zcommand.proofs.Matched.{certificate_given, flag_read, number_given, save_given, story_read}
use Rattle.zcommand.proofs.words.play_of.Goals as goal

pub returns : goal.returns
returns c =
    let found = found_of c.args.matches.now in
    let seed = number_given 64 (codes "seed") (λ bs r. ParsesUnsigned 64 10 bs r × ExplainsUnsignedError 10 bs r × HasUnsignedDigitsIfOk bs r) found _ _
    c.get_one.ensures.none c.get_one.ensures.value (λ t x given. given.0) c.unwrap_or-seed.ensures in
    let budget = number_given 32 (codes "budget") (λ bs r. ParsesUnsigned 32 10 bs r × ExplainsUnsignedError 10 bs r × HasUnsignedDigitsIfOk bs r) found _ _
    c.get_one-2.ensures.none c.get_one-2.ensures.value (λ t x given. given.0) c.unwrap_or-budget.ensures in
    (refl, story_read found _ _ _ c.get_str.ensures refl c.unwrap_or-story.ensures, certificate_given found _ c.get_str-certificate.ensures, seed, budget, c.status_lines_of-status.ensures, save_given found _ c.get_str-save.ensures, flag_read (codes "tell") _ found _ _ c.get_one-3.ensures.none c.get_one-3.ensures.value c.unwrap_or-tell.ensures, flag_read (codes "force") _ found _ _ c.get_one-4.ensures.none c.get_one-4.ensures.value c.unwrap_or-force.ensures, flag_read (codes "lenient") _ found _ _ c.get_one-5.ensures.none c.get_one-5.ensures.value c.unwrap_or-lenient.ensures)

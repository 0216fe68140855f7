use Rattle.std.proofs.Common.{◌∙◌, Bool, codes, sym, ap}
use Rattle.std.specs.Prelude.{if◌then◌else◌}
use Rattle.clap.specs.Words.{found_of, rows_of}
use Rattle.zscreen.specs.declared.status_lines.StatusLines.TheVariants.{Hidden, Bracketed, Framed}
use Rattle.zcommand.specs.CommandLine.{is_asked}
use Rattle.zcommand.proofs.Matched.{flag_read}
use Rattle.zcommand.proofs.words.status_lines_of.Goals as goal

pub returns-then-unwrap_or : goal.returns-then-unwrap_or
returns-then-unwrap_or c =
    let found = found_of c.args.matches.now in
    let rows = rows_of found in
    let framed = flag_read (codes "framed-status") _ found _ _ c.get_one.ensures.none c.get_one.ensures.value c.unwrap_or.ensures in
    ap (λ (b : Bool). if b then Framed else if is_asked (codes "status") rows then Bracketed else Hidden) (sym c.if-unwrap_or.true ∙ framed)

pub returns-then-unwrap_or-2 : goal.returns-then-unwrap_or-2
returns-then-unwrap_or-2 c =
    let found = found_of c.args.matches.now in
    let rows = rows_of found in
    let framed = flag_read (codes "framed-status") _ found _ _ c.get_one.ensures.none c.get_one.ensures.value c.unwrap_or.ensures in
    let asked = flag_read (codes "status") _ found _ _ c.get_one-else-unwrap_or.ensures.none c.get_one-else-unwrap_or.ensures.value c.unwrap_or-else-unwrap_or.ensures in
    ap (λ (b : Bool). if b then Framed else Bracketed) (sym c.if-unwrap_or.false ∙ framed)
    ∙ ap (λ (b : Bool). if is_asked (codes "framed-status") rows then Framed else if b then Bracketed else Hidden) (sym c.if-unwrap_or-2.true ∙ asked)

pub returns-else-unwrap_or-2 : goal.returns-else-unwrap_or-2
returns-else-unwrap_or-2 c =
    let found = found_of c.args.matches.now in
    let rows = rows_of found in
    let framed = flag_read (codes "framed-status") _ found _ _ c.get_one.ensures.none c.get_one.ensures.value c.unwrap_or.ensures in
    let asked = flag_read (codes "status") _ found _ _ c.get_one-else-unwrap_or.ensures.none c.get_one-else-unwrap_or.ensures.value c.unwrap_or-else-unwrap_or.ensures in
    ap (λ (b : Bool). if b then Framed else Hidden) (sym c.if-unwrap_or.false ∙ framed)
    ∙ ap (λ (b : Bool). if is_asked (codes "framed-status") rows then Framed else if b then Bracketed else Hidden) (sym c.if-unwrap_or-2.false ∙ asked)

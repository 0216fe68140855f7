use Rattle.std.proofs.Common.{rules}
use Rattle.std.proofs.lemmas.Result.{err_from_is_err_and}
use Rattle.zcert.specs.FormatLaw.{IsBytes}
use Rattle.zcert.proofs.Pieces.{magic_leads_at, magic_refused_at, version_leads_at, version_refused_at, field_leads_at, field_part_at, field_refused_at}
use Rattle.zcert.proofs.reader.Reader.step.Goals as goal

pub returns-in_err-magic_of-in-Magic-clause-refused : goal.returns-in_err-magic_of-in-Magic-clause-refused
returns-in_err-magic_of-in-Magic-clause-refused g c =
    let p = err_from_is_err_and c.from_residual.result c.from_residual.ensures.1 in
    rw (p.1, p.2) (λ fed led. magic_refused_at g.V.Spelled.format g.V.Spelled.turns _ _ _ fed c.args.number.now c.in_err-magic_of-in-Magic.field-0.0 c.requires.fits (search rules) c.requires.part c.in_err-magic_of-in-Magic.ensures led)

pub returns-in_err-version_of-in-Version-clause-refused : goal.returns-in_err-version_of-in-Version-clause-refused
returns-in_err-version_of-in-Version-clause-refused g c =
    let p = err_from_is_err_and c.from_residual-in_err-version_of-in-Version.result c.from_residual-in_err-version_of-in-Version.ensures.1 in
    rw (p.1, p.2) (λ fed led. version_refused_at g.V.Spelled.format g.met.V.Spelled.is_format g.V.Spelled.turns _ _ _ fed c.args.number.now c.in_err-version_of-in-Version.field-0.0 c.requires.fits (search rules) c.requires.part c.in_err-version_of-in-Version.ensures.value led)

pub returns-in_ok-magic_of-in-Magic-clause-led : goal.returns-in_ok-magic_of-in-Magic-clause-led
returns-in_ok-magic_of-in-Magic-clause-led g c =
    let fits : IsBytes c.args.number.now = λ i. search rules in
    λ fed led. magic_leads_at g.V.Spelled.format g.V.Spelled.turns _ _ _ fed c.args.number.now fits (search rules) c.requires.part c.in_ok-magic_of-in-Magic.ensures led

-- of certificates that name no limit, and of those that do
pub returns-in_ok-version_of-in-Version-clause-led : goal.returns-in_ok-version_of-in-Version-clause-led
returns-in_ok-version_of-in-Version-clause-led g c =
    let fits : IsBytes c.args.number.now = λ i. search rules in
    λ fed led. version_leads_at g.V.Spelled.format g.met.V.Spelled.is_format g.V.Spelled.turns _ _ _ _ fed c.args.number.now _ fits (search rules) c.requires.part c.in_ok-version_of-in-Version.ensures.value (search rules) led

pub returns-in-Field-clause-led : goal.returns-in-Field-clause-led
returns-in-Field-clause-led g c =
    let fits : IsBytes c.args.number.now = λ i. search rules in
    field_leads_at g.V.Spelled.format g.met.V.Spelled.is_format g.V.Spelled.turns g.met.V.Spelled.are_turns c.next_of.result c.args.self.now.stage _ _ _ _ c.args.number.now fits (search rules) c.next_of.ensures.on

pub returns-in-Field-clause-part : goal.returns-in-Field-clause-part
returns-in-Field-clause-part g c =
    field_part_at g.V.Spelled.format g.met.V.Spelled.is_format g.V.Spelled.turns g.met.V.Spelled.are_turns c.next_of.result c.args.self.now.stage _ _ _ _ c.args.number.now (search rules) c.next_of.ensures.on

pub returns-in-Field-clause-refused : goal.returns-in-Field-clause-refused
returns-in-Field-clause-refused g c =
    let fits : IsBytes c.args.number.now = λ i. search rules in
    field_refused_at g.V.Spelled.format g.met.V.Spelled.is_format g.V.Spelled.turns g.met.V.Spelled.are_turns c.args.self.now.stage c.args.self.now.builder c.args.self.now.partial c.args.number.now c.next_of.result fits c.requires.some (search rules) c.next_of.ensures.refused c.next_of.ensures.memory

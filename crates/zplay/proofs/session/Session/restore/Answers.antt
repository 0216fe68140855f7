use Rattle.std.proofs.Common.{◌≡◌, Ok, refl, sym}
use Rattle.std.proofs.lemmas.Result.{err_from_is_err_and}
use Rattle.zquetzal.specs.Reading.{reading}
use Rattle.zplay.proofs.Accepting.{each_fixed}
use Rattle.zplay.proofs.Resumed.{able_there, gone_on, in_play_there, never_refused, refused_by}
use Rattle.zplay.proofs.Saving.{refused_exact}
use Rattle.zplay.proofs.session.Session.restore.Goals as goal

pub judge_save-requires-clause-fixed : goal.judge_save-requires-clause-fixed
judge_save-requires-clause-fixed g c = rw (c.listing.ensures.value, c.story-2.ensures.value) (each_fixed g.V.Domain.operations g.met.V.Domain.sound g.V.Spelled.format c.self.inside.accepted.now c.known_of.ensures)

pub returns-in_err-judge_save-clause-refused : goal.returns-in_err-judge_save-clause-refused
returns-in_err-judge_save-clause-refused g c =
    let a = c.self.inside.accepted.now in
    let is : reading a.story c.args.save.now ≡ Ok c.in_ok-view.view = sym (rw c.story.ensures.value at c.in_ok-view.ensures.exact) in
    let p = err_from_is_err_and c.from_residual-in_err-judge_save.result c.from_residual-in_err-judge_save.ensures.1 in
    let refused = refused_by g.V.Domain.operations a c.self.inside.machine.state c.in_ok-view.view c.args.save.now is c.story-2.result.now c.certificate.result.now c.listing.result.now c.in_err-judge_save.field-0.0 c.story-2.ensures.value c.certificate.ensures.value c.listing.ensures.value c.in_err-judge_save.ensures.value c.self.invariant.described.is_state in
    rw (← c.self.view_is, p.1, p.2) refused

pub returns-in_err-judge_save-clause-exact : goal.returns-in_err-judge_save-clause-exact
returns-in_err-judge_save-clause-exact g c =
    let p = err_from_is_err_and c.from_residual-in_err-judge_save.result c.from_residual-in_err-judge_save.ensures.1 in
    refused_exact g.V.Domain.operations c.args.self.now c.args.save.now c.from_residual-in_err-judge_save.result p.0 p.1 (returns-in_err-judge_save-clause-refused g c)

pub restore-requires-clause-able : goal.restore-requires-clause-able
restore-requires-clause-able g c =
    let a = c.self.inside.accepted.now in
    let is : reading a.story c.args.save.now ≡ Ok c.in_ok-view.view = sym (rw c.story.ensures.value at c.in_ok-view.ensures.exact) in
    let j = (rw (c.listing.ensures.value, c.certificate.ensures.value, c.story-2.ensures.value) at c.in_ok-judge_save.ensures.value) c.self.inside.machine.state c.self.invariant.described.is_state in
    λ e t goes. able_there g.V.Domain.operations g.met.V.Domain.sound g.V.Spelled.format a _ _ _ c.self.invariant c.in_ok-view.view c.args.save.now is j t goes

pub unreachable-requires : goal.unreachable-requires
unreachable-requires g c =
    let a = c.self.inside.accepted.now in
    let is : reading a.story c.args.save.now ≡ Ok c.in_ok-view.view = sym (rw c.story.ensures.value at c.in_ok-view.ensures.exact) in
    let j = (rw (c.listing.ensures.value, c.certificate.ensures.value, c.story-2.ensures.value) at c.in_ok-judge_save.ensures.value) c.self.inside.machine.state c.self.invariant.described.is_state in
    never_refused g.V.Domain.operations g.met.V.Domain.sound g.V.Spelled.format a _ _ _ c.self.invariant c.in_ok-view.view c.args.save.now is j c.in-Err.field-0 c.in_ok-judge_save.ensures.low (rw c.certificate.ensures.value at c.in_ok-judge_save.ensures.few) c.in_ok-view.ensures.found.saved.frames c.in-Err.ensures.narrow

pub invariant_of-self : goal.invariant_of-self
invariant_of-self g c =
    let a = c.self.inside.accepted.now in
    let is : reading a.story c.args.save.now ≡ Ok c.in_ok-view.view = sym (rw c.story.ensures.value at c.in_ok-view.ensures.exact) in
    let j = (rw (c.listing.ensures.value, c.certificate.ensures.value, c.story-2.ensures.value) at c.in_ok-judge_save.ensures.value) c.self.inside.machine.state c.self.invariant.described.is_state in
    in_play_there g.V.Domain.operations g.met.V.Domain.sound g.V.Spelled.format a _ _ _ c.self.invariant c.in_ok-view.view c.args.save.now is j _ _ _ c.restore.ensures.play c.restore.ensures.words c.in-Ok.ensures.ok

pub returns-clause-ok : goal.returns-clause-ok
returns-clause-ok g c =
    let a = c.self.inside.accepted.now in
    let is : reading a.story c.args.save.now ≡ Ok c.in_ok-view.view = sym (rw c.story.ensures.value at c.in_ok-view.ensures.exact) in
    let j = (rw (c.listing.ensures.value, c.certificate.ensures.value, c.story-2.ensures.value) at c.in_ok-judge_save.ensures.value) c.self.inside.machine.state c.self.invariant.described.is_state in
    rw (← c.self.view_is) (gone_on g.V.Domain.operations g.met.V.Domain.sound g.V.Spelled.format a _ _ _ c.self.invariant c.in_ok-view.view c.args.save.now is j c.restore.new.self.state c.in-Ok.ensures.ok)

pub returns-clause-exact : goal.returns-clause-exact
returns-clause-exact g c = let ok = returns-clause-ok g c in (λ t. (_, ok.0, ok.1), λ accepts. refl)

use Rattle.std.proofs.Common.{◌≡◌, ◌∙◌, ℕ, List, Result, Ok, Err, ap, drop, length, sym, refl}
use Rattle.std.specs.Prelude.{OnOk}
use Rattle.zcode.specs.Reading.{instruction_at}
use Rattle.zlenient.specs.declared.excusing.Unexcused.{Unexcused}
use Rattle.zlenient.specs.Front.{front_at}
use Rattle.zlenient.proofs.Excused.{ends_within}
use Rattle.zlenient.proofs.Over.{fetched_listed, front_stays, stands_there, unlisted, unspelled}
use Rattle.zlenient.proofs.excusing.excuse.Goals as goal

always : (r : Result (Unit {0}) Unexcused) (P : Type 0) → P → OnOk r P
always (Ok u) P p = p
always (Err e) P p = tt

pub do_instead-requires-clause-is : goal.do_instead-requires-clause-is
do_instead-requires-clause-is c =
    let there = ap (λ (m : List ℕ). instruction_at (drop c.in-Some.place m)) (sym c.memory.ensures) ∙ sym c.in-Ok.ensures.exact in
    stands_there c.args.state.now.place c.args.state.now.memory c.in-Some.place c.in-Ok.instruction c.in-Some.ensures there

pub do_instead-requires-clause-near : goal.do_instead-requires-clause-near
do_instead-requires-clause-near c = ends_within 131072 c.in-Ok.instruction.size c.in-Some.place c.args.state.now.place (length c.memory.result.now) c.in-Some.ensures c.in-Ok.ensures.within (rw (c.memory.ensures, c.requires.1.memory) c.memory-memory.ensures.sound.greatest_length)

pub returns-in-Ok-clause-done : goal.returns-in-Ok-clause-done
returns-in-Ok-clause-done c =
    let there = ap (λ (m : List ℕ). instruction_at (drop c.in-Some.place m)) (sym c.memory.ensures) ∙ sym c.in-Ok.ensures.exact in
    λ m own listed. c.do_instead.ensures.done m c.in-Ok.instruction own (fetched_listed m.scope c.args.state.now.place c.args.state.now.memory c.in-Some.place c.in-Ok.instruction c.in-Some.ensures listed there)

pub returns-in-Ok-clause-front : goal.returns-in-Ok-clause-front
returns-in-Ok-clause-front c =
    let there = ap (λ (m : List ℕ). instruction_at (drop c.in-Some.place m)) (sym c.memory.ensures) ∙ sym c.in-Ok.ensures.exact in
    always c.do_instead.result (c.args.front.now ≡ front_at c.args.story.now c.args.state.now c.args.state.now.place c.args.front.now) (sym (front_stays c.args.story.now c.args.state.now c.args.front.now c.in-Some.place c.in-Ok.instruction c.in-Some.ensures there))

pub returns-in_default-clause-done : goal.returns-in_default-clause-done
returns-in_default-clause-done c = λ m own listed. absurd (unlisted m.scope c.args.state.now.place c.in_default.ensures listed)

pub returns-in_default-cause-clause-done : goal.returns-in_default-cause-clause-done
returns-in_default-cause-clause-done c =
    let there = ap (λ (m : List ℕ). instruction_at (drop c.in-Some.place m)) (sym c.memory.ensures) ∙ sym c.in-Err.ensures.exact in
    λ m own listed. (unspelled m c.args.fault c.args.state.now c.in-Some.place c.in-Some.ensures listed c.in-Err.cause c.in_default-cause.not-NotInProfile there, refl)

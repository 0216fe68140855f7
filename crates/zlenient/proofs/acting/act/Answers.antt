use Rattle.std.proofs.Common.{◌∙◌}
use Rattle.zlenient.proofs.Acted.{acted_is, place_stored, reached_stored, size_stored, way_stored}
use Rattle.zlenient.proofs.acting.act.Goals as goal

pub go-requires-clause-memory : goal.go-requires-clause-memory
go-requires-clause-memory c = size_stored c.args.story.now c.args.gives _ c.args.before c.args.state.now _ c.in_ok-give.ensures.ok ∙ c.requires.memory

pub go-requires-clause-reached : goal.go-requires-clause-reached
go-requires-clause-reached c = rw (reached_stored c.args.story.now c.args.gives _ c.args.before c.args.state.now _ c.in_ok-give.ensures.ok) c.requires.reached

pub go-requires-clause-near : goal.go-requires-clause-near
go-requires-clause-near c = rw (place_stored c.args.story.now c.args.gives _ c.args.before c.args.state.now _ c.in_ok-give.ensures.ok, c.length.ensures.value) c.requires.near

pub go-requires-clause-way : goal.go-requires-clause-way
go-requires-clause-way c = way_stored c.args.story.now c.args.gives _ c.args.before c.args.to c.args.state.now _ c.in_ok-give.ensures.ok c.requires.way

pub returns-clause-ok : goal.returns-clause-ok
returns-clause-ok c = acted_is c.args.story.now c.args.instruction.now c.args.gives c.args.tests c.args.to _ c.args.before c.args.state.now _ _ c.length.result c.requires.course c.target.ensures c.in_ok-give.ensures.ok c.length.ensures.value (c.go.ensures _)

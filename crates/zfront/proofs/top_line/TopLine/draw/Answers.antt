use Rattle.zfront.proofs.Tops.{draws, draws_short, err_map, ok_map}
use Rattle.zfront.proofs.top_line.TopLine.draw.Goals as goal

pub returns-in-Some-clause-ok : goal.returns-in-Some-clause-ok
returns-in-Some-clause-ok g c = ok_map c.draw.result (λ grown. draws _ _ c.in-Some.title.name c.in-Some.title.right _ grown) c.draw.ensures.ok

pub returns-in-Some-clause-err : goal.returns-in-Some-clause-err
returns-in-Some-clause-err g c = err_map c.draw.result (λ begun. draws_short _ _ c.in-Some.title.name c.in-Some.title.right _ begun) c.draw.ensures.err

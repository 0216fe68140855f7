use Rattle.zperform.proofs.excusing.play_noting.Goals as goal

pub returns-clause-comes : goal.returns-clause-comes
returns-clause-comes g c =
    let came = c.play_saving-played.ensures.comes in
    λ known holds. (c.play_saving-played.new.lenience.notes, came.0, came.1 known holds, (_, came.2, c.say_noted.ensures))

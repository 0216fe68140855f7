use Rattle.std.proofs.Common.{◌≡◌, ◌++◌, None, rules}
use Rattle.zcert.proofs.Follows.{refusal_stays, stream_refused, stream_came}
use Rattle.zcert.proofs.Pieces.{awaits_unless, awaiting_cut, piece_came, piece_open}
use Rattle.zcert.proofs.stream.CertStream.feed.Goals as goal

pub returns-in-Some-clause-refused : goal.returns-in-Some-clause-refused
returns-in-Some-clause-refused g c = λ fed come. refusal_stays g.V.Spelled.format fed c.args.piece.now c.in-Some.error (stream_refused g.V.Spelled.format c.args.self.now c.in-Some.error fed (search rules) come)

pub returns-clause-fed : goal.returns-clause-fed
returns-clause-fed g c =
    let format = g.V.Spelled.format in
    let law = g.met.V.Spelled.is_format in
    let taken = c.take-taken.result in
    let cut = awaiting_cut format law g.V.Spelled.turns g.met.V.Spelled.are_turns taken _ _ _ _ c.take-taken.ensures.awaiting in
    let none : c.self.inside.refused ≡ None = search rules in
    rw (← c.self.view_is) (λ fed come. rw c.err-self-inside.ensures.value (piece_came format law taken _ _ _ _ fed _ _ c.args.piece.now c.take-taken.ensures.led cut c.take-taken.ensures.refused (stream_came format _ fed none come).0))

pub invariant_of-self : goal.invariant_of-self
invariant_of-self g c =
    let format = g.V.Spelled.format in
    let law = g.met.V.Spelled.is_format in
    let taken = c.take-taken.result in
    let cut = awaiting_cut format law g.V.Spelled.turns g.met.V.Spelled.are_turns taken _ _ _ _ c.take-taken.ensures.awaiting in
    let fed = c.self.invariant.0.0 in
    let none : c.self.inside.refused ≡ None = search rules in
    let came = stream_came format _ fed none c.self.invariant.0.1 in
    rw c.err-self-inside.ensures.value (
      (fed ++ c.args.piece.now, piece_came format law taken _ _ _ _ fed _ _ c.args.piece.now c.take-taken.ensures.led cut c.take-taken.ensures.refused came.0),
      awaits_unless taken c.take-taken.ensures.awaiting,
    )

pub returns-clause-open : goal.returns-clause-open
returns-clause-open g c =
    let format = g.V.Spelled.format in
    let law = g.met.V.Spelled.is_format in
    let cut = awaiting_cut format law g.V.Spelled.turns g.met.V.Spelled.are_turns c.take-taken.result _ _ _ _ c.take-taken.ensures.awaiting in
    rw (← c.self.view_is) (piece_open format law c.take-taken.result _ _ _ _ c.args.piece.now (search rules) c.take-taken.ensures.led cut)

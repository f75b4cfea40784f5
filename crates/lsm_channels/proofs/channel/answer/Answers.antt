use Rattle.std.proofs.Common.{ℕ, List, sym, true≢false}
use Rattle.lsm_frames.specs.Views.{asked_of}
use Rattle.lsm_channels.specs.Answering.{IsAnswered}
use Rattle.lsm_channels.specs.Keeping.{IsKnown}
use Rattle.lsm_channels.specs.Serving.{Answers}
use Rattle.lsm_channels.proofs.TurnLaws.{both_err, both_ok, called, turn_said}
use Rattle.lsm_channels.proofs.channel.answer.Goals as goal

pub perform-session-requires-clause-asked : goal.perform-session-requires-clause-asked
perform-session-requires-clause-asked g c κs within = c.requires.asked c.args.content.now (asked_of c.in-Ok.request) c.requires.given c.in-Ok.ensures.found

pub returns-in-Ok-clause-turn : goal.returns-in-Ok-clause-turn
returns-in-Ok-clause-turn g c = λ was came.
    let keeps = g.K.Invariant.keeps in
    let answers = Answers g.S.Shelf.honest (g.S.Shelf.refuses g.N.Naming.place) keeps in
    let asked = asked_of c.in-Ok.request in
    let is_answered : List ℕ → Type 0 = IsAnswered g.S.Shelf.honest (g.S.Shelf.refuses g.N.Naming.place) keeps asked c.args.session c.perform-session.result.0 in
    let known = c.perform-session.ensures.kept c.requires.known in
    turn_said answers (λ v. v.items) asked c.perform-session.result.1 c.say.result c.args.session c.perform-session.result.0 c.args.content.now was _ _ c.in-Ok.ensures.found
    (both_ok (λ v. is_answered v.items) (IsKnown keeps c.perform-session.result.0.known) c.perform-session.result.1 c.perform-session.ensures.answered known)
    (both_err is_answered (IsKnown keeps c.perform-session.result.0.known) c.perform-session.result.1 c.perform-session.ensures.unanswered known) came c.say.ensures.said

pub returns-in-Err-clause-turn : goal.returns-in-Err-clause-turn
returns-in-Err-clause-turn g c = λ was came.
    called (Answers g.S.Shelf.honest (g.S.Shelf.refuses g.N.Naming.place) g.K.Invariant.keeps) c.args.session was _ _ c.args.content.now
    (λ asked request. true≢false (sym (c.in-Err.ensures.only asked request).0)) came c.call_no_request.ensures.said

use Rattle.std.proofs.Common.{ℕ, List, OnErr, refl, subst}
use Rattle.lsm_frames.specs.Requests.{Statistics}
use Rattle.lsm_channels.specs.Answering.{AnswersStatistics, IsAnswered}
use Rattle.lsm_channels.specs.Served.{Served}
use Rattle.lsm_channels.proofs.SessionLaws.{unsaid_as}
use Rattle.lsm_channels.proofs.session.Session.tell.Goals as goal

pub returns-clause-unanswered : goal.returns-clause-unanswered
returns-clause-unanswered g c =
    let before : Served = record { reader = c.self.inside.reader; shelf = c.self.inside.shelf; known = c.self.inside.memory; taken = c.self.inside.taken.items } in
    let after : Served = record { reader = c.self.inside.reader; shelf = c.self.inside.shelf; known = c.answer_statistics.new.memory; taken = c.self.inside.taken.items } in
    subst (λ (x : Served). OnErr c.answer_statistics.result ((frame : List ℕ) × IsAnswered g.S.Shelf.honest (g.S.Shelf.refuses g.N.Naming.place) g.K.Invariant.keeps Statistics x after frame))
    c.self.view_is
    (unsaid_as (λ (frame : List ℕ). AnswersStatistics g.K.Invariant.keeps c.self.inside.memory c.answer_statistics.new.memory frame)
    (λ (frame : List ℕ). IsAnswered g.S.Shelf.honest (g.S.Shelf.refuses g.N.Naming.place) g.K.Invariant.keeps Statistics before after frame) c.answer_statistics.result
    (λ frame said. ((refl, refl), refl, said)) c.answer_statistics.ensures.unanswered)

use Rattle.std.proofs.Common.{ℕ, List, refl, subst}
use Rattle.lsm_frames.specs.Answers.{Removed}
use Rattle.lsm_frames.specs.Requests.{Collects}
use Rattle.lsm_channels.specs.Answering.{IsAnswered}
use Rattle.lsm_channels.specs.Served.{Served}
use Rattle.lsm_channels.proofs.SessionLaws.{says_some, unsaid}
use Rattle.lsm_channels.proofs.session.Session.collect.Goals as goal

pub returns-in_err-answer-clause-unanswered : goal.returns-in_err-answer-clause-unanswered
returns-in_err-answer-clause-unanswered g c =
    let said = says_some (λ (n : ℕ). Removed n) c.collect-done.result in
    let after : Served = record { reader = c.self.inside.reader; shelf = c.collect-done.new.shelf; known = c.collect-done.new.memory; taken = c.self.inside.taken.items } in
    unsaid c.from_residual.result
    (subst (λ (x : Served). (frame : List ℕ) × IsAnswered g.S.Shelf.honest (g.S.Shelf.refuses g.N.Naming.place) g.K.Invariant.keeps Collects x after frame) c.self.view_is
    (said.0, (refl, refl, (c.collect-done.result, c.collect-done.ensures.ok, c.collect-done.ensures.refused, said.1))))

pub returns-clause-answered : goal.returns-clause-answered
returns-clause-answered g c =
    let after : Served = record { reader = c.self.inside.reader; shelf = c.collect-done.new.shelf; known = c.collect-done.new.memory; taken = c.self.inside.taken.items } in
    subst (λ (x : Served). IsAnswered g.S.Shelf.honest (g.S.Shelf.refuses g.N.Naming.place) g.K.Invariant.keeps Collects x after c.in_ok-answer.answer.items) c.self.view_is
    (refl, refl, (c.collect-done.result, c.collect-done.ensures.ok, c.collect-done.ensures.refused, c.in_ok-answer.ensures))

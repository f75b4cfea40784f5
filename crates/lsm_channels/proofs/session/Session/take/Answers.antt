use Rattle.std.proofs.Common.{ℕ, List, refl, subst}
use Rattle.lsm_frames.specs.Answers.{Pinned}
use Rattle.lsm_frames.specs.Requests.{Snapshots}
use Rattle.lsm_channels.specs.Answering.{IsAnswered}
use Rattle.lsm_channels.specs.Served.{Served}
use Rattle.lsm_channels.proofs.SessionLaws.{says_some, unsaid}
use Rattle.lsm_channels.proofs.session.Session.take.Goals as goal

pub returns-in_err-answer-clause-unanswered : goal.returns-in_err-answer-clause-unanswered
returns-in_err-answer-clause-unanswered g c =
    let said = says_some (λ (r : ℕ × ℕ). Pinned r.0 r.1) c.take-done.result in
    let after : Served = record { reader = c.self.inside.reader; shelf = c.self.inside.shelf; known = c.take-done.new.memory; taken = c.take-done.new.taken.items } in
    unsaid c.from_residual.result
    (subst (λ (x : Served). (frame : List ℕ) × IsAnswered g.S.Shelf.honest (g.S.Shelf.refuses g.N.Naming.place) g.K.Invariant.keeps Snapshots x after frame) c.self.view_is
    (said.0, ((refl, refl), (c.take-done.result, c.take-done.ensures.ok, c.take-done.ensures.refused, said.1))))

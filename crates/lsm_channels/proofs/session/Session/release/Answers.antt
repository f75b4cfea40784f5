use Rattle.std.proofs.Common.{ℕ, List, refl, subst}
use Rattle.lsm_frames.specs.Answers.{Nothing}
use Rattle.lsm_frames.specs.Requests.{Releases}
use Rattle.lsm_channels.specs.Answering.{IsAnswered}
use Rattle.lsm_channels.specs.Served.{Served}
use Rattle.lsm_channels.proofs.SessionLaws.{says_some, unsaid}
use Rattle.lsm_channels.proofs.session.Session.release.Goals as goal

pub returns-in_err-answer-clause-unanswered : goal.returns-in_err-answer-clause-unanswered
returns-in_err-answer-clause-unanswered g c =
    let said = says_some (λ (r : Unit {0}). Nothing) c.release-done.result in
    let after : Served = record { reader = c.self.inside.reader; shelf = c.self.inside.shelf; known = c.release-done.new.memory; taken = c.release-done.new.taken.items } in
    unsaid c.from_residual.result
    (subst (λ (x : Served). (frame : List ℕ) × IsAnswered g.S.Shelf.honest (g.S.Shelf.refuses g.N.Naming.place) g.K.Invariant.keeps (Releases c.args.number) x after frame) c.self.view_is
    (said.0, ((refl, refl), (c.release-done.result, c.release-done.ensures.ok, c.release-done.ensures.refused, said.1))))

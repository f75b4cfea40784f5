use Rattle.std.proofs.Common.{ℕ, List, refl, subst}
use Rattle.lsm_frames.specs.Requests.{CompactsRange}
use Rattle.lsm_frames.specs.Views.{between_of}
use Rattle.lsm_channels.specs.Answering.{IsAnswered}
use Rattle.lsm_channels.specs.Served.{Served}
use Rattle.lsm_channels.proofs.SessionLaws.{says_some_work, unsaid}
use Rattle.lsm_channels.proofs.session.Session.compact_range.Goals as goal

pub returns-in_err-answer-clause-unanswered : goal.returns-in_err-answer-clause-unanswered
returns-in_err-answer-clause-unanswered g c =
    let said = says_some_work c.compact_range-done.result in
    let after : Served = record { reader = c.self.inside.reader; shelf = c.compact_range-done.new.shelf; known = c.compact_range-done.new.memory; taken = c.self.inside.taken.items } in
    unsaid c.from_residual.result
    (subst (λ (x : Served). (frame : List ℕ) × IsAnswered g.S.Shelf.honest (g.S.Shelf.refuses g.N.Naming.place) g.K.Invariant.keeps (CompactsRange (between_of c.args.bounds)) x after frame) c.self.view_is
    (said.0, (refl, refl, (c.compact_range-done.result, c.compact_range-done.ensures.compacted, c.compact_range-done.ensures.refused, c.compact_range-done.ensures.stopped, said.1))))

pub returns-clause-answered : goal.returns-clause-answered
returns-clause-answered g c =
    let after : Served = record { reader = c.self.inside.reader; shelf = c.compact_range-done.new.shelf; known = c.compact_range-done.new.memory; taken = c.self.inside.taken.items } in
    subst (λ (x : Served). IsAnswered g.S.Shelf.honest (g.S.Shelf.refuses g.N.Naming.place) g.K.Invariant.keeps (CompactsRange (between_of c.args.bounds)) x after c.in_ok-answer.answer.items) c.self.view_is
    (refl, refl, (c.compact_range-done.result, c.compact_range-done.ensures.compacted, c.compact_range-done.ensures.refused, c.compact_range-done.ensures.stopped, c.in_ok-answer.ensures))

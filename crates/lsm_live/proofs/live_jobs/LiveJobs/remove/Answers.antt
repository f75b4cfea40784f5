use Rattle.std.proofs.Common.{◌≡◌, List, sym, ◌∙◌, ap, subst, rules}
use Rattle.std.proofs.lemmas.Fn.{filter_same}
use Rattle.lsm_live.specs.Booked.{AreIncreasing, Booked, tickets_of, without}
use Rattle.lsm_live.proofs.Tickets.{without_rise}
use Rattle.lsm_live.proofs.live_jobs.LiveJobs.remove.Goals as goal

pub invariant_of-self : goal.invariant_of-self
invariant_of-self g c =
    let left : c.retain.new.self.items ≡ without c.args.ticket c.self.inside.jobs.items = filter_same _ _ _ (λ x b f' k. search rules) _ _ c.retain.ensures.filtered in
    subst (λ (l : List Booked). AreIncreasing (tickets_of l)) (sym left) (without_rise c.args.ticket c.self.inside.jobs.items c.self.invariant)

pub returns-clause-rest : goal.returns-clause-rest
returns-clause-rest g c =
    let left : c.retain.new.self.items ≡ without c.args.ticket c.self.inside.jobs.items = filter_same _ _ _ (λ x b f' k. search rules) _ _ c.retain.ensures.filtered in
    left ∙ ap (without c.args.ticket) c.self.view_is

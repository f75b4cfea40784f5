use Rattle.std.proofs.Common.{◌<◌, List, [], ◌∷◌, ◌++◌, sym, ◌∙◌, ap, subst}
use Rattle.lsm_codec.specs.Lists.{Has}
use Rattle.lsm_live.specs.Booked.{AreIncreasing, Booked, tickets_of}
use Rattle.lsm_live.proofs.Tickets.{added_rise}
use Rattle.lsm_live.proofs.live_jobs.LiveJobs.add.Goals as goal

pub invariant_of-self-2 : goal.invariant_of-self-2
invariant_of-self-2 g c =
    let live : List Booked = c.self.inside.jobs.items in
    subst (λ (l : List Booked). AreIncreasing (tickets_of l)) (sym (c.in_ok-push.ensures.items ∙ ap (λ (x : Booked). live ++ x ∷ []) c.new.ensures))
    (added_rise live c.args.job c.self.invariant (subst (λ (l : List Booked). (b : Booked) → Has l b → b.work.ticket < c.args.job.ticket) (sym c.self.view_is) c.requires.newest))

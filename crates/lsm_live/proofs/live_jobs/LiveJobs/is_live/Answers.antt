use Rattle.std.proofs.Common.{◌≡◌, List, true, Bool, sym, ◌∙◌, subst}
use Rattle.std.specs.Prelude.{◌↔◌}
use Rattle.lsm_live.specs.Booked.{Booked, HasTicket}
use Rattle.lsm_live.proofs.Indices.{index_live}
use Rattle.lsm_live.proofs.live_jobs.LiveJobs.is_live.Goals as goal

pub returns : goal.returns
returns g c =
    subst (λ (l : List Booked). (c.is_some.result ≡ true) ↔ HasTicket l c.args.ticket) (c.as_slice.ensures.value ∙ c.self.view_is)
    (subst (λ (b : Bool). (b ≡ true) ↔ HasTicket c.as_slice.result.now c.args.ticket) (sym c.is_some.ensures) (index_live c.as_slice.result.now c.args.ticket c.index_of.result c.index_of.ensures))

use Rattle.std.proofs.Common.{subst}
use Rattle.lsm_live.specs.Booked.{HasTicket}
use Rattle.lsm_state.specs.Held.{Held}
use Rattle.lsm_store.proofs.WorkerLaws.{without_gone}
use Rattle.lsm_store.proofs.worker.withdraw.Goals as goal

pub returns-in-Ok-clause-gone : goal.returns-in-Ok-clause-gone
returns-in-Ok-clause-gone g c h = without_gone c.args.ticket c.args.state.now.live (subst (λ (s : Held). HasTicket s.live c.args.ticket) c.in-Ok.ensures.ok.1 h)

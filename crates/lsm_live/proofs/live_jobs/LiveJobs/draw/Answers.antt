use Rattle.std.proofs.Common.{◌≡◌, ℕ, ◌<◌, List, length, get_or, set, sym, ◌∙◌, ap, subst}
use Rattle.lsm_codec.specs.Lists.{Has}
use Rattle.lsm_live.specs.Booked.{AreIncreasing, Booked, HasTicket, booked}
use Rattle.lsm_live.proofs.Indices.{on_ok, set_tickets, ticket_after, ticket_at}
use Rattle.lsm_live.proofs.Tickets.{booked_at, booked_none}
use Rattle.lsm_live.proofs.live_jobs.LiveJobs.draw.Goals as goal

pub returns-in_default-clause-ok : goal.returns-in_default-clause-ok
returns-in_default-clause-ok g c =
    booked_none c.args.ticket c.args.number c.args.self.now (λ b h. c.in_default.ensures b (subst (λ (l : List Booked). Has l b) (sym (c.as_slice.ensures.value ∙ c.self.view_is)) h))

pub invariant_of-self : goal.invariant_of-self
invariant_of-self g c =
    let old : Booked = c.index_mut.result.now in
    let new : Booked = c.draw.new.self in
    subst AreIncreasing (sym (set_tickets c.self.inside.jobs.items c.in-Some.i old new c.index_mut.ensures.value (ticket_after c.args.number old new c.draw.result c.draw.ensures.ok c.draw.ensures.err))) c.self.invariant

pub returns-clause-ok : goal.returns-clause-ok
returns-clause-ok g c =
    let live : List Booked = c.self.inside.jobs.items in
    let i : ℕ = c.in-Some.i in
    let old : Booked = c.index_mut.result.now in
    let lt : i < length live = subst (λ (l : List Booked). i < length l) c.as_slice.ensures.value c.in-Some.ensures.0 in
    let its : old.work.ticket ≡ c.args.ticket =
    ap (λ (b : Booked). b.work.ticket) (c.index_mut.ensures.value ∙ ap (λ (l : List Booked). get_or l i old) (sym c.as_slice.ensures.value)) ∙ c.in-Some.ensures.1 old in
    on_ok c.draw.result (λ e. ap (λ (b : Booked). set live i b) e ∙ (booked_at live c.args.ticket c.args.number i old c.self.invariant lt c.index_mut.ensures.value its ∙ ap (booked c.args.ticket c.args.number) c.self.view_is)) c.draw.ensures.ok

pub returns-clause-refused : goal.returns-clause-refused
returns-clause-refused g c e =
    subst (λ (l : List Booked). HasTicket l c.args.ticket) (c.as_slice.ensures.value ∙ c.self.view_is)
    (ticket_at c.as_slice.result.now c.args.ticket c.in-Some.i c.in-Some.ensures.0 c.in-Some.ensures.1)

use Rattle.std.proofs.Common.{◌≡◌, ◌≤◌, ℕ, sym, subst, ap, ◌∙◌}
use Rattle.lsm_pins.specs.View.{pinned_view, unpinned_view}
use Rattle.lsm_store.specs.Readers.{HasSeen, KnownVersion, Learnt}
use Rattle.lsm_store.proofs.ReaderLaws.{begun_at, moved_at}
use Rattle.lsm_store.proofs.reader.Reader.begin.Goals as goal

-- src/reader.rt:73:21
pub returns-then-id-cache-clause-begun : goal.returns-then-id-cache-clause-begun
returns-then-id-cache-clause-begun g c =
    let is = c.self.view_is in
    let slot = c.in-Ok.slot in
    let id : c.in-Ok.id ≡ c.args.self.id = c.if-id-cache.true ∙ ap (λ (d : KnownVersion). d.id) c.cache.view_is ∙ ap (λ (r : Learnt). r.id) is in
    begun_at c.args.self _ slot (ap (λ (r : Learnt). r.id) is) (ap (λ (r : Learnt). r.version) is) (ap (λ (r : Learnt). r.told) is) (ap (λ (r : Learnt). r.history) is) (ap (λ (r : Learnt). r.snapshots) is)
    (c.in-Ok.ensures.board ∙ ap (λ (r : Learnt). r.pinner.board) is)
    (c.in-Ok.ensures.pinned ∙ ap (λ (r : Learnt). pinned_view r.pinner.knows c.in-Ok.id slot) is ∙ ap (λ (i : ℕ). pinned_view c.args.self.pinner.knows i slot) id)

-- src/reader.rt:63:5
pub returns-else-id-cache-clause-refused : goal.returns-else-id-cache-clause-refused
returns-else-id-cache-clause-refused g c =
    let is = c.self.view_is in
    let slot = c.in-Ok.slot in
    let id : c.cache.inside.id ≡ c.args.self.id = ap (λ (d : KnownVersion). d.id) c.cache.view_is ∙ ap (λ (r : Learnt). r.id) is in
    let seen : HasSeen c.args.self = subst HasSeen is c.self.invariant.2 in
    let later : c.args.self.pinner.knows.id ≤ c.in-Ok.id = subst (λ (r : Learnt). r.pinner.knows.id ≤ c.in-Ok.id) is c.in-Ok.ensures.later.0 in
    moved_at c.args.self _ c.in-Ok.id slot (λ e. c.if-id-cache.false (e ∙ sym id)) seen later
    (ap (λ (r : Learnt). r.id) is) (ap (λ (r : Learnt). r.version) is) (ap (λ (r : Learnt). r.told) is) (ap (λ (r : Learnt). r.history) is) (ap (λ (r : Learnt). r.snapshots) is)
    (c.unpin.ensures.board ∙ c.in-Ok.ensures.board ∙ ap (λ (r : Learnt). r.pinner.board) is)
    (c.unpin.ensures.unpinned ∙ ap unpinned_view (c.in-Ok.ensures.pinned ∙ ap (λ (r : Learnt). pinned_view r.pinner.knows c.in-Ok.id slot) is))

use Rattle.std.proofs.Common.{◌∙◌, ap, refl, sym, subst}
use Rattle.lsm_codec.specs.Lists.{Has}
use Rattle.lsm_slots.specs.Snapshots.{AreSnapshots, Taken}
use Rattle.lsm_slots.proofs.SnapshotLaws.{snapshots_less}
use Rattle.lsm_slots.proofs.snapshots.Snapshots.release.Goals as goal

pub invariant_of-self : goal.invariant_of-self
invariant_of-self c =
    let old : Taken = record { taken = c.self.inside.taken.items; next = c.self.inside.next } in
    subst (λ ts. AreSnapshots record { taken = ts; next = c.self.inside.next }) (sym c.take_out.ensures) (snapshots_less old c.args.id c.self.invariant)

pub returns-clause-live : goal.returns-clause-live
returns-clause-live c = (λ live. ((c.args.id, c.in-Some.field-0), subst (λ ps. Has ps (c.args.id, c.in-Some.field-0)) (c.as_slice.ensures.value ∙ ap (λ (t : Taken). t.taken) c.self.view_is) c.in-Some.ensures.some, refl), λ has. refl)

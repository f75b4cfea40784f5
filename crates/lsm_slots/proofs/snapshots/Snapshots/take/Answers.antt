use Rattle.std.proofs.Common.{◌≡◌, ℕ, suc, ◌+◌, ◌≤◌, sym, subst, arith}
use Rattle.lsm_codec.specs.Lists.{Has}
use Rattle.lsm_slots.specs.Snapshots.{AreSnapshots, Taken}
use Rattle.lsm_slots.proofs.SnapshotLaws.{snapshots_more}
use Rattle.lsm_slots.proofs.snapshots.Snapshots.take.Goals as goal

pub invariant_of-self-2 : goal.invariant_of-self-2
invariant_of-self-2 c =
    let old : Taken = record { taken = c.self.inside.taken.items; next = c.self.inside.next } in
    let last : (p : ℕ × ℕ) → Has old.taken p → p.1 ≤ c.args.seq = subst (λ (t : Taken). (p : ℕ × ℕ) → Has t.taken p → p.1 ≤ c.args.seq) (sym c.self.view_is) c.requires.last in
    let more : suc old.next ≡ c.self.inside.next + 1 = omega arith in
    subst (λ n. AreSnapshots record { taken = c.push.new.self.items; next = n }) more
    (subst (λ ts. AreSnapshots record { taken = ts; next = suc old.next }) (sym c.in_ok-push.ensures.items) (snapshots_more old c.args.seq c.self.invariant last))

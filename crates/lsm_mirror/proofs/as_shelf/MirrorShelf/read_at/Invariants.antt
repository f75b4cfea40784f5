use Rattle.std.proofs.Common.{◌≡◌, take, drop}
use Rattle.std.specs.Prelude.{◌⊎◌, IfSome, IfOk, IfErr}
use Rattle.lsm_shelf.specs.declared.shelf_fault.ShelfFault.TheVariants.{OutOfMemory, Device}
use Rattle.lsm_mirror.specs.Shown.{plain_image}
use Rattle.lsm_mirror.proofs.as_shelf.MirrorShelf.read_at.Given as goal

abbrev pub invariant-loop-table : goal.invariant-loop-table
invariant-loop-table g l = IfSome l.held (λ part.
    (g.S.Shelf.honest → IfOk part (λ v. v.items ≡ take l.len (drop l.offset
    (plain_image (g.S.Receipt.TableReceipt.image l.packed)))))
    × IfErr part (λ e. (e ≡ OutOfMemory) ⊎ ((e ≡ Device) × (g.S.Shelf.honest → ⊥))))

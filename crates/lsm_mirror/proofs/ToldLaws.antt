-- Refusals that a mirror counts.
use Rattle.std.proofs.Common.{◌≡◌, subst, sym, inl, inr, arith}
use Rattle.std.specs.Prelude.{◌⊎◌, Result, Ok, Err, IfErr}
use Rattle.lsm_shelf.specs.Told.{Counted, CountedBy, NotTaken, Told}
use Rattle.lsm_shelf.specs.declared.shelf_fault.ShelfFault.{ShelfFault}
use Rattle.lsm_shelf.specs.declared.shelf_fault.ShelfFault.TheVariants as why
use Rattle.lsm_mirror.specs.Counts.{with_counts}
use Rattle.lsm_mirror.specs.Shown.{Shown, shown_told}
use Rattle.lsm_mirror.specs.declared.counts.Counts.{Counts}

-- a refusal that is counted comes with a count that rose
pub cause_of : {T : Type 0} (Kind : ShelfFault → Type 0) (result : Result T ShelfFault)
    (old new : Told) → IfErr result Kind → CountedBy result old new
    → IfErr result (λ e. Kind e × Counted e old new)
cause_of Kind (Ok v) old new kind counts = tt
cause_of Kind (Err why.OutOfMemory) old new kind counts = (kind, tt)
cause_of Kind (Err why.Device) old new kind counts = (kind, (let x = counts.0 in omega (arith, x)))
cause_of Kind (Err why.Missing) old new kind counts = (kind, (let x = counts.1 in omega (arith, x)))
cause_of Kind (Err (why.Taken n)) old new kind counts =
    (kind, (let x = counts.1 in omega (arith, x)))

-- memory, or the device
pub kind_of : (P : Type 0) (fault : ShelfFault)
    → (fault ≡ why.OutOfMemory) ⊎ ((fault ≡ why.Device) × P) → NotTaken fault
kind_of P fault (inl memory) = subst NotTaken (sym memory) tt
kind_of P fault (inr (device, p)) = subst NotTaken (sym device) tt

-- what a mirror was told, whose counts were `first` when it was asked, and then `c`
module _ (shown : Shown) (first c d : Counts) (old new now : Told)
    (view : with_counts first (shown_told shown old) ≡ now) (same : c ≡ first) where
  pub counted : {T : Type 0} (result : Result T ShelfFault)
      → ((was is : Told) → CountedBy result (with_counts c was) (with_counts d is))
      → CountedBy result now (with_counts d (shown_told shown new))
  counted result counts =
      subst (λ t. CountedBy result t (with_counts d (shown_told shown new))) view
      (subst (λ k. CountedBy result (with_counts k (shown_told shown old))
      (with_counts d (shown_told shown new))) same
      (counts (shown_told shown old) (shown_told shown new)))

  pub caused : {T : Type 0} (Kind : ShelfFault → Type 0) (result : Result T ShelfFault)
      → IfErr result Kind
      → ((was is : Told) → CountedBy result (with_counts c was) (with_counts d is))
      → IfErr result (λ e. Kind e × Counted e now (with_counts d (shown_told shown new)))
  caused Kind result kind counts = cause_of Kind result now (with_counts d (shown_told shown new))
      kind (counted result counts)

-- The receipts of a mirror (this project's rule).
use Rattle.std.specs.Prelude.{◌≡◌, true, false, ℕ, List, Some}
use Rattle.lsm_shelf.specs.declared.table_receipt.TableReceipt.{Ghosts}
use Rattle.lsm_shelf.specs.Stored.{Stored}
use Rattle.lsm_mirror.specs.Shown.{IsBeside, IsMadePlain, Shown, plain_image}
use Rattle.lsm_mirror.specs.declared.mirror_receipt.MirrorReceipt.{MirrorReceipt}
use Rattle.lsm_mirror.specs.declared.mirror_receipt.MirrorReceipt.TheVariants.{Direct, Plain, Made}

module _ {C : Type 0} (receipts : Ghosts C) where
  abbrev pub number_of : MirrorReceipt C receipts → ℕ
  number_of (Direct r) = receipts.number r
  number_of (Plain r) = receipts.number r.receipt
  number_of (Made m) = m.number

  abbrev pub image_of : MirrorReceipt C receipts → List ℕ
  image_of (Direct r) = receipts.image r
  image_of (Plain r) = plain_image (receipts.image r.receipt)
  image_of (Made m) = m.image.numbers

module _ {C : Type 0} (receipts : Ghosts C) (Here : C → Type 0) (shown : Shown) where
  -- The receipt is of what is shown of contents whose receipts are `Here`.
  abbrev pub IsMirrored : MirrorReceipt C receipts → Type 0
  IsMirrored (Direct r) =
      Here r × IsBeside shown.made (receipts.number r) × (shown.inflates ≡ false)
  IsMirrored (Plain r) =
      Here r.receipt × IsBeside shown.made (receipts.number r.receipt)
      × (shown.inflates ≡ true) × IsMadePlain (receipts.image r.receipt)
  IsMirrored (Made m) = shown.made ≡ Some (m.number, m.image.numbers)

  -- which images it stores under which numbers
  abbrev pub MirrorStored : ℕ → List ℕ → Type 0
  MirrorStored = Stored (MirrorReceipt C receipts) IsMirrored (number_of receipts)
      (image_of receipts)

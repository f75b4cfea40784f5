use Rattle.std.proofs.Common.{refl, ap}
use Rattle.lsm_mirror.proofs.ReceiptLaws.{same_plain}
use Rattle.lsm_mirror.specs.declared.mirror_receipt.MirrorReceipt.TheVariants.{Plain}
use Rattle.lsm_mirror.proofs.as_shelf.MirrorShelf.copy_receipt.Goals as goal

pub returns-in-Plain : goal.returns-in-Plain
returns-in-Plain g c = rw c.in-Plain.is
    (ap Plain (same_plain _ c.in-Plain.plain c.copy_receipt-in-Plain.ensures refl))

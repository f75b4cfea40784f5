use Rattle.std.proofs.Common.{refl}
use Rattle.lsm_storage.proofs.Receipts.{same_receipt}
use Rattle.lsm_storage.proofs.file.file_receipt.FileReceipt.again.Goals as goal

-- the mark is the same
pub returns : goal.returns
returns g c = same_receipt _ c.args.self.now refl refl c.again.ensures

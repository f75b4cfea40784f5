-- When two receipts are one.
use mathlib.Core.HLevel.{is_prop→PathP}
use Rattle.std.proofs.Common.{◌≡◌, ◌≤◌, ◌^◌, length}
use denote.Struct.Props as logic
use Rattle.lsm_shelf.specs.declared.table_receipt.TableReceipt.{Ghosts}
use Rattle.lsm_mirror.specs.Shown.{plain_image}
use Rattle.lsm_mirror.specs.declared.plain_receipt.PlainReceipt.{PlainReceipt}

-- receipts of one receipt below and one size are one receipt
pub same_plain : {C : Type 0} {g : Ghosts C} (p q : PlainReceipt C g)
    → p.receipt ≡ q.receipt → p.size ≡ q.size → p ≡ q
same_plain {C} {g} p q receipt size = λ i. record {
  receipt = receipt i;
  size = size i;
  sized = is_prop→PathP (λ j. size j ≡ length (plain_image (g.image (receipt j))))
      (λ j. Prim.hlevel logic.props) p.sized q.sized i;
  limit = is_prop→PathP (λ j. size j ≤ 2 ^ 30) (λ j. Prim.hlevel logic.props) p.limit q.limit i;
}

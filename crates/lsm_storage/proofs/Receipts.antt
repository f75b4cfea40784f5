-- When two receipts are one.
use mathlib.Core.HLevel.{is_prop→PathP}
use Rattle.std.proofs.Common.{◌≡◌, ◌≤◌, ◌^◌, length}
use denote.Struct.Props as logic
use Rattle.lsm_folder.specs.declared.mark.Mark.{Ghosts}
use Rattle.lsm_storage.specs.FileNames.{table_name}
use Rattle.lsm_storage.specs.declared.file.file_receipt.FileReceipt.{FileReceipt}

-- receipts of one number, one size and one mark are one receipt
pub same_receipt : {M : Type 0} {g : Ghosts M} (p q : FileReceipt M g) → p.number ≡ q.number → p.size ≡ q.size → p.mark ≡ q.mark → p ≡ q
same_receipt {M} {g} p q number size mark = λ i. record {
  number = number i;
  size = size i;
  mark = mark i;
  sized = is_prop→PathP (λ j. size j ≡ length (g.image (mark j))) (λ j. Prim.hlevel logic.props) p.sized q.sized i;
  limit = is_prop→PathP (λ j. size j ≤ 2 ^ 30) (λ j. Prim.hlevel logic.props) p.limit q.limit i;
  named = is_prop→PathP (λ j. g.name (mark j) ≡ table_name (number j)) (λ j. Prim.hlevel logic.props) p.named q.named i;
}

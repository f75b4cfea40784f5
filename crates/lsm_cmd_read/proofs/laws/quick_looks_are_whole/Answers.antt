use Rattle.std.proofs.Common.{◌≡◌, ℕ, List}
use Rattle.lsm_cmd_read.proofs.QuickLaws.{quick_is_whole}
use Rattle.lsm_cmd_read.proofs.laws.quick_looks_are_whole.Goals as goal

pub returns : goal.returns
returns g c = λ place asked shape before after said told.
    let Stored : ℕ → List ℕ → Type 0 = λ number image. (r : g.row.S-Receipt.Denot)
    × g.S.Shelf.is_of place r × (g.S.Receipt.TableReceipt.number r ≡ number)
    × (g.S.Receipt.TableReceipt.image r ≡ image) in
    quick_is_whole asked (g.S.Finding.keeps place) Stored g.S.Shelf.honest shape before after said
    told

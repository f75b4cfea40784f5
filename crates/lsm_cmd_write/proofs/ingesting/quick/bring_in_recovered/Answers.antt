use Rattle.std.proofs.Common.{◌≡◌, ℕ, List}
use Rattle.lsm_cmd_write.proofs.QuickOutcomes.{quick_done, quick_fault}
use Rattle.lsm_cmd_write.proofs.ingesting.quick.bring_in_recovered.Goals as goal

pub returns-clause-done : goal.returns-clause-done
returns-clause-done g c = λ was told.
    let Keeps : ℕ → List ℕ → Type 0 = g.S.Finding.keeps (g.S.Shelf.told c.args.shelf).place in
    quick_done c.bring_in_vouched.result.0 Keeps g.S.Shelf.honest c.args.recovered.shape
    c.args.logs.now c.args.batch.now was _ _ _ (c.bring_in_vouched.ensures.done was told)

pub returns-clause-fault : goal.returns-clause-fault
returns-clause-fault g c = λ was told.
    let Keeps : ℕ → List ℕ → Type 0 = g.S.Finding.keeps (g.S.Shelf.told c.args.shelf).place in
    quick_fault c.bring_in_vouched.result.0 Keeps
    (g.S.Shelf.refuses (g.S.Shelf.told c.args.shelf).place) g.S.Shelf.honest
    c.args.recovered.shape c.args.logs.now c.args.batch.now was _
    (c.bring_in_vouched.ensures.fault was told)

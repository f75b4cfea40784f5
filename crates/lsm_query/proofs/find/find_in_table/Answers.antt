use Rattle.std.proofs.Common.{sym, subst, List, ℕ}
use Rattle.lsm_table.specs.Table.{IsTable}
use Rattle.lsm_table.specs.HeldTable.{entries_in}
use Rattle.lsm_query.proofs.find.find_in_table.Goals as goal

pub returns-clause-found : goal.returns-clause-found
returns-clause-found g c = λ h w.
    let es = entries_in c.args.table.now.image in
    c.get_by.ensures.found h es (subst (λ (bytes : List ℕ). IsTable bytes es) (sym c.record.ensures.image) w.table)

pub returns-clause-sound : goal.returns-clause-sound
returns-clause-sound g c = λ h w.
    let es = entries_in c.args.table.now.image in
    c.get_by.ensures.sound h es (subst (λ (bytes : List ℕ). IsTable bytes es) (sym c.record.ensures.image) w.table)

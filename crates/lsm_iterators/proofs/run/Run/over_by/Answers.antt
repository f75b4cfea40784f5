use Rattle.std.proofs.Common.{rules, ◌≡◌, ◌∷◌, map, ap, ◌∙◌}
use Rattle.lsm_iterators.proofs.RunLaws.{all_of_tables}
use Rattle.lsm_iterators.proofs.run.Run.over_by.Goals as goal

pub open_by-requires-clause-tables : goal.open_by-requires-clause-tables
open_by-requires-clause-tables g c κs within honest =
    let image = g.S.Receipt.TableReceipt.image in
    let parts : c.args.tables.now ≡ c.in-Some.first.now ∷ c.in-Some.rest.now = search rules in
    all_of_tables c.args.tables.now c.in-Some.rest.now c.in-Some.first.now (image c.copy_receipt-first.result) (map image c.in-Ok.later.items) parts
    (ap image c.copy_receipt-first.ensures ∙ c.record.ensures.image) c.in-Ok.ensures.images (c.requires.tables honest)

use Rattle.std.proofs.Common.{List, sym, subst}
use Rattle.std.specs.List.Sorted.{IsSortedBy}
use Rattle.lsm_table.specs.Registry.{Table}
use Rattle.lsm_version.specs.Versions.{stands_before}
use Rattle.lsm_version.proofs.Changing.{kept_sorted}
use Rattle.lsm_version.proofs.change.level_after.Goals as goal

pub insert_all-requires-clause-order : goal.insert_all-requires-clause-order
insert_all-requires-clause-order g c κs within =
    subst (λ (us : List Table). IsSortedBy stands_before us) (sym c.in_ok-after.ensures) (kept_sorted c.args.deleted.now c.args.level.now c.requires.order)

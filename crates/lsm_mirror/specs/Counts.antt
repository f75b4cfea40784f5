-- What a mirror was told, with its own counts (this project's rule).
use Rattle.lsm_shelf.specs.Told.{Told}
use Rattle.lsm_mirror.specs.declared.counts.Counts.{Counts}

abbrev pub with_counts : Counts → Told → Told
with_counts counts t = record t { faults = counts.faults; misses = counts.misses }

use Rattle.lsm_repair.specs.Mending.{shape_of}
use Rattle.lsm_repair.proofs.MendLaws.{fits_shape, is_shape}
use Rattle.lsm_repair.proofs.mending.name_table.Goals as goal

pub manifest_bytes-requires-clause-fit : goal.manifest_bytes-requires-clause-fit
manifest_bytes-requires-clause-fit g c =
    let a = c.args in
    rw (c.in_ok-edit.ensures, c.in_ok-file.ensures.file) (c.whole_edit_replays.ensures.fit
    (shape_of a.number a.image a.logs a.last) (is_shape a.number a.image a.logs a.last)
    (fits_shape a.number a.image a.logs a.last c.requires.table c.in_ok-file.ensures.short.0
    c.in_ok-file.ensures.short.1))

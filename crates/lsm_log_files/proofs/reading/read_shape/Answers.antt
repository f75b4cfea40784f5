use Rattle.lsm_log_files.proofs.reading.read_shape.Goals as goal

pub returns-in-Ok-clause-keys : goal.returns-in-Ok-clause-keys
returns-in-Ok-clause-keys g c =
    let r = c.in-Ok.ensures.recovered in
    c.replayed_shapes.ensures.fit r.edits c.in-Ok.found.shape
    (c.replayed_shapes.ensures.manifest c.in-Ok.found.journal.bytes r.edits c.in-Ok.found.rest
    r.manifest) r.replayed

use Rattle.lsm_cmd_bench.proofs.filling.bring_next.Goals as goal

pub bring_in-requires-clause-asked : goal.bring_in-requires-clause-asked
bring_in-requires-clause-asked g c κs within =
    let made = c.in_ok-batch.ensures in
    c.requires.kept _ (record { ascends = c.args.filling.ascends; place = c.args.first; ws = made.0; are = made.1; last = made.3 })

use Rattle.lsm_channels.proofs.serving.fn.serve_beside.with_workers+FnOnce.call_once.Goals as goal

-- behind what is said of lifetimes: what the closure requires, then what the types' bounds say; a call of it has them the other way round
pub with_workers-requires : goal.with_workers-requires
with_workers-requires g c =
    let r = c.requires.1.1.1.1.1.1 in
    let b = r.1.1.1.1.1 in
    (b.0, (b.1, (b.2, (b.3, (b.4, (b.5, (b.6, (b.7, (b.8, (b.9, (r.0, (r.1.0, (r.1.1.0, (r.1.1.1.0, r.1.1.1.1.0))))))))))))))

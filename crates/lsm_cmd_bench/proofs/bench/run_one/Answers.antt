use Rattle.lsm_cmd_bench.proofs.bench.run_one.Goals as goal

pub fill-requires-clause-kept : goal.fill-requires-clause-kept
fill-requires-clause-kept g c κs within = rw c.ascending-filling.ensures c.requires.kept

pub fill-requires-in-FillRandom-clause-kept : goal.fill-requires-in-FillRandom-clause-kept
fill-requires-in-FillRandom-clause-kept g c κs within = rw c.drawn-filling.ensures c.requires.kept

pub run_both-requires-clause-kept : goal.run_both-requires-clause-kept
run_both-requires-clause-kept g c κs within = rw c.drawn-filling-in-ReadWhileWriting.ensures c.requires.kept

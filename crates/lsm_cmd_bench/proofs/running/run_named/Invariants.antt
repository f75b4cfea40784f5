use Rattle.lsm_bulk_load.specs.Marks.{marked_in}
use Rattle.lsm_cmd_bench.specs.Benched.{HasComeBy}
use Rattle.lsm_cmd_bench.proofs.running.run_named.Given as goal

-- how far the new state was; the lock keeps that the state came from it
abbrev pub ghosts-run_state : goal.ghosts-run_state
ghosts-run_state g a = record {
  found = marked_in a.state;
  keeps = HasComeBy (g.S.Shelf.refuses g.N.Naming.place) g.S.Shelf.honest a.options.now a.state;
}

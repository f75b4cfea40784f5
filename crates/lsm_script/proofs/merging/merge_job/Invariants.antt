use Rattle.lsm_script.specs.Drawing.{Drawn}
use Rattle.lsm_script.proofs.merging.merge_job.Given as goal

-- it is the state that is lent, with what it drew since the merge began
abbrev pub ghosts-merge_with : goal.ghosts-merge_with
ghosts-merge_with g a = record { holds = Drawn a.numbers.now.state.now; loan = a.numbers.now.state.ghost_name }

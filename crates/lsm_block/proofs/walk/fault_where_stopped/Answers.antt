use Rattle.std.proofs.Common.{ℕ, List, sym, ap, ◌∙◌, arith}
use Rattle.lsm_block.specs.Walking.{fault_at_stop}
use Rattle.lsm_block.proofs.RestartLaws.{words-done}
use Rattle.lsm_block.proofs.walk.fault_where_stopped.Goals as goal

pub returns : goal.returns
returns c = sym (ap (λ (rs : List ℕ). fault_at_stop c.args.start rs) (words-done c.loop-rest.rest.now (omega arith))) ∙ c.loop-rest.invariant

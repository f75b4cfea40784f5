use Rattle.lsm_script.proofs.Histories.{steps_history}
use Rattle.lsm_script.proofs.laws.steps_are_of_the_history.Goals as goal

pub returns : goal.returns
returns g c = λ told commands replies t k.
    steps_history g.S.Shelf.honest c.args.state.now commands replies told t c.options-options.ensures.law.law c.runs_read_all_that_came.ensures k

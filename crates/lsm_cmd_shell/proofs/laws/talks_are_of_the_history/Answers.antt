use Rattle.std.proofs.Common.{None, ap, subst, sym}
use Rattle.lsm_state.specs.Held.{Held}
use Rattle.lsm_script.specs.History.{IsOf}
use Rattle.lsm_script.specs.Steps.{Stage, stage_of}
use Rattle.lsm_cmd_shell.specs.Batching.{standing}
use Rattle.lsm_cmd_shell.proofs.HistoryLaws.{replied_steps}
use Rattle.lsm_cmd_shell.proofs.laws.talks_are_of_the_history.Goals as goal

pub returns : goal.returns
returns g c = λ form told lines said t replied.
    let H = g.S.Shelf.honest in
    let k = replied_steps H form lines said (standing (stage_of c.args.state.now told) None) t replied in
    let steps = k.3 in
    let h = c.steps_are_of_the_history.ensures told k.0 k.1 steps.0 steps.1 in
    (k.0, k.1, k.2, (h.0, h.1, subst (λ (s : Held). IsOf H h.0 s) (sym (ap (λ (s : Stage). s.state) steps.2)) h.2))

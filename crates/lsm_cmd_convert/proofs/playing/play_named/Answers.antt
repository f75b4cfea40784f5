use Rattle.std.proofs.Common.{subst}
use Rattle.lsm_state.specs.declared.options.Options.{Options}
use Rattle.lsm_opening.specs.Starting.{IsNewWith}
use Rattle.lsm_cmd_convert.proofs.PlayOutcomes.{is_played, not_begun}
use Rattle.lsm_cmd_convert.proofs.playing.play_named.Goals as goal

pub returns-in-Ok-run-clause-played : goal.returns-in-Ok-run-clause-played
returns-in-Ok-run-clause-played g c =
    let begun = subst (λ (o : Options). IsNewWith o 1 c.in-Ok.state c.args.shelf.now c.begin_with.new.shelf) c.requires.options c.in-Ok.ensures.begun in
    is_played g.S.Shelf.honest c.args.commands.now c.in-Ok-run.replies c.args.shelf.now c.begin_with.new.shelf
    c.run.new.shelf c.in-Ok.state c.in-Ok-run._state begun c.in-Ok-run.ensures.replies c.in-Ok-run.ensures.history

pub returns-in-Err-clause-fault : goal.returns-in-Err-clause-fault
returns-in-Err-clause-fault g c = not_begun (g.S.Shelf.refuses g.N.Naming.place) c.in-Err.fault _ _ c.in-Err.ensures.refused

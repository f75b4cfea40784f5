use Rattle.lsm_cmd_levels.proofs.ShowLaws.{done_behind, refused_behind}
use Rattle.lsm_cmd_levels.proofs.program.levels_at.Goals as goal

pub returns-clause-done : goal.returns-clause-done
returns-clause-done g c =
    let gone = c.is_gone.ensures.0 (cc c.if-not-is_gone.false) in
    let kept = rw gone.1 at c.look_at-done.ensures.gone in
    done_behind g.C.FolderCalls c.look_at.result c.args.line.now _ _ _ _ _ _
    (kept gone.2) c.look_at.ensures.done

pub returns-clause-refused : goal.returns-clause-refused
returns-clause-refused g c =
    let gone = c.is_gone.ensures.0 (cc c.if-not-is_gone.false) in
    let kept = rw gone.1 at c.look_at-done.ensures.gone in
    refused_behind g.C.FolderCalls c.look_at.result c.args.line.now _ _ _ _ _
    (kept gone.2) c.look_at.ensures.refused

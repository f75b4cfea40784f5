use Rattle.lsm_directory.proofs.LogLaws.{unread_none, unread_old}
use Rattle.lsm_directory.proofs.folder.logs.number_unread.Goals as goal

pub returns-else-is_reached : goal.returns-else-is_reached
returns-else-is_reached c =
    unread_old c.args.log c.args.prev_log c.in-Some.number c.args.file.now c.as_str.result.now c.as_str.ensures.value c.in-Some.ensures.found c.if-is_reached.ensures.0
    c.if-is_reached.ensures.1

pub returns-in-None : goal.returns-in-None
returns-in-None c = unread_none c.args.log c.args.prev_log c.args.file.now c.as_str.result.now c.as_str.ensures.value c.in-None.ensures.found

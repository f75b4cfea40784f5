use Rattle.lsm_log_files.proofs.StopLaws.{reads_front}
use Rattle.lsm_log_files.proofs.stopping.read_front.Goals as goal

pub returns-clause-read : goal.returns-clause-read
returns-clause-read g c =
    reads_front c.args.number c.args.logs.now c.read_to_fault.new.self c.in_ok-bytes.bytes.items
    c.in_ok-left.left.bytes c.in_ok-left.left.fault (g.C.FolderCalls.calls c.args.folder.now)
    (g.C.FolderCalls.calls c.load_log.new.folder)
    (rw c.deref.ensures.value at c.in_ok-left.ensures.whole)
    (rw c.deref.ensures.value at c.in_ok-left.ensures.front) c.in_ok-bytes.ensures.given

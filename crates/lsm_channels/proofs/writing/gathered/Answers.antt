use Rattle.lsm_frames.specs.Views.{written_of}
use Rattle.lsm_channels.proofs.WriteLaws.{ungathered}
use Rattle.lsm_channels.proofs.writing.gathered.Goals as goal

pub returns-in-Err-clause-refused : goal.returns-in-Err-clause-refused
returns-in-Err-clause-refused c =
    ungathered c.args.writes c.writes.writes c.next.new.self c.writes.buffer (written_of c.in-Some.write) c.in-Err.fault c.writes.invariant c.in-Some.ensures c.in-Err.ensures.refused

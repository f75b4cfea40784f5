use Rattle.std.proofs.Common.{rules}
use Rattle.lsm_lines.proofs.BufferLaws.{put_fits}
use Rattle.lsm_lines.proofs.write_buffer.WriteBuffer.put.Goals as goal

pub invariant_of-self-2 : goal.invariant_of-self-2
invariant_of-self-2 c =
    put_fits c.self.inside.writes.items c.push.new.self.items c.args.write c.self.inside.bytes c.in-Some.size c.in-Ok.ensures.items c.self.invariant.0 c.self.invariant.1
    c.in-Some.ensures.size c.in-Some.ensures.small.0 (search rules) c.if-self-size-gt-MOST_BYTES.false

use Rattle.lsm_text.proofs.PrinterLaws.{begins_whole, on_err}
use Rattle.lsm_text.proofs.streams.write_output.Goals as goal

pub returns-clause-begun : goal.returns-clause-begun
returns-clause-begun g c =
    on_err c.flush.result
    (begins_whole (g.W.Write.contents c.args.out.now) (g.W.Write.contents c.write_bytes.new.out) (g.W.Write.contents c.flush.new.out) c.args.bytes.now
    c.in_ok-write_bytes.ensures.written c.flush.ensures.kept)

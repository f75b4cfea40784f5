use Rattle.std.proofs.Common.{◌≤◌, length, rules}
use Rattle.lsm_text.proofs.StreamLaws.{whole_read}
use Rattle.lsm_text.proofs.streams.read_input.Goals as goal

pub returns-clause-found : goal.returns-clause-found
returns-clause-found g c =
    let short : length c.read_to_end-read.new.buf.items ≤ 67108864 = search rules in
    let h = rw (c.take.ensures.limit, c.take.ensures.inner) at c.in-Ok.ensures.bytes in
    whole_read 67108864 (g.R.Read.remaining c.args.input.now) c.new-bytes.result.items c.read_to_end-read.new.buf.items (search rules) h short

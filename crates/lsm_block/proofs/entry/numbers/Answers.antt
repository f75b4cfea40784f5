use Rattle.std.proofs.Common.{sym, arith}
use Rattle.lsm_block.proofs.EntryLaws.{short_numbers}
use Rattle.lsm_block.proofs.entry.numbers.Goals as goal

pub returns-then-len-lt128 : goal.returns-then-len-lt128
returns-then-len-lt128 c = record { reads = sym (short_numbers c.args.text.now (omega arith) (omega arith) (omega arith) (omega arith)) }

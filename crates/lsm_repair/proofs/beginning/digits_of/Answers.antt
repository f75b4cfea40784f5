use Rattle.std.proofs.Common.{rules}
use Rattle.std.specs.Prelude.{decimal}
use Rattle.lsm_directory.proofs.CallerLemmas.{padded_integral_six}
use Rattle.lsm_repair.proofs.beginning.digits_of.Goals as goal

pub returns : goal.returns
returns c = search (rules, padded_integral_six (decimal c.args.number))

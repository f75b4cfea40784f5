use Rattle.std.proofs.Common.{rules}
use Rattle.std.specs.Prelude.{decimal}
use Rattle.lsm_storage.proofs.Padding.{padded_integral-six}
use Rattle.lsm_storage.proofs.file.file_names.table_file.Goals as goal

pub returns : goal.returns
returns c = search (rules, padded_integral-six (decimal c.args.number))

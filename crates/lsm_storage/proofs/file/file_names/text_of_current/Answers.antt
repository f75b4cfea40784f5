use Rattle.std.proofs.Common.{rules}
use Rattle.lsm_storage.proofs.Padding.{length-is_current}
use Rattle.lsm_storage.proofs.file.file_names.text_of_current.Goals as goal

pub returns-clause-short : goal.returns-clause-short
returns-clause-short c = search (rules, length-is_current c.args.number)

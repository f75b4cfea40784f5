use Rattle.lsm_text.proofs.PrintLaws.{entry_list-is}
use Rattle.lsm_text.proofs.laws.printed_list.Goals as goal

pub returns : goal.returns
returns c = entry_list-is

use Rattle.std.proofs.Common.{ap}
use Rattle.lsm_text.specs.EntryPrinting.{entry_list}
use Rattle.lsm_requests.specs.declared.conversion.Conversion.TheVariants.{Dump}
use Rattle.lsm_cmd_convert.proofs.AnswerLaws.{begins_answer, write_explained}
use Rattle.lsm_cmd_convert.proofs.converting.print_table.Goals as goal

pub returns-clause-explained : goal.returns-clause-explained
returns-clause-explained g c =
    write_explained Dump c.args.file.items (entry_list c.restart.new.entries.left) c.write_entries.result
    (c.in_ok-table.table, c.in_ok-table.ensures.found, ap entry_list c.restart.ensures.left) c.write_entries.ensures.fault

pub returns-clause-begun : goal.returns-clause-begun
returns-clause-begun g c =
    begins_answer Dump c.args.file.items (entry_list c.restart.new.entries.left) c.write_entries.result
    (g.O.Write.contents c.args.out.now) (g.O.Write.contents c.write_entries.new.out)
    (c.in_ok-table.table, c.in_ok-table.ensures.found, ap entry_list c.restart.ensures.left) c.write_entries.ensures.begun

use Rattle.lsm_directory.proofs.TellingLaws.{always, told_all}
use Rattle.lsm_directory.proofs.telling.tell.Goals as goal

pub returns : goal.returns
returns g c = record {
  told = λ none. always c.flush.result _
      (told_all c.args.known.names_files (g.F.Exit.file c.args.fault.now) (g.F.Display.output c.args.fault.now) (g.F.Exit.meaning c.args.fault.now) _ _ _ _ _ _ c.in_ok-write_line.ensures
      (rw c.table_file.ensures at c.in_ok-write_file_behind.ensures) c.in_ok-explain.ensures (c.in_ok-write_answer.ensures none) c.flush.ensures.bytes);
}

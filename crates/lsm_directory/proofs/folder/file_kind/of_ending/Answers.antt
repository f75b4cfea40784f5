use Rattle.lsm_directory.proofs.folder.file_kind.of_ending.Goals as goal

pub returns-in-None-clause-other : goal.returns-in-None-clause-other
returns-in-None-clause-other c = λ same. record {
  table = λ n is. let e = c.in_default.ensures.found n is in absurd cc;
  old_table = λ n is. let e = c.in_default-number_before.ensures.found n is in absurd cc;
  temporary = λ n is. let e = c.in_default-number_before-2.ensures.found n is in absurd cc;
  log = λ n is. let e = c.in-None.ensures.found n is in absurd cc;
}

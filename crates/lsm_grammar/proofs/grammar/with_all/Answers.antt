use Rattle.lsm_grammar.specs.Grammar.{bench, check, clean, compact, delete, dump, get, help}
use Rattle.lsm_grammar.specs.Grammar.{import_folder, ingest, levels, list, load, lsm, make_table}
use Rattle.lsm_grammar.specs.Grammar.{manifest, put, recover, repair, scan, script, shell}
use Rattle.lsm_grammar.specs.Grammar.{with_inputs, with_looks, with_writes}
use Rattle.lsm_grammar.proofs.grammar.with_all.Goals as goal

pub returns : goal.returns
unfolding bench check clean compact delete dump get help import_folder ingest levels list load lsm make_table manifest put recover repair scan script shell with_inputs with_looks with_writes
returns c = c.with_commands.ensures _

use Rattle.lsm_table.specs.Footer.{body_of}
use Rattle.lsm_table.proofs.CallerLemmas.{names_all}
use Rattle.lsm_reader.proofs.table_reader.TableReader.over.Goals as goal

pub returns-clause-left : goal.returns-clause-left
returns-clause-left g c es n = names_all (body_of (g.S.Receipt.TableReceipt.image c.args.receipt)) _ es n

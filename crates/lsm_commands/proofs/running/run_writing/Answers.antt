use Rattle.lsm_commands.proofs.running.run_writing.Goals as goal

pub returns-in-Ingest-clause-done : goal.returns-in-Ingest-clause-done
returns-in-Ingest-clause-done g c = rw c.in-Ingest.is c.run_ingest.ensures.done

pub returns-in-Ingest-clause-refused : goal.returns-in-Ingest-clause-refused
returns-in-Ingest-clause-refused g c = rw c.in-Ingest.is c.run_ingest.ensures.refused

pub returns-in-WriteKey-clause-done : goal.returns-in-WriteKey-clause-done
returns-in-WriteKey-clause-done g c = rw c.in-WriteKey.is c.run_write.ensures.done

pub returns-in-WriteKey-clause-refused : goal.returns-in-WriteKey-clause-refused
returns-in-WriteKey-clause-refused g c = rw c.in-WriteKey.is c.run_write.ensures.refused

pub returns-in-Clean-clause-done : goal.returns-in-Clean-clause-done
returns-in-Clean-clause-done g c = rw c.in-Clean.is c.run_clean.ensures.done

pub returns-in-Clean-clause-refused : goal.returns-in-Clean-clause-refused
returns-in-Clean-clause-refused g c = rw c.in-Clean.is c.run_clean.ensures.refused

use Rattle.lsm_channels.proofs.writing.write.Goals as goal

pub returns-in-Ok-clause-ok : goal.returns-in-Ok-clause-ok
returns-in-Ok-clause-ok g c = record {
  batch = c.in_ok-batch.batch;
  gathered = c.in_ok-batch.ensures.last;
  all = c.in-Ok.left;
  brought = c.in-Ok.ensures.ok;
  known = c.note.ensures.other;
}

pub bring_in-requires-clause-kept : goal.bring_in-requires-clause-kept
bring_in-requires-clause-kept g c κs within = c.requires.writes _ c.in_ok-batch.ensures.last

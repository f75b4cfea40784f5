use Rattle.std.proofs.Common.{inl, inr}
use Rattle.lsm_version.proofs.ChangedFiles.{changed_from, changed_last}
use Rattle.lsm_version.proofs.change.changed_is_sound.Goals as goal

pub returns : goal.returns
returns c deleted added pointer last v s whole lawful reached = record {
  lawful = lawful;
  tables = λ n t h. elim (changed_from deleted added pointer last v n t h) [ inl old ↦ s.tables n t old.0 | inr new ↦ whole n t new ];
  reached = λ F e h k. changed_last deleted added pointer last v e.seq (reached F e h k);
}

-- The last number fields of a row of edits.
use Rattle.std.specs.Prelude.{◌≡◌, List}
use Rattle.lsm_manifest.specs.declared.edit.Edit.{Edit}
use Rattle.lsm_manifest.specs.declared.last_values.LastValues.{LastValues}
use Rattle.lsm_manifest.specs.Replay.{last_log, last_prev_log, last_next, last_sequence}

pub record AreLast (edits : List Edit) (n : LastValues) : Type 0 where
  pub log : n.log ≡ last_log edits
  pub prev_log : n.prev_log ≡ last_prev_log edits
  pub next : n.next ≡ last_next edits
  pub last : n.last ≡ last_sequence edits

use Rattle.std.proofs.Common.{◌≡◌}
use Rattle.lsm_cmd_convert.specs.Converted.{usual}
use Rattle.lsm_text.specs.ReaderView.{before_of, rest_of, left_of}
use Rattle.lsm_cmd_convert.proofs.MakingLaws.{IsAt}
use Rattle.lsm_cmd_convert.proofs.converting.make_table.Given as goal

abbrev pub invariant-lines : goal.invariant-lines
invariant-lines l = record {
  options : l.builder.options ≡ usual;
  reading : IsAt l.list l.builder.entries (before_of l.reader) (rest_of l.reader);
}

abbrev pub decreases-lines : goal.decreases-lines
decreases-lines l = left_of l.reader

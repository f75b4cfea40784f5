use Rattle.lsm_cmd_convert.proofs.ManifestLaws.{Printed}
use Rattle.lsm_cmd_convert.proofs.converting.list_manifest.Given as goal

abbrev pub invariant-records : goal.invariant-records
invariant-records l = Printed l.records l.i l.text.items

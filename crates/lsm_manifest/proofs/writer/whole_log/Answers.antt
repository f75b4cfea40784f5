use Rattle.std.proofs.Common.{length, refl, ◌%◌}
use Rattle.lsm_manifest.proofs.TornLaws.{done, again}
use Rattle.lsm_manifest.proofs.writer.whole_log.Goals as goal

pub returns : goal.returns
returns c bytes records = (λ a. done bytes records (length bytes % 32768) record { spelled = a; place_is = refl }, λ l. (again bytes records l).spelled)

use Rattle.lsm_manifest.specs.Standing.{file_at}
use Rattle.lsm_manifest.proofs.StandingLaws.{tracks_start, deletes_next}
use Rattle.lsm_manifest.proofs.standing.Standing.delete_all.Goals as goal

pub loop-file-init : goal.loop-file-init
loop-file-init c = λ es t. tracks_start es (file_at c.args.self.now) t

pub loop-file-preserved : goal.loop-file-preserved
loop-file-preserved c = λ es t.
    deletes_next es c.args.deleted.now c.loop-file.file-index (record { level = 0; number = 0 }) (file_at c.loop-file.self) (file_at c.delete.new.self) c.loop-file-test.true (c.loop-file.invariant es t)
    (record { here = c.delete.ensures.here; none = c.delete.ensures.none; others = c.delete.ensures.others })

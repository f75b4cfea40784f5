use Rattle.std.proofs.lemmas.Result.{IfErr-weaker, IfOk-weaker}
use Rattle.lsm_database.proofs.DatabaseLaws.{came_again, out_again}
use Rattle.lsm_database.proofs.handle.Handle.write.Goals as goal

pub returns-in-Err-LevelZeroFull-clause-came : goal.returns-in-Err-LevelZeroFull-clause-came
returns-in-Err-LevelZeroFull-clause-came g c =
    let full = rw c.in-Err-LevelZeroFull.field-0-is at c.in-Err-LevelZeroFull.ensures.refused in
    IfOk-weaker c.try_write-in-Err-LevelZeroFull.result _ _ (λ r came. came_again _ _ _ _ _ full r came) c.try_write-in-Err-LevelZeroFull.ensures.came

pub returns-in-Err-LevelZeroFull-clause-refused : goal.returns-in-Err-LevelZeroFull-clause-refused
returns-in-Err-LevelZeroFull-clause-refused g c =
    let full = rw c.in-Err-LevelZeroFull.field-0-is at c.in-Err-LevelZeroFull.ensures.refused in
    IfErr-weaker c.try_write-in-Err-LevelZeroFull.result _ _ (λ e out. out_again _ _ _ _ _ full e out) c.try_write-in-Err-LevelZeroFull.ensures.refused

use Rattle.std.proofs.Common.{◌≡◌}
use Rattle.lsm_directory.specs.declared.folder.file_kind.FileKind.TheVariants.{Log}
use Rattle.lsm_repair.proofs.unsure_logs.log_in.Goals as goal

pub returns-in-Log : goal.returns-in-Log
returns-in-Log c = (
  c.in-Log.ensures.known (λ e. cc),
  λ n h. (let e = c.in-Log.ensures.found (Log n) h in cc),
)

pub returns-in_default : goal.returns-in_default
returns-in_default c = λ n h. c.in_default.not-Log n (c.kind_of.ensures.found (Log n) h)

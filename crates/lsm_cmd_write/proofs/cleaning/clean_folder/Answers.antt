use Rattle.std.proofs.Common.{inr}
use Rattle.lsm_cmd_write.proofs.cleaning.clean_folder.Goals as goal

pub returns-in-Ok-clause-cleaned : goal.returns-in-Ok-clause-cleaned
returns-in-Ok-clause-cleaned g c = (
  g.C.FolderCalls.calls c.hold.new.folder,
  c.in_ok-hold.ensures.held,
  rw (← c.hold.ensures.place) c.in-Ok.ensures.cleaned,
)

pub returns-in-Err-clause-refused : goal.returns-in-Err-clause-refused
returns-in-Err-clause-refused g c = inr (
  g.C.FolderCalls.calls c.hold.new.folder,
  c.in_ok-hold.ensures.held,
  rw (← c.hold.ensures.place) c.in-Err.ensures.refused,
)

use Rattle.std.proofs.Common.{List, subst, sym}
use Rattle.lsm_folder.specs.Calls.{Call}
use Rattle.lsm_shelf.specs.Place.{IsAtPath}
use Rattle.lsm_directory.specs.Beside.{LooksBeside}
use Rattle.lsm_cmd_read.proofs.program.open_folder.Goals as goal

pub returns-clause-opened : goal.returns-clause-opened
returns-clause-opened g c = record {
  at = subst (IsAtPath c.args.path.now) (sym c.look_beside.ensures.place)
      c.in_ok-folder.ensures.place;
  called = subst
      (λ (cs : List Call). LooksBeside c.in_ok-beside.beside cs
      (g.C.FolderCalls.calls c.look_beside.new.folder)) c.in_ok-folder.ensures.calls
      c.in_ok-beside.ensures.told;
}

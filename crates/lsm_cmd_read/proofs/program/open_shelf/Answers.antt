use Rattle.std.proofs.Common.{◌≡◌, All, ap, subst, sym}
use Rattle.lsm_shelf.specs.Told.{Place, Told}
use Rattle.lsm_storage.specs.FileShelf.{file_told}
use Rattle.lsm_cmd_read.proofs.LookedLaws.{shelf_on}
use Rattle.lsm_cmd_read.proofs.program.open_shelf.Goals as goal

pub returns-clause-found : goal.returns-clause-found
returns-clause-found g c =
    shelf_on g.C.FolderCalls c.args.path.now c.in_ok-folder.beside c.in_ok-folder.folder
    c.over.result c.in_ok-folder.ensures.opened c.over.ensures.folder c.over.ensures.fresh

pub returns-clause-place : goal.returns-clause-place
returns-clause-place g c =
    subst (λ (p : Place). All (λ s. (file_told g.C.FolderCalls.place s).place ≡ p)
    c.in_ok-shelves.shelves.items) (sym (ap (λ (t : Told). t.place) c.over.ensures.fresh))
    c.in_ok-shelves.ensures

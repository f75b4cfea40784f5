use Rattle.std.proofs.Common.{◌≡◌, ◌∙◌, All, ap, subst, sym}
use Rattle.lsm_shelf.specs.Told.{Place, Told, fresh}
use Rattle.lsm_storage.specs.FileShelf.{file_told}
use Rattle.lsm_cmd_read.proofs.program.open_to_see.Goals as goal

pub returns-in-Ok-clause-found : goal.returns-in-Ok-clause-found
returns-in-Ok-clause-found g c = record {
  opened = c.in_ok-folder.ensures.opened;
  reading = c.over.ensures.fresh ∙ ap fresh c.in-Ok.ensures.fork.1;
}

pub returns-in-Ok-clause-place : goal.returns-in-Ok-clause-place
returns-in-Ok-clause-place g c =
    subst (λ (p : Place). All (λ s. (file_told g.C.FolderCalls.place s).place ≡ p)
    c.in_ok-shelves.shelves.items)
    (sym (ap (λ (t : Told). t.place) c.over.ensures.fresh ∙ c.in-Ok.ensures.fork.1))
    c.in_ok-shelves.ensures

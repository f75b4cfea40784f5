use Rattle.std.proofs.Common.{◌≡◌, All}
use Rattle.lsm_storage.specs.FileShelf.{file_told}
use Rattle.lsm_cmd_read.proofs.program.shelves_on.Given as goal

abbrev pub invariant-loop : goal.invariant-loop
invariant-loop g l =
    All (λ s. (file_told g.C.FolderCalls.place s).place ≡ g.C.FolderCalls.place l.folder)
    l.shelves.items

use Rattle.std.proofs.Common.{◌≡◌, ap, ◌∙◌}
use Rattle.std.proofs.lemmas.List.Elements.{All-push, All-same}
use Rattle.lsm_shelf.specs.Told.{Told}
use Rattle.lsm_storage.specs.FileShelf.{file_told}
use Rattle.lsm_cmd_read.proofs.program.shelves_on.Goals as goal

pub loop-preserved : goal.loop-preserved
loop-preserved g c =
    All-same (λ s. (file_told g.C.FolderCalls.place s).place ≡ g.C.FolderCalls.place
    c.args.folder.now) _ _ c.in_ok-push.ensures.items
    (All-push
    (λ s. (file_told g.C.FolderCalls.place s).place ≡ g.C.FolderCalls.place c.args.folder.now) _
    c.over-shelf.result c.loop.invariant
    (ap (λ (t : Told). t.place) c.over-shelf.ensures.fresh ∙ c.in-Ok.ensures.fork.1))

use Rattle.lsm_directory.proofs.CallerLemmas.{shelf_over}
use Rattle.lsm_cmd_levels.specs.Listing.{TellsFiles}
use Rattle.lsm_cmd_levels.proofs.program.open_shelf.Goals as goal

pub returns-clause-found : goal.returns-clause-found
returns-clause-found g c =
    shelf_over g.C.FolderCalls c.args.path.now (TellsFiles c.in_ok-files.files.items) c.in_ok-folder.folder c.folder_files.new.folder c.over.result c.in_ok-folder.ensures.place
    c.in_ok-folder.ensures.calls c.in_ok-files.ensures.told c.folder_files.ensures.place c.over.ensures.folder c.over.ensures.fresh

use Rattle.std.proofs.Common.{List, subst, sym}
use Rattle.lsm_directory.specs.Folders.{IsShelfAt}
use Rattle.lsm_directory.specs.declared.folder.folder_file.FolderFile.{FolderFile}
use Rattle.lsm_cmd_levels.specs.Listing.{TellsFiles}
use Rattle.lsm_cmd_levels.proofs.ShowLaws.{fails, lays_out}
use Rattle.lsm_cmd_levels.proofs.program.look_at.Goals as goal

pub returns-clause-done : goal.returns-clause-done
returns-clause-done g c =
    let on = subst
    (λ (files : List FolderFile). IsShelfAt g.C.FolderCalls c.args.line.now.path.now
    (TellsFiles files) c.in_ok-shelf.shelf)
    (sym c.deref.ensures.value) c.in_ok-shelf.ensures.found in
    lays_out g.C.FolderCalls c.lay_out-done.result.0 c.args.line.now c.deref.result.now
    c.in_ok-shelf.shelf c.lay_out-done.result.1 _ _ _ _ on
    c.lay_out-done.ensures.done

pub returns-clause-refused : goal.returns-clause-refused
returns-clause-refused g c =
    let on = subst
    (λ (files : List FolderFile). IsShelfAt g.C.FolderCalls c.args.line.now.path.now
    (TellsFiles files) c.in_ok-shelf.shelf)
    (sym c.deref.ensures.value) c.in_ok-shelf.ensures.found in
    fails g.C.FolderCalls c.lay_out-done.result.0 c.args.line.now c.deref.result.now
    c.in_ok-shelf.shelf c.lay_out-done.result.1 _ _ on
    c.lay_out-done.ensures.fault c.lay_out-done.ensures.reads

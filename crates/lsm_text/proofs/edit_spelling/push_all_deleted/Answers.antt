use Rattle.std.proofs.Common.{rules}
use Rattle.lsm_text.specs.ManifestPrinting.{deleted_line}
use Rattle.lsm_text.proofs.LineLists.{lines_more, lines_all, same_element}
use Rattle.lsm_text.proofs.edit_spelling.push_all_deleted.Goals as goal

pub loop-file-preserved : goal.loop-file-preserved
loop-file-preserved c =
    lines_more deleted_line c.args.deleted.now c.loop-file.file-index _ c.args.out.now.items c.loop-file.out.items c.push_deleted.new.out.items
    (search rules) (same_element c.args.deleted.now c.loop-file.file-index _ (search rules)) c.loop-file.invariant c.in_ok-push_deleted.ensures

pub returns : goal.returns
returns c =
    lines_all deleted_line c.args.deleted.now c.loop-file.file-index c.args.out.now.items c.loop-file.out.items (search rules) c.loop-file.invariant

use Rattle.std.proofs.Common.{rules}
use Rattle.lsm_text.specs.ManifestPrinting.{added_line}
use Rattle.lsm_text.proofs.LineLists.{lines_more, lines_all}
use Rattle.lsm_text.proofs.edit_spelling.push_all_added.Goals as goal

pub loop-file-preserved : goal.loop-file-preserved
loop-file-preserved c =
    lines_more added_line c.args.added.now c.loop-file.file-index c.file-item.result c.args.out.now.items c.loop-file.out.items c.push_added.new.out.items
    (search rules) c.file-item.is c.loop-file.invariant c.in_ok-push_added.ensures

pub returns : goal.returns
returns c =
    lines_all added_line c.args.added.now c.loop-file.file-index c.args.out.now.items c.loop-file.out.items (search rules) c.loop-file.invariant

use Rattle.std.proofs.Common.{rules}
use Rattle.lsm_text.specs.ManifestPrinting.{pointer_line}
use Rattle.lsm_text.proofs.LineLists.{lines_more, lines_all}
use Rattle.lsm_text.proofs.edit_spelling.push_pointers.Goals as goal

pub loop-pointer-preserved : goal.loop-pointer-preserved
loop-pointer-preserved c =
    lines_more pointer_line c.args.pointers.now c.loop-pointer.pointer-index c.pointer-item.result c.args.out.now.items c.loop-pointer.out.items c.push_pointer.new.out.items
    (search rules) c.pointer-item.is c.loop-pointer.invariant c.in_ok-push_pointer.ensures

pub returns : goal.returns
returns c =
    lines_all pointer_line c.args.pointers.now c.loop-pointer.pointer-index c.args.out.now.items c.loop-pointer.out.items (search rules) c.loop-pointer.invariant

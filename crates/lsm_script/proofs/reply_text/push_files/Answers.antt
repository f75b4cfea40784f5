use Rattle.std.proofs.Common.{rules}
use Rattle.lsm_script.specs.ReplyText.{listed_line}
use Rattle.lsm_script.proofs.TextLaws.{lines_all, lines_more}
use Rattle.lsm_script.proofs.reply_text.push_files.Goals as goal

pub loop-file-preserved : goal.loop-file-preserved
loop-file-preserved c =
    lines_more (listed_line c.args.form) c.args.files.now c.loop-file.file-index c.file-item.result c.args.out.now.items c.loop-file.out.items c.push_file.new.out.items
    (search rules) c.file-item.is c.loop-file.invariant c.in_ok-push_file.ensures

pub returns : goal.returns
returns c = lines_all (listed_line c.args.form) c.args.files.now c.loop-file.file-index c.args.out.now.items c.loop-file.out.items (search rules) c.loop-file.invariant

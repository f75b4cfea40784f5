use Rattle.std.proofs.Common.{◌≡◌, ◌++◌, take}
use Rattle.std.specs.List.{flat_map}
use Rattle.lsm_script.specs.ReplyText.{listed_line}
use Rattle.lsm_script.proofs.reply_text.push_files.Given as goal

abbrev pub invariant-loop-file : goal.invariant-loop-file
invariant-loop-file l = l.out.items ≡ l.initial.out.items ++ flat_map (listed_line l.form) (take l.file-index l.files)

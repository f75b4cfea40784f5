use Rattle.std.proofs.Common.{◌∙◌}
use Rattle.lsm_cmd_read.proofs.NoteLaws.{none_noted}
use Rattle.lsm_cmd_read.proofs.notes.write_notes.Goals as goal

pub returns-clause-quiet : goal.returns-clause-quiet
returns-clause-quiet g c = λ plain zero none. c.write_lines.ensures.quiet
    (c.as_slice.ensures.value
    ∙ none_noted c.args.manifest c.args.beside.now c.args.logs.now c.new-text.result.items
    c.push_note.new.out.items c.push_beside.new.out.items c.push_logs.new.out.items
    c.new-text.ensures.items plain zero none
    c.in_ok-push_note.ensures c.in_ok-push_beside.ensures c.in_ok-push_logs.ensures)

use Rattle.std.proofs.Common.{take}
use Rattle.std.specs.Io.KnownBytes.{Appends}
use Rattle.lsm_cmd_repair.specs.Repaired.{notes_text}
use Rattle.lsm_cmd_repair.proofs.reply.write_each.Given as goal

-- the notes so far were written
abbrev pub invariant-loop-log : goal.invariant-loop-log
invariant-loop-log g l =
    Appends (g.E.Write.contents l.fn.err) (g.E.Write.contents l.err)
    (notes_text (take l.log-index l.logs))

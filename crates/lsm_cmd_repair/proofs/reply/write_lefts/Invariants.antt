use Rattle.std.proofs.Common.{take}
use Rattle.std.specs.Io.KnownBytes.{Appends}
use Rattle.lsm_cmd_repair.specs.Repaired.{lefts_text}
use Rattle.lsm_cmd_repair.proofs.reply.write_lefts.Given as goal

-- the lines so far were written
abbrev pub invariant-loop-one : goal.invariant-loop-one
invariant-loop-one g l =
    Appends (g.O.Write.contents l.fn.out) (g.O.Write.contents l.out)
    (lefts_text (take l.one-index l.left))

use Rattle.std.proofs.Common.{ℕ, List, [], sym, subst}
use Rattle.lsm_text.specs.Printing.{Passes}
use Rattle.lsm_text.proofs.PrinterLaws.{written_more}
use Rattle.lsm_text.proofs.streams.write_bytes.Goals as goal

pub loop-turn-preserved : goal.loop-turn-preserved
loop-turn-preserved g c =
    let start = g.W.Write.contents c.args.out.now in
    let now = g.W.Write.contents c.write_some.new.out in
    subst (λ (l : List ℕ). Passes start [] now l c.args.bytes.now) (sym c.split_at.ensures.back)
    (written_more start (g.W.Write.contents c.loop-turn.out) now c.in_ok-taken.taken c.loop-turn.rest.now c.args.bytes.now c.loop-turn.invariant c.in_ok-taken.ensures.written)

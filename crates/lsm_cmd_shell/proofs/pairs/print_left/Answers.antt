use Rattle.std.proofs.Common.{◌∙◌, refl}
use Rattle.lsm_table.proofs.CallerLemmas.{becomes_same, becomes_then}
use Rattle.lsm_cmd_shell.proofs.PairLaws.{none_yet, one_more}
use Rattle.lsm_cmd_shell.proofs.pairs.print_left.Goals as goal

pub loop-turn-init : goal.loop-turn-init
loop-turn-init g c = record {
  told = becomes_same _;
  loan = refl;
  ascending = c.requires.ascending;
  printed = none_yet g.S.Shelf.honest c.args.form c.args.bounds.now c.args.limit c.args.scan.now.left _;
}

pub loop-turn-preserved : goal.loop-turn-preserved
loop-turn-preserved g c =
    let next = rw (c.in-Ok-true.is, c.in-Ok-true.field-0-test) at c.print_next.ensures.next in
    record {
      told = becomes_then _ _ _ c.loop-turn.invariant.told c.print_next.ensures.told;
      loan = c.print_next.ensures.loan ∙ c.loop-turn.invariant.loan;
      ascending = λ h. (next.2 h).1;
      printed = one_more g.S.Shelf.honest c.args.form c.args.bounds.now c.args.limit c.loop-turn.left c.print_next.new.limit c.args.scan.now.left c.loop-turn.scan.left c.print_next.new.scan.left _ _ _ c.loop-turn.invariant.printed next;
    }

use Rattle.std.proofs.Common.{arith}
use Rattle.lsm_theorems.proofs.made.brought.Goals as goal

pub first_batches_are_a_life-requires-clause-made : goal.first_batches_are_a_life-requires-clause-made
first_batches_are_a_life-requires-clause-made g c κs within = record {
  number = 1;
  options = c.args.options;
  publisher = c.args.board.0;
  pinners = c.args.board.1.items;
  is = c.in_ok-state.ensures.created;
  fits = omega arith;
  was = c.args.shelf.now;
  now = c.create.new.shelf;
  sent = c.in_ok-state.ensures.sent;
}

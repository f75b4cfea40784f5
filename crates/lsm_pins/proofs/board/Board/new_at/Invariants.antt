use Rattle.std.proofs.Common.{◌≡◌, ◌+◌, All, vec_len}
use Rattle.lsm_pins.specs.View.{first_view, start_of}
use Rattle.lsm_pins.specs.Made.{IsNewPinner}
use Rattle.lsm_pins.proofs.board.Board.new_at.Given as goal

abbrev pub invariant-loop-made : goal.invariant-loop-made
invariant-loop-made l = record {
  table : l.seat.table_id ≡ l.initial.seat.table_id;
  parts : l.seat.me.0.parts + l.made ≡ 62;
  knows : l.seat.me.0 ≡ record (first_view (start_of l.slots l.id)) { parts = l.seat.me.0.parts };
  len : vec_len l.pinners ≡ l.made;
  all : All (IsNewPinner l.seat.table_id l.slots l.id) l.pinners.items;
}

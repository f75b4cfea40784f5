use Rattle.std.proofs.Common.{refl, sym, ◌∙◌, inl, inr}
use Rattle.lsm_script.proofs.reserving.said.Goals as goal

pub returns-then-is_move : goal.returns-then-is_move
returns-then-is_move g c = (
  record { ticket = c.ticket.result; level = c.level.result; inputs = c.args.inputs },
  record { ticket = c.ticket.ensures.ticket; level = c.level.ensures.level; inputs = c.requires },
  inl (sym c.is_move.ensures ∙ c.if-is_move.true, refl),
)

pub returns-else-is_move : goal.returns-else-is_move
returns-else-is_move g c = (
  record { ticket = c.ticket.result; level = c.level.result; inputs = c.args.inputs },
  record { ticket = c.ticket.ensures.ticket; level = c.level.ensures.level; inputs = c.requires },
  inr (sym c.is_move.ensures ∙ c.if-is_move.false, refl),
)

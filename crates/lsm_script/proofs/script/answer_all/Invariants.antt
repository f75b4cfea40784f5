use Rattle.std.proofs.Common.{◌≡◌, ◌≤◌, length, take, vec_capacity, vec_len}
use Rattle.lsm_script.specs.Steps.{IsStep, Stage, stage}
use Rattle.lsm_script.proofs.Chains.{GoesOn}
use Rattle.lsm_script.proofs.script.answer_all.Given as goal

abbrev pub invariant-loop-command : goal.invariant-loop-command
invariant-loop-command g l = record {
  so_far : GoesOn {S = Stage} (IsStep g.S.Shelf.honest) (take l.command-index l.commands) l.replies.items (stage l.initial.state l.initial.desk l.initial.shelf) (stage l.state l.desk l.shelf);
  len : vec_len l.replies ≡ l.command-index;
  room : length l.commands ≤ vec_capacity l.replies;
}

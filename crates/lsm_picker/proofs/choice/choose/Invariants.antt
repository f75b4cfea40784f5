use Rattle.std.proofs.Common.{IfSome}
use Rattle.lsm_picker.specs.Reservations.{IsClear}
use Rattle.lsm_picker.specs.TablePlans.{StandsIn}
use Rattle.lsm_picker.proofs.Choosing.{IsBest}
use Rattle.lsm_picker.proofs.choice.choose.Given as goal

abbrev pub invariant-loop-level : goal.invariant-loop-level
invariant-loop-level g l = record {
  stands : IfSome l.best (λ p. StandsIn l.version p);
  clear : IfSome l.best (λ p. IsClear p l.reservations);
  best_is : g.S.Shelf.honest → IsBest l.version l.reservations l.level l.best l.most;
}

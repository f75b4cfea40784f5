use Rattle.std.proofs.Common.{◌≡◌, ℕ, ◌<◌}
use Rattle.lsm_state.specs.Reserving.{HasToWait}
use Rattle.lsm_store.proofs.manual_compaction.ManualCompaction.reserve.Given as goal

abbrev pub invariant-loop-level : goal.invariant-loop-level
invariant-loop-level g l = record {
  same : l.state ≡ l.fn.state;
  wait : g.S.Shelf.honest → (n : ℕ) → n < l.level
      → HasToWait l.fn.state (record { level = n; from = l.self.from; to = l.self.to });
}

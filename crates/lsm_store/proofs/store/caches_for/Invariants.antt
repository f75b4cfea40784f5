use Rattle.std.proofs.Common.{◌≡◌, All, vec_len}
use Rattle.lsm_shelf.specs.Told.{Forked}
use Rattle.lsm_store.specs.Readers.{IsKnownBy}
use Rattle.lsm_store.proofs.store.caches_for.Given as goal

abbrev pub invariant-loop-number : goal.invariant-loop-number
invariant-loop-number g l = record {
  told : Forked l.fn.shelf l.shelf;
  same : l.state ≡ l.fn.state;
  caches : All (IsKnownBy l.fn.state g.N.Naming.place) l.caches.items;
  len : vec_len l.caches ≡ l.number;
}

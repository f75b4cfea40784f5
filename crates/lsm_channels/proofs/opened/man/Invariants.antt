use Rattle.std.proofs.Common.{◌≡◌, ◌*◌, All, map, vec_len}
use Rattle.lsm_shelf.specs.Told.{ForkedTimes}
use Rattle.lsm_channels.specs.Serving.{IsFresh, own_forks}
use Rattle.lsm_channels.proofs.opened.man.Given as goal

abbrev pub invariant-loop-reader : goal.invariant-loop-reader
invariant-loop-reader g l = record {
  fresh : All (IsFresh g.K.Invariant.keeps) l.sessions.items;
  own : map (λ s. s.shelf) l.sessions.items ≡ own_forks g.N.Naming.place l.fn.shelf.forks
      (vec_len l.sessions);
  told : ForkedTimes (2 * vec_len l.sessions) l.fn.shelf l.shelf;
}

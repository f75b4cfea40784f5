use Rattle.std.proofs.Common.{inl, inr, refl, sym}
use Rattle.lsm_storage.proofs.file.append.append_manifest.Goals as goal

-- there is no room
pub returns-then-not-has_room-clause-err : goal.returns-then-not-has_room-clause-err
returns-then-not-has_room-clause-err g c =
    inr (inl (c.in_ok-manifest.manifest.0, c.in_ok-manifest.manifest.1, c.in_ok-manifest.ensures.ok, refl, rw c.if-not-has_room.true at c.has_room.ensures))

-- its plan was begun
pub returns-in-Err-clause-err : goal.returns-in-Err-clause-err
returns-in-Err-clause-err g c =
    inr (inr (c.in_ok-manifest.manifest.0, c.in_ok-manifest.manifest.1, rw c.if-not-has_room.false at c.has_room.ensures, rw (sym c.in_ok-manifest.ensures.ok) c.in-Err.ensures.err))

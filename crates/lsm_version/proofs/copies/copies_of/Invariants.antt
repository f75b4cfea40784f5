use Rattle.std.proofs.Common.{◌≡◌, take}
use Rattle.lsm_version.proofs.copies.copies_of.Given as goal

abbrev pub invariant-loop-pointer : goal.invariant-loop-pointer
invariant-loop-pointer l = l.copies.items ≡ take l.pointer-index l.pointers

-- Where nothing is written.
use Rattle.std.proofs.Common.{ℕ, List, Option}
use Rattle.std.specs.Io.KnownBytes.{Keeps}
use Rattle.std.proofs.KnownBytes.{Keeps-refl, Keeps-trans}

pub keeps_same : (a : Option (List ℕ)) → Keeps a a
keeps_same a = Keeps-refl a

pub keeps_then : (a b c : Option (List ℕ)) → Keeps a b → Keeps b c → Keeps a c
keeps_then a b c p q = Keeps-trans a b c p q

use Rattle.std.specs.Prelude.{length}
use Rattle.example.proofs.version.show_rest.Given as goal

-- each turn takes one pair out
abbrev pub decreases-loop-pair : goal.decreases-loop-pair
decreases-loop-pair g l = length l.scan.left

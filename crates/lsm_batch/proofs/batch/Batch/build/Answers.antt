use Rattle.std.proofs.Common.{◌≡◌, ◌<◌, List, [], ◌∷◌, length, arith, refl}
use Rattle.lsm_batch.specs.declared.write.Write.{Write}
use Rattle.lsm_batch.proofs.batch.Batch.build.Goals as goal

has_one : (ws : List Write) → (ws ≡ [] → ⊥) → 0 < length ws
has_one [] none = absurd (none refl)
has_one (w ∷ ws) none = omega arith

pub build_run-requires-clause-some : goal.build_run-requires-clause-some
build_run-requires-clause-some c = has_one c.args.self.now c.requires.batch.some

-- Writes with the greatest key first.
use Rattle.std.specs.Prelude.{⊤, List, [], ◌∷◌}
use Rattle.lsm_codec.specs.Lists.{Has}
use Rattle.lsm_codec.specs.Keys.{UserLe}
use Rattle.lsm_batch.specs.declared.write.Write.{Write}

-- no key is greater than one before it
abbrev pub Falls : List Write → Type 0
Falls [] = ⊤
Falls (w ∷ ws) = ((v : Write) → Has ws v → UserLe v.key w.key) × Falls ws

use Rattle.std.proofs.Common.{◌≡◌, ℕ, List, [], ◌∷◌, length, take, drop, ap, arith}
use Rattle.lsm_folder.proofs.truth.the_mute_cannot_tell.Goals as goal

abbrev no_byte : List ℕ
no_byte = []

abbrev a_byte : List ℕ
a_byte = 0 ∷ []

differ : a_byte ≡ take 1 (drop 0 no_byte) → ⊥
differ e = absurd (let n : 1 ≡ 0 = ap length e in omega arith)

pub returns : goal.returns
returns c h = differ (h no_byte 0 1 a_byte tt)

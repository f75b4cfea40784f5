use Rattle.std.proofs.Common.{◌≡◌, ◌<◌, ◌/◌, length, inl, inr, rules}
use Rattle.std.specs.Prelude.{◌⊎◌}
use Rattle.lsm_text.proofs.WordLaws.{no_bytes}
use Rattle.lsm_text.proofs.words.read_bytes.Goals as goal
use Rattle.lsm_text.proofs.words.read_bytes.Goals.{then-len-eq0-via-then-len-eq0, then-len-eq0-via-else-len-eq0+then-len-most}

pub returns-then-len-eq0 : goal.returns-then-len-eq0
returns-then-len-eq0 c =
    let outside : (length c.args.word.now / 2 ≡ 0) ⊎ (c.args.most < length c.args.word.now / 2) = elim c.then-len-eq0.branch [
      | then-len-eq0-via-then-len-eq0 w ↦ inl (search rules)
      | then-len-eq0-via-else-len-eq0+then-len-most w ↦ inr (search rules)
    ] in
    no_bytes c.args.most c.args.word.now (search rules) outside

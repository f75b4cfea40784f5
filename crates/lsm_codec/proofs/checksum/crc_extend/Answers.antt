use Rattle.std.proofs.Common.{ap, ◌∙◌, ℕ, rules}
use Rattle.lsm_codec.specs.Crc.{crc_after}
use Rattle.lsm_codec.proofs.Shifts.{crc_after-crc}
use Rattle.lsm_codec.proofs.checksum.crc_extend.Goals as goal

pub returns-clause-value : goal.returns-clause-value
unfolding crc_after
returns-clause-value c = search rules

pub returns-clause-joins : goal.returns-clause-joins
returns-clause-joins c front e =
    returns-clause-value c ∙ ap (λ (x : ℕ). crc_after x c.args.bytes.now) e ∙ crc_after-crc front c.args.bytes.now

use Rattle.std.proofs.Common.{◌∙◌, ap, arith}
use Rattle.std.specs.Int.{w64, from_le_bytes}
use Rattle.lsm_codec.proofs.KeyParts.{eight_is}
use Rattle.lsm_codec.proofs.InternalKeys.{parts_of_key, key_long}
use Rattle.lsm_codec.proofs.internal_key.key_parts.Goals as goal

pub returns-then-bytes-lt8-clause-key : goal.returns-then-bytes-lt8-clause-key
returns-then-bytes-lt8-clause-key c key is = absurd (omega (arith, c.if-bytes-lt8.true, key_long c.args.bytes.now key is))

pub returns-clause-key : goal.returns-clause-key
returns-clause-key c key is =
    let parts = parts_of_key c.args.bytes.now key is in
    let tail = eight_is c.split_at.result.1.now (omega (arith, c.split_at.ensures.back_len, c.if-bytes-lt8.false)) in
    (c.split_at.ensures.front ∙ parts.0, c.from_le_bytes-packed.ensures ∙ ap (from_le_bytes w64) (tail ∙ c.split_at.ensures.back) ∙ parts.1)

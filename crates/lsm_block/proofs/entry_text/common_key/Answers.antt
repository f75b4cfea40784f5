use Rattle.std.proofs.Common.{◌≡◌, ◌<◌, length, drop, sym, ◌∙◌, arith}
use Rattle.std.specs.Int.{w64, to_le_bytes}
use Rattle.lsm_codec.specs.Keys.{packed}
use Rattle.lsm_codec.specs.KeyRef.{key_of}
use Rattle.lsm_block.specs.Building.{common}
use Rattle.lsm_block.proofs.BuildLaws.{common-fits, common-user, common-all}
use Rattle.lsm_block.proofs.entry_text.common_key.Goals as goal

pub returns-then-user-key : goal.returns-then-user-key
returns-then-user-key c =
    let user = c.args.key.now.user.now in
    let below : common c.args.before.now user < length user = omega (arith, c.common_prefix-user.ensures) in
    c.common_prefix-user.ensures ∙ sym (common-user c.args.before.now user (to_le_bytes w64 (packed (key_of c.args.key.now))) below)

pub split_at-requires : goal.split_at-requires
split_at-requires c = omega (arith, c.common_prefix-user.ensures, (common-fits c.args.before.now c.args.key.now.user.now).0)

pub overflow_add-result : goal.overflow_add-result
overflow_add-result c =
    let user = c.args.key.now.user.now in
    let first = (common-fits c.args.before.now user).1 in
    let second = (common-fits c.split_at.result.1.now c.to_le_bytes.result).1 in
    omega (arith, c.common_prefix-user.ensures, c.common_prefix.ensures, first, second)

pub returns : goal.returns
returns c =
    let user = c.args.key.now.user.now in
    let tail = to_le_bytes w64 (packed (key_of c.args.key.now)) in
    let all = common-all c.args.before.now user tail (omega (arith, c.common_prefix-user.ensures)) in
    let whole : c.common_prefix-user.result ≡ length user = omega (arith, c.common_prefix-user.ensures, (common-fits c.args.before.now user).1) in
    let rest : c.common_prefix.result ≡ common (drop (length user) c.args.before.now) tail = rw (c.split_at.ensures.back, whole, c.to_le_bytes.ensures, c.packed.ensures) at c.common_prefix.ensures in
    omega (arith, all, whole, rest)

use Rattle.std.proofs.Common.{ℕ, bit_xor, ◌/◌, ap, sym, ◌∙◌, arith}
use Rattle.lsm_codec.proofs.Shifts.{byte_step, register_after-one}
use Rattle.lsm_codec.proofs.bytewise.byte_step.Goals as goal

pub returns : goal.returns
returns c =
    ap (λ (x : ℕ). bit_xor x (c.args.register / 256)) (c.at_0.ensures)
    ∙ byte_step c.args.register c.args.byte (omega arith)
    ∙ sym (register_after-one c.args.register c.args.byte (omega arith))

use Rattle.std.proofs.Common.{◌∷◌, [], ℕ, take, get_or, sym, ap, ◌∙◌, arith}
use Rattle.std.proofs.lemmas.List.{take_more, take_all}
use Rattle.lsm_codec.specs.Crc.{register_after}
use Rattle.lsm_codec.proofs.Shifts.{register_after-nil, register_after-append}
use Rattle.lsm_codec.proofs.bytewise.absorb_bytes.Goals as goal

pub loop-byte-init : goal.loop-byte-init
loop-byte-init c = sym (register_after-nil c.args.register)

pub loop-byte-preserved : goal.loop-byte-preserved
loop-byte-preserved c =
    c.byte_step-register.ensures
    ∙ ap (λ (x : ℕ). register_after x (get_or c.args.bytes.now c.loop-byte.byte-index 0 ∷ [])) c.loop-byte.invariant
    ∙ sym (register_after-append (take c.loop-byte.byte-index c.args.bytes.now) (get_or c.args.bytes.now c.loop-byte.byte-index 0 ∷ []) c.args.register)
    ∙ ap (register_after c.args.register) (sym (take_more c.args.bytes.now c.loop-byte.byte-index 0 (omega arith)))

pub returns : goal.returns
returns c = c.loop-byte.invariant ∙ ap (register_after c.args.register) (take_all c.loop-byte.byte-index c.args.bytes.now (omega arith))

use Rattle.std.proofs.Common.{◌≡◌, ◌-◌, ◌+◌, length, drop, get_or, sym, arith}
use Rattle.std.proofs.lemmas.List.{take-append-drop, get_or-drop}
use Rattle.lsm_codec.specs.Keys.{kind_number}
use Rattle.lsm_codec.proofs.KeyParts.{is_key}
use Rattle.lsm_codec.proofs.internal_key.KeyRef.split.Goals as goal
use Rattle.lsm_codec.proofs.internal_key.KeyRef.split.Goals.{in-0, in-1}

pub returns-clause-found : goal.returns-clause-found
returns-clause-found c =
    let bytes = c.args.bytes.now in
    let n = length c.args.bytes.now - 8 in
    let tail = c.split_at.result.1.now in
    let back : c.split_at.result.1.now ≡ drop n c.args.bytes.now = c.split_at.ensures.back in
    let kind_is : kind_number c.match-tail.kind ≡ get_or c.split_at.result.1.now 0 0 = elim c.match-tail.branch [
      | in-0 w ↦ rw w.kind-is (omega arith)
      | in-1 w ↦ rw w.kind-is (omega arith)
    ] in
    is_key c.args.bytes.now c.split_at.result.0.now c.split_at.result.1.now c.from_le_bytes-packed.result c.match-tail.kind
    (rw (c.split_at.ensures.front, c.split_at.ensures.back) (sym (take-append-drop n c.args.bytes.now)))
    (omega (arith, c.split_at.ensures.back_len))
    (λ i. rw back (rw get_or-drop (omega (arith, c.type_inv.bytes (n + i)))))
    (omega arith)
    c.from_le_bytes-packed.ensures
    kind_is

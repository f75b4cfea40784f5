use Rattle.std.proofs.Common.{◌≡◌, ℕ, List, take, Ok, sym, ap, ◌∙◌, arith}
use Rattle.lsm_reader.proofs.BlocksLaws.{unsealed_is}
use Rattle.lsm_reader.proofs.judging.take_contents.Goals as goal

pub returns : goal.returns
returns c fits =
    let same : c.in-Some.size ≡ c.args.handle.size = omega (arith, c.if-size-handle.false) in
    let read = rw (same, c.deref.ensures.value) at c.in_ok-unseal.ensures in
    unsealed_is c.args.handle.offset c.args.handle.size c.args.text.items c.in_ok-unseal.field-0.now read ∙ ap (λ (xs : List ℕ). Ok xs) (sym (c.truncate.ensures.items ∙ ap (λ (n : ℕ). take n c.args.text.items) same))

use Rattle.std.proofs.Common.{◌≡◌, ℕ, List, take, drop, ap, ◌∙◌, subst, arith}
use Rattle.std.specs.Int.{w64, from_le_bytes}
use Rattle.std.proofs.lemmas.Nat.{le_bytes_8}
use Rattle.std.proofs.lemmas.List.{length-drop, length-take-le}
use Rattle.lsm_block.proofs.EntryLaws.{IsBytes-take, IsBytes-drop}
use Rattle.lsm_block.proofs.entry_text.eight_at.Goals as goal

pub returns : goal.returns
returns c =
    let rest = drop c.args.i c.args.bytes.now in
    let is : c.split_at-2.result.0.now ≡ take 8 rest = c.split_at-2.ensures.front ∙ ap (take 8) c.split_at.ensures.back in
    le_bytes_8 (take 8 rest) c.from_le_bytes.result (length-take-le 8 rest (omega (arith, c.requires, length-drop c.args.i c.args.bytes.now)))
    (IsBytes-take 8 rest (IsBytes-drop c.args.i c.args.bytes.now (λ i. omega (arith, c.type_inv.bytes i))))
    (subst (λ (eight : List ℕ). c.from_le_bytes.result ≡ from_le_bytes w64 eight) is c.from_le_bytes.ensures)

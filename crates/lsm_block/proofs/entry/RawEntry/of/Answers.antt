use Rattle.std.proofs.Common.{◌++◌, take, sym, ◌∙◌, arith}
use Rattle.lsm_codec.proofs.CallerLemmas.{IsBytes, is_key_at}
use Rattle.lsm_block.proofs.EntryLaws.{IsBytes-take, IsBytes-append}
use Rattle.lsm_block.proofs.entry.RawEntry.of.Goals as goal

pub returns-clause-kept : goal.returns-clause-kept
returns-clause-kept c =
    let front = take c.args.shared c.args.before.now in
    let own = c.split_at.result.0.now in
    let fits : IsBytes (front ++ own) = IsBytes-append front own (IsBytes-take c.args.shared c.args.before.now (λ i. omega (arith, c.type_inv.before i)))
    (rw c.split_at.ensures.front (IsBytes-take c.args.unshared c.args.rest.now (λ i. omega (arith, c.type_inv.rest i)))) in
    is_key_at (front ++ own) fits (rw c.of.ensures at (sym c.is_internal.ensures ∙ c.if-not-is_internal.false))

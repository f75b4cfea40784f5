use Rattle.std.proofs.Common.{ℕ, ◌-◌, List, length, ap, sym, arith}
use Rattle.lsm_codec.proofs.CallerLemmas.{shortest-last, shortest-more}
use Rattle.lsm_block.proofs.entry_text.+varint_len.Goals as goal

pub returns-then-n-lt128-clause-len : goal.returns-then-n-lt128-clause-len
returns-then-n-lt128-clause-len t c most h b = sym (ap (λ (x : List ℕ). length x) (shortest-last most c.args.n h c.if-n-lt128.true))

pub returns-clause-len : goal.returns-clause-len
returns-clause-len t c most h b =
    let more = shortest-more most c.args.n h (omega arith) b in
    let later = c.varint_len.ensures.len (most - 1) more.1 more.2 in
    let all = ap (λ (x : List ℕ). length x) more.0 in
    omega (arith, later, all)
